-- Addresses are in a total order of keys, and are told by them.
use Rattle.std.proofs.Common.{◌≡◌, ◌==◌, Some, None, refl, sym, ◌∙◌, ap, Ordering, Less, Equal, Greater, if◌then◌else◌}
use Rattle.std.specs.Cmp.{IsTotalOrder}
use Rattle.std.specs.Cmp.Lexicographic.{options_total}
use Rattle.std.specs.FinMap.{IsAntisymmetric, nat_cmp-IsAntisymmetric, slice_cmp-IsAntisymmetric}
use Rattle.std.specs.Option.{option_cmp}
use Rattle.std.specs.Ordering.{ordering_then}
use Rattle.std.proofs.lemmas.Cmp.{on_total, then_total, nat_cmp_total, nat_list_cmp_total}
use Rattle.jav_names.specs.Views.{IsKeyOrder}
use Rattle.mol_base.specs.Order.{id_cmp, id_cmp-total, id_cmp-IsAntisymmetric}
use Rattle.mol_base.specs.declared.ident.Id.{Id}
use Rattle.mol_faults_entities.specs.pair_faults.Addresses.{AddressKey, address_key, key_cmp}
use Rattle.mol_table_rules.specs.Faults.{Address, class_address, field_address, method_address, constructor_address}

-- ---- the order

pub then_both : (a b : Ordering) → ordering_then a b ≡ Equal → (a ≡ Equal) × (b ≡ Equal)
then_both Less b e = absurd cc
then_both Equal b e = (refl, e)
then_both Greater b e = absurd cc

owner-same : IsAntisymmetric (option_cmp id_cmp)
owner-same None None is = refl
owner-same None (Some y) is = absurd cc
owner-same (Some x) None is = absurd cc
owner-same (Some x) (Some y) is = ap (λ (id : Id). Some id) (id_cmp-IsAntisymmetric x y is)

key_cmp-total : IsTotalOrder key_cmp
key_cmp-total = then_total
    (then_total (on_total (λ (k : AddressKey). k.kind) nat_cmp_total) (on_total (λ (k : AddressKey). k.owner) (options_total id_cmp-total)))
    (then_total (then_total (on_total (λ (k : AddressKey). k.in_package) nat_list_cmp_total)
    (on_total (λ (k : AddressKey). k.name) nat_list_cmp_total)) (on_total (λ (k : AddressKey). k.arity) nat_cmp_total))

key_cmp-IsAntisymmetric : IsAntisymmetric key_cmp
key_cmp-IsAntisymmetric x y e =
    let parts = then_both _ _ e in
    let place = then_both _ _ parts.0 in
    let rest = then_both _ _ parts.1 in
    let names = then_both _ _ rest.0 in
    let kind = nat_cmp-IsAntisymmetric x.kind y.kind place.0 in
    let owner = owner-same x.owner y.owner place.1 in
    let in_package = slice_cmp-IsAntisymmetric nat_cmp-IsAntisymmetric x.in_package y.in_package names.0 in
    let name = slice_cmp-IsAntisymmetric nat_cmp-IsAntisymmetric x.name y.name names.1 in
    let arity = nat_cmp-IsAntisymmetric x.arity y.arity rest.1 in
    λ i. record {
      kind = kind i;
      owner = owner i;
      in_package = in_package i;
      name = name i;
      arity = arity i;
    }

pub key-order : IsKeyOrder key_cmp
key-order = record { total = key_cmp-total; same = key_cmp-IsAntisymmetric }

-- ---- an address is told by its key

abbrev address_by : AddressKey → Address
address_by key = if key.kind == 0 then class_address key.in_package key.name else if key.kind == 1 then field_address key.owner key.name
    else if key.kind == 2 then method_address key.owner key.name key.arity else constructor_address key.owner key.arity

address-kept : (address : Address) → address_by (address_key address) ≡ address
address-kept (class_address in_package name) = refl
address-kept (field_address owner name) = refl
address-kept (method_address owner name arity) = refl
address-kept (constructor_address owner arity) = refl

pub address-told : (first second : Address) → address_key first ≡ address_key second → first ≡ second
address-told first second same = sym (address-kept first) ∙ ap address_by same ∙ address-kept second
