-- Addresses as the code keeps them, and their order.
use Rattle.std.specs.Prelude.{ℕ, List, [], Option, None, option_map, if◌then◌else◌}
use Rattle.std.specs.Cmp.Lexicographic.{slice_cmp}
use Rattle.std.specs.Option.{option_cmp}
use Rattle.std.specs.Ordering.{nat_cmp, on, then_cmp}
use Rattle.std.specs.declared.cmp.Ordering.{Ordering}
use Rattle.jav_names.specs.DottedNames.{Name}
use Rattle.mol_base.specs.Order.{id_cmp}
use Rattle.mol_base.specs.declared.ident.Id.{Id}
use Rattle.mol_faults_entities.specs.pair_faults.MadeRows.{AreMade}
use Rattle.mol_faults_entities.specs.declared.pair_faults.address.Address.{Address as Kept}
use Rattle.mol_faults_entities.specs.declared.pair_faults.address_kind.AddressKind.{AddressKind}
use Rattle.mol_faults_entities.specs.declared.pair_faults.address_kind.AddressKind.TheVariants.{Class, Field, Method, Constructor}
use Rattle.mol_faults_entities.specs.declared.pair_faults.addressed.Addressed.{Addressed}
use Rattle.mol_table_rules.specs.Faults.{Address, class_address, field_address, method_address, constructor_address, address}
use Rattle.mol_table_rules.specs.Life.{lives}
use Rattle.mol_table_rules.specs.Program.{Program}

-- what addresses are compared by; what an address does not have is empty
pub record AddressKey : Type 0 where
  pub kind : ℕ
  pub owner : Option Id
  pub in_package : Name
  pub name : Name
  pub arity : ℕ

abbrev pub address_key : Address → AddressKey
address_key (class_address in_package name) = record { kind = 0; owner = None; in_package = in_package; name = name; arity = 0 }
address_key (field_address owner name) = record { kind = 1; owner = owner; in_package = []; name = name; arity = 0 }
address_key (method_address owner name arity) = record { kind = 2; owner = owner; in_package = []; name = name; arity = arity }
address_key (constructor_address owner arity) = record { kind = 3; owner = owner; in_package = []; name = []; arity = arity }

abbrev pub names_cmp : AddressKey → AddressKey → Ordering
names_cmp = then_cmp (then_cmp (on (λ key. key.in_package) (slice_cmp nat_cmp)) (on (λ key. key.name) (slice_cmp nat_cmp)))
    (on (λ key. key.arity) nat_cmp)

abbrev pub key_cmp : AddressKey → AddressKey → Ordering
key_cmp = then_cmp (then_cmp (on (λ key. key.kind) nat_cmp) (on (λ key. key.owner) (option_cmp id_cmp))) names_cmp

-- ---- as the code keeps them

abbrev pub kind_rank : AddressKind → ℕ
kind_rank Class = 0
kind_rank Field = 1
kind_rank Method = 2
kind_rank Constructor = 3

abbrev pub key_of : Kept → AddressKey
key_of kept = record {
  kind = kind_rank kept.kind;
  owner = kept.owner;
  in_package = kept.«package».now;
  name = kept.name.now;
  arity = kept.arity;
}

-- ---- entities by their addresses

pub record Location : Type 0 where
  pub key : AddressKey
  pub id : Id

abbrev pub located : Addressed → Location
located row = record { key = key_of row.address; id = row.id }

abbrev pub location_cmp : Addressed → Addressed → Ordering
location_cmp = on (λ row. key_of row.address) key_cmp

abbrev pub location_of : Id → Address → Location
location_of id place = record { key = address_key place; id = id }

-- an entity that lives, by its address, if it has one
abbrev pub located_at : Program → Id → Option Location
located_at program id = if lives program id then option_map (location_of id) (address program id) else None

-- These are all that live and have an address.
abbrev pub AreLocated : Program → List Location → Type 0
AreLocated program = AreMade (λ (location : Location). location.id) (located_at program)
