-- Whether a member is named so, and which classes lack one.
use Rattle.std.proofs.Common.{◌≡◌, ℕ, ◌==◌, eqb-true, Bool, true, false, ◌&&◌, not, List, map, filter_map, Option, Some, None, Contains, find, slice_get, refl, sym, ◌∙◌, ap, subst, true≢false, bytes_eq, if◌then◌else◌}
use Rattle.std.specs.Bool.{Decides}
use Rattle.std.specs.List.{list_any}
use Rattle.std.specs.List.Sorted.{IsPartitionPoint, IsSorted}
use Rattle.std.specs.Ordering.{is_eq, is_lt}
use Rattle.std.specs.Prelude.{◌↔◌, IsTrue}
use Rattle.std.proofs.lemmas.Cmp.{tied_itself}
use Rattle.std.proofs.lemmas.List.Elements.{All-contains}
use Rattle.std.proofs.lemmas.Slice.Eq.{bytes_eq-Decides}
use Rattle.jav_names.proofs.index_lemmas.Searched.{equal-is, found-nowhere, found-past}
use Rattle.jav_names.proofs.Lists.{find-found, find-none, list_any-decides, stands-mapped}
use Rattle.jav_names.specs.DottedNames.{Name}
use Rattle.jav_names.specs.LookUps.{is_constructor, is_method}
use Rattle.jav_names.specs.Views.{ViewDeclaration, ViewField, View}
use Rattle.mol_base.specs.declared.ident.Id.{Id}
use Rattle.mol_resolve_rules.proofs.Stands.{from_map, in_place, in_some}
use Rattle.mol_scope_members.specs.declaring.Indexed.{declared_field, declared_method}
use Rattle.mol_scope_members.specs.declaring.Owners.{IsNamed, Naming, Row, field_row, method_row, naming_cmp, naming_of, place_cmp, placed_row}
use Rattle.mol_scope_members.specs.declared.declaring.owner.PlacedOwner.{PlacedOwner}
use Rattle.mol_scope_members.proofs.declaring_lemmas.OwnersPlaced.{by-naming, naming-same, naming_cmp-total}

and-both : (a b : Bool) → (a && b) ≡ true → (a ≡ true) × (b ≡ true)
and-both true b is = (refl, is)
and-both false b is = absurd (true≢false (sym is))

not-true : (b : Bool) → not b ≡ true → b ≡ false
not-true true is = sym is
not-true false is = refl

-- ---- a search

module _ (owners : List PlacedOwner) (up : IsSorted place_cmp owners) (k : Naming) (start : ℕ)
    (point : IsPartitionPoint (λ owner. is_lt (naming_cmp (naming_of owner) k) ≡ true)
    (λ owner. is_lt (naming_cmp (naming_of owner) k) ≡ false) owners start) where
  abbrev is_named : PlacedOwner → Bool
  is_named owner = is_eq (naming_cmp (naming_of owner) k)

  none-named : find is_named owners ≡ None → IsNamed owners k → ⊥
  none-named none named =
      let found = from_map placed_row owners (record { arity = k.arity; name = k.name; class = named.class }) named.stands in
      let same : naming_of found.0 ≡ k = (λ i. record { arity = (found.2 i).arity; name = (found.2 i).name }) in
      All-contains (λ z. ¬ (is_named z ≡ true)) owners found.0
      (find-none (λ z. is_named z ≡ true) is_named (λ z. (λ is. is, λ is. is)) owners none) found.1
      (ap is_eq (ap (λ n. naming_cmp n k) same ∙ tied_itself naming_cmp-total k))

  pub named-past : slice_get owners start ≡ None → IsTrue false ↔ IsNamed owners k
  named-past past = (
    λ is. absurd cc,
    λ named. absurd (none-named (found-past naming_cmp naming_cmp-total naming_of k owners start point past) named),
  )

  pub named-there : (owner : PlacedOwner) → slice_get owners start ≡ Some owner → (b : Bool) → b ≡ is_named owner
      → IsTrue b ↔ IsNamed owners k
  named-there owner is true test = (
    λ yes. record {
      class = owner.class;
      stands =
          let same = naming-same (naming_of owner) k (equal-is (naming_cmp (naming_of owner) k) (sym test)) in
          subst (Contains (map placed_row owners))
          (λ i. record { arity = (same i).arity; name = (same i).name; class = owner.class })
          (stands-mapped placed_row owners owner (in_place owners start owner is));
    },
    λ named. refl,
  )
  named-there owner is false test = (
    λ yes. absurd cc,
    λ named. absurd (none-named
        (found-nowhere naming_cmp naming_cmp-total naming_of k owners start point owner is (sym test) (by-naming owners up)) named),
  )

-- ---- what a class declares by itself

-- what is found passes
find-passes : {X : Type 0} (p : X → Bool) (xs : List X) (x : X) → find p xs ≡ Some x → Contains xs x × (p x ≡ true)
find-passes p = find-found (λ x. p x ≡ true) p (λ x. (λ is. is, λ is. is))

module _ (view : View Id Id) (class : Id) (name : Name) where
  -- where no field of this name has the class as its owner, it declares none
  pub no-field : (Contains (map field_row view.fields) (record { arity = 0; name = name; class = class }) → ⊥)
      → ((a b : Id) → is_eq (view.classes.cmp a b) ≡ true → a ≡ b) → declared_field view class name ≡ None
  no-field none same = by (declared_field view class name) refl where
    by : (o : Option (ViewField Id Id)) → declared_field view class name ≡ o → o ≡ None
    by None is = refl
    by (Some field) is =
        let found = find-passes (λ (f : ViewField Id Id). bytes_eq f.name name && is_eq (view.classes.cmp f.owner class)) view.fields field is in
        let both = and-both (bytes_eq field.name name) (is_eq (view.classes.cmp field.owner class)) found.1 in
        let named : field.name ≡ name = (bytes_eq-Decides field.name name).0 both.0 in
        let owned : field.owner ≡ class = same field.owner class both.1 in
        absurd (none (subst (Contains (map field_row view.fields)) (λ i. record { arity = 0; name = named i; class = owned i })
        (stands-mapped field_row view.fields field found.0)))

  pub no-method : (arity : ℕ)
      → (Contains (filter_map method_row view.declarations) (record { arity = arity; name = name; class = class }) → ⊥)
      → ((a b : Id) → is_eq (view.classes.cmp a b) ≡ true → a ≡ b) → declared_method view class name arity ≡ None
  no-method arity none same = by (declared_method view class name arity) refl where
    by : (o : Option (ViewDeclaration Id Id)) → declared_method view class name arity ≡ o → o ≡ None
    by None is = refl
    by (Some declared) is =
        let found = find-passes (λ (d : ViewDeclaration Id Id). is_method name arity d && is_eq (view.classes.cmp d.owner class))
        view.declarations declared is in
        let both = and-both (is_method name arity declared) (is_eq (view.classes.cmp declared.owner class)) found.1 in
        let method = and-both (not (is_constructor declared.kind)) (bytes_eq declared.name name && declared.arity == arity) both.0 in
        let naming = and-both (bytes_eq declared.name name) (declared.arity == arity) method.1 in
        let named : declared.name ≡ name = (bytes_eq-Decides declared.name name).0 naming.0 in
        let takes : declared.arity ≡ arity = eqb-true declared.arity arity naming.1 in
        let owned : declared.owner ≡ class = same declared.owner class both.1 in
        let row : Row = record { arity = declared.arity; name = declared.name; class = declared.owner } in
        let kept : method_row declared ≡ Some row = ap (λ b. if b then None else Some row) (not-true (is_constructor declared.kind) method.0) in
        absurd (none (subst (Contains (filter_map method_row view.declarations))
        (λ i. record { arity = takes i; name = named i; class = owned i })
        (in_some method_row view.declarations declared row found.0 kept)))

-- ---- whether a field has this name

pub any-named : (fields : List (ViewField Id Id)) (name : Name) (b : Bool)
    → (b ≡ true → (class : Id) × Contains (map field_row fields) (record { arity = 0; name = name; class = class }))
    → ((class : Id) → Contains (map field_row fields) (record { arity = 0; name = name; class = class }) → b ≡ true)
    → Decides b ((field : ViewField Id Id) × Contains fields field × (field.name ≡ name))
any-named fields name b some each = (
  λ is.
      let row = some is in
      let found = from_map field_row fields (record { arity = 0; name = name; class = row.0 }) row.1 in
      (found.0, found.1, ap (λ (r : Row). r.name) found.2),
  λ found. each found.0.owner (subst (Contains (map field_row fields)) (λ i. record { arity = 0; name = found.2 i; class = found.0.owner })
      (stands-mapped field_row fields found.0 found.1)),
)

pub any-decides : (fields : List (ViewField Id Id)) (name : Name)
    → Decides (list_any (λ (f : ViewField Id Id). bytes_eq f.name name) fields) ((f : ViewField Id Id) × Contains fields f × (f.name ≡ name))
any-decides fields name = list_any-decides (λ (f : ViewField Id Id). f.name ≡ name) (λ f. bytes_eq f.name name)
    (λ f. bytes_eq-Decides f.name name) fields
