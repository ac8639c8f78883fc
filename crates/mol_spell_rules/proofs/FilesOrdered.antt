-- The files of a program stand in order, one for each class that lives.
use Rattle.std.proofs.Common.{◌≡◌, ◌⊎◌, inl, inr, Bool, true, false, cond, List, [], ◌∷◌, map, filter, Option, Some, None, Contains, refl, sym, ◌∙◌, ap, subst, rules, true≢false, Ordering, Less, Equal, Greater}
use Rattle.std.specs.Prelude.{IsTrue, is_some, ◌&&◌}
use Rattle.std.specs.Cmp.{IsTotalOrder}
use Rattle.std.specs.Cmp.Rules.{comparing}
use Rattle.std.specs.FinMap.{IsAntisymmetric, get, keys, nat_cmp-IsAntisymmetric, slice_cmp-IsAntisymmetric}
use Rattle.std.specs.List.{AllByRecursion}
use Rattle.std.specs.List.Sorted.{IsStrictlySortedBy}
use Rattle.std.specs.Ordering.{on, ordering_then, nat_cmp}
use Rattle.std.specs.Cmp.Lexicographic.{slice_cmp}
use Rattle.jav_names.proofs.Lists.{stands_first, stands_later, stands_where, stands_nowhere, stands-mapped}
use Rattle.jav_names.specs.Views.{IsKeyOrder}
use Rattle.mol_base.specs.Order.{id_cmp, id_cmp-total, id_cmp-IsAntisymmetric}
use Rattle.mol_base.specs.declared.ident.Id.{Id}
use Rattle.mol_resolve_rules.proofs.Stands.{from_map}
use Rattle.mol_spell_rules.proofs.SetItems.{set-ascends, set-has, key-stands}
use Rattle.mol_spell_rules.specs.Laws.{key_of, IsSpelled, FilesInOrder}
use Rattle.mol_spell_rules.specs.Sets.{as_set}
use Rattle.mol_spell_rules.specs.SpelledUnits.{UnitKey, unit_key_cmp, SpelledUnit, spelled_unit, key_at, living_classes, units_of}
use Rattle.mol_table_rules.specs.Program.{Program, living_at}
use Rattle.mol_table_rules.specs.Renumber.{is_class, is_living_class}
use Rattle.mol_values_types.specs.declared.known.Known.{Known}

-- ---- the order of keys

pub then_both : (a b : Ordering) → ordering_then a b ≡ Equal → (a ≡ Equal) × (b ≡ Equal)
then_both Less b e = absurd cc
then_both Equal b e = (refl, e)
then_both Greater b e = absurd cc

unit_key_cmp-total : IsTotalOrder unit_key_cmp
unit_key_cmp-total = search (comparing, rules) depth 12

unit_key_cmp-IsAntisymmetric : IsAntisymmetric unit_key_cmp
unit_key_cmp-IsAntisymmetric x y e =
    let parts = then_both (slice_cmp nat_cmp x.path y.path) (id_cmp x.class y.class) e in
    let path = slice_cmp-IsAntisymmetric nat_cmp-IsAntisymmetric x.path y.path parts.0 in
    let class = id_cmp-IsAntisymmetric x.class y.class parts.1 in
    λ i. record { path = path i; class = class i }

unit_key_cmp-IsKeyOrder : IsKeyOrder unit_key_cmp
unit_key_cmp-IsKeyOrder = record { total = unit_key_cmp-total; same = unit_key_cmp-IsAntisymmetric }

id_cmp-IsKeyOrder : IsKeyOrder id_cmp
id_cmp-IsKeyOrder = record { total = id_cmp-total; same = id_cmp-IsAntisymmetric }

-- ---- lists that are made of keys

-- what is made of keys, each with its own key, ascends as they do
module _ {K X : Type 0} (cmp : K → K → Ordering) (key : X → K) (made : K → X) where
  keys-kept : (k : K) (ks : List K) → ((x : K) → Contains ks x → key (made x) ≡ x) → AllByRecursion (λ x. cmp k x ≡ Less) ks
      → AllByRecursion (λ y. cmp k (key y) ≡ Less) (map made ks)
  keys-kept k [] kept all = tt
  keys-kept k (x ∷ ks) kept all = (
    subst (λ z. cmp k z ≡ Less) (sym (kept x (stands_first x ks))) all.0,
    keys-kept k ks (λ y h. kept y (stands_later x y ks h)) all.1,
  )

  made-ascend : (ks : List K) → ((x : K) → Contains ks x → key (made x) ≡ x) → IsStrictlySortedBy cmp ks
      → IsStrictlySortedBy (on key cmp) (map made ks)
  unfolding IsStrictlySortedBy
  made-ascend [] kept up = tt
  made-ascend (k ∷ ks) kept up =
      let rest : (x : K) → Contains ks x → key (made x) ≡ x = λ x h. kept x (stands_later k x ks h) in (
        subst (λ z. AllByRecursion (λ y. cmp z (key y) ≡ Less) (map made ks)) (sym (kept k (stands_first k ks)))
            (keys-kept k ks rest up.0),
        made-ascend ks rest up.1,
      )

-- ---- what passes a test

module _ {X : Type 0} (test : X → Bool) where
  pub filter-stands : (xs : List X) (x : X) → Contains xs x → test x ≡ true → Contains (filter test xs) x
  filter-stands [] x stands passes = absurd (stands_nowhere x stands)
  filter-stands (z ∷ xs) x stands passes = by (test z) refl (stands_where z x xs stands) (λ h. filter-stands xs x h passes) where
    by : (b : Bool) → test z ≡ b → (z ≡ x) ⊎ Contains xs x → (Contains xs x → Contains (filter test xs) x)
        → Contains (cond b (z ∷ filter test xs) (filter test xs)) x
    by true is (inl same) more = subst (Contains (z ∷ filter test xs)) same (stands_first z (filter test xs))
    by true is (inr later) more = stands_later z x (filter test xs) (more later)
    by false is (inl same) more = absurd (true≢false (sym passes ∙ ap test (sym same) ∙ is))
    by false is (inr later) more = more later

  pub filter-passes : (xs : List X) (x : X) → Contains (filter test xs) x → Contains xs x × (test x ≡ true)
  filter-passes [] x stands = absurd (stands_nowhere x stands)
  filter-passes (z ∷ xs) x stands = by (test z) refl stands (filter-passes xs x) where
    later : Contains xs x × (test x ≡ true) → Contains (z ∷ xs) x × (test x ≡ true)
    later found = (stands_later z x xs found.0, found.1)

    first : (is : test z ≡ true) → (z ≡ x) ⊎ Contains (filter test xs) x
        → (Contains (filter test xs) x → Contains xs x × (test x ≡ true)) → Contains (z ∷ xs) x × (test x ≡ true)
    first is (inl same) more = (subst (Contains (z ∷ xs)) same (stands_first z xs), ap test (sym same) ∙ is)
    first is (inr there) more = later (more there)

    by : (b : Bool) → test z ≡ b → Contains (cond b (z ∷ filter test xs) (filter test xs)) x
        → (Contains (filter test xs) x → Contains xs x × (test x ≡ true)) → Contains (z ∷ xs) x × (test x ≡ true)
    by true is here more = first is (stands_where z x (filter test xs) here) more
    by false is here more = later (more here)

-- ---- classes that live

class-known : (known : Option Known) (living : Bool) → (is_class known && living) ≡ true → is_some known ≡ true
class-known None living h = absurd (true≢false (sym h))
class-known (Some known) living h = refl

module _ (program : Program) where
  living-stands : (class : Id) → IsTrue (is_living_class program class) → Contains (living_classes program) class
  living-stands class lives =
      filter-stands (is_living_class program) (keys program.known) class
      (key-stands id_cmp id_cmp-IsKeyOrder program.known class
      (class-known (get program.known class) (living_at program class) lives)) lives

  living-lives : (class : Id) → Contains (living_classes program) class → IsTrue (is_living_class program class)
  living-lives class stands = (filter-passes (is_living_class program) (keys program.known) class stands).1

  -- ---- their files

  abbrev class_keys : List UnitKey
  class_keys = map (key_at program) (living_classes program)

  abbrev unit_at : UnitKey → SpelledUnit
  unit_at key = spelled_unit program key.class

  -- a key of the set is that of its class
  key-kept : (key : UnitKey) → Contains (as_set unit_key_cmp class_keys) key → key_of (unit_at key) ≡ key
  key-kept key stands =
      let found = from_map (key_at program) (living_classes program) key
      ((set-has unit_key_cmp unit_key_cmp-IsKeyOrder class_keys key).0 stands) in
      subst (λ key. key_of (unit_at key) ≡ key) found.2 refl

  ascend : IsStrictlySortedBy (on key_of unit_key_cmp) (units_of program)
  ascend = made-ascend unit_key_cmp key_of unit_at (as_set unit_key_cmp class_keys) key-kept
      (set-ascends unit_key_cmp unit_key_cmp-IsKeyOrder class_keys)

  spelled-found : (unit : SpelledUnit) → Contains (units_of program) unit → IsSpelled program unit
  spelled-found unit stands =
      let key = from_map unit_at (as_set unit_key_cmp class_keys) unit stands in
      let class = from_map (key_at program) (living_classes program) key.0
      ((set-has unit_key_cmp unit_key_cmp-IsKeyOrder class_keys key.0).0 key.1) in
      record { class = class.0; lives = living-lives class.0 class.1; is = sym key.2 ∙ ap unit_at (sym class.2) }

  spelled-stands : (unit : SpelledUnit) → IsSpelled program unit → Contains (units_of program) unit
  spelled-stands unit spelled =
      let key = (set-has unit_key_cmp unit_key_cmp-IsKeyOrder class_keys (key_at program spelled.class)).1
      (stands-mapped (key_at program) (living_classes program) spelled.class (living-stands spelled.class spelled.lives)) in
      subst (Contains (units_of program)) (sym spelled.is)
      (stands-mapped unit_at (as_set unit_key_cmp class_keys) (key_at program spelled.class) key)

pub files_in_order : FilesInOrder
files_in_order = record {
  ascending = ascend;
  each = λ program unit. (spelled-found program unit, spelled-stands program unit);
}
