-- The faults of a method beside the methods of one ancestor after another.
use Rattle.std.proofs.Common.{◌≡◌, ℕ, ◌-◌, ◌<◌, Bool, true, false, ◌||◌, ◌&&◌, not, ◌==◌, if◌then◌else◌, List, [], ◌∷◌, ◌++◌, length, flat_map, Contains, Option, Some, None, slice_get, true≢false, refl, sym, ◌∙◌, ap, subst, arith}
use Rattle.std.specs.List.{list_any}
use Rattle.std.proofs.lemmas.List.Folds.{list_any-append}
use Rattle.jav_scope.specs.ancestors.Steps.{next_up, steps_up, unless_from}
use Rattle.jav_scope.proofs.ancestors_lemmas.Ascended.{met-ancestors}
use Rattle.jav_scope.proofs.ancestors_lemmas.Stepped.{ended, many-classes, stepped}
use Rattle.jav_scope.proofs.ascent_lemmas.ClassNumbers.{class-below}
use Rattle.jav_scope.specs.Entries.{units_of, view_in}
use Rattle.jav_scope.specs.declared.source.SourceUnit.{SourceUnit}
use Rattle.jav_names.specs.LookUps.{ancestors, class_above}
use Rattle.jav_names.specs.UnitViews.{MemberKey, numbered}
use Rattle.jav_names.specs.Views.{View}
use Rattle.jav_names.proofs.Lists.{stands_nowhere}
use Rattle.jav_names.proofs.UnitsOrdered.{classes_of-ordered}
use Rattle.jav_names.proofs.Ways.{class_above-is}
use Rattle.mol_resolve_faults.specs.beside.Beside.{Faulty}
use Rattle.mol_resolve_faults.specs.beside.Between.{are_namesakes, faulty_below, faulty_here, gives_same, takes_same}
use Rattle.mol_resolve_faults.specs.beside.Classes.{either, rows_above, rows_if, rows_of}
use Rattle.mol_resolve_faults.proofs.beside_lemmas.KindsNoted.{any-there, there-any}
use Rattle.mol_resolve_members.specs.sources.Sources.{files_of}
use Rattle.mol_resolve_members.proofs.sources_lemmas.Sourced.{sources_viewed}
use Rattle.mol_resolve_rules.specs.Files.{File, Files, files_view}
use Rattle.mol_resolve_rules.specs.MemberFaults.{MemberKind, a_field, a_method, a_constructor, Row}
use Rattle.mol_resolve_rules.specs.ResolveFaults.{rows_in, rows as all_rows}
use Rattle.mol_resolve_rules.proofs.Stands.{from_each, in_each, in_numbered}
use Rattle.mol_resolve_classes.specs.related.Compared.{has_fault}

-- ---- tests of lists that come one after another

any-flat : {X Y : Type 0} (p : Y → Bool) (make : X → List Y) (xs : List X)
    → list_any p (flat_map make xs) ≡ list_any (λ x. list_any p (make x)) xs
any-flat p make [] = refl
any-flat p make (x ∷ xs) =
    list_any-append p (make x) (flat_map make xs) ∙ ap (λ rest. list_any p (make x) || rest) (any-flat p make xs)

or_assoc : (a b c : Bool) → ((a || b) || c) ≡ (a || (b || c))
or_assoc true b c = refl
or_assoc false b c = refl

or-false : (a : Bool) → (a || false) ≡ a
or-false true = refl
or-false false = refl

-- ---- faults of several

either-assoc : (a b c : Faulty) → either (either a b) c ≡ either a (either b c)
either-assoc a b c = λ i. record {
  duplicate = or_assoc a.duplicate b.duplicate c.duplicate i;
  overload = or_assoc a.overload b.overload c.overload i;
  result = or_assoc a.result b.result c.result i;
  static = or_assoc a.static b.static c.static i;
}

abbrev pub none : Faulty
none = record { duplicate = false; overload = false; result = false; static = false }

pub either-none : (a : Faulty) → either a none ≡ a
either-none a = λ i. record {
  duplicate = or-false a.duplicate i;
  overload = or-false a.overload i;
  result = or-false a.result i;
  static = or-false a.static i;
}

-- of what is no method the methods above do not count
module _ (rows above : List (Row ℕ)) (row : Row ℕ) (kind : MemberKind) where
  abbrev IsAlone : MemberKind → Type 0
  IsAlone kind = faulty_here kind rows row ≡ either (faulty_here kind rows row) (faulty_below kind above row)

  pub field-alone : kind ≡ a_field → IsAlone kind
  field-alone is = subst IsAlone (sym is) (sym (either-none (faulty_here a_field rows row)))

  pub constructor-alone : kind ≡ a_constructor → IsAlone kind
  constructor-alone is = subst IsAlone (sym is) (sym (either-none (faulty_here a_constructor rows row)))

below-append : (xs ys : List (Row ℕ)) (row : Row ℕ)
    → faulty_below a_method (xs ++ ys) row ≡ either (faulty_below a_method xs row) (faulty_below a_method ys row)
below-append xs ys row = λ i. record {
  duplicate = false;
  overload = list_any-append (λ first. are_namesakes a_method first row && not (takes_same first row)) xs ys i;
  result = list_any-append (λ first. are_namesakes a_method first row && not (gives_same first row)) xs ys i;
  static = list_any-append (λ first. are_namesakes a_method first row && (first.is_static || row.is_static)) xs ys i;
}

-- ---- where no method of any class differs

or-none : (a b : Bool) → (a || b) ≡ false → (a ≡ false) × (b ≡ false)
or-none true b is = absurd cc
or-none false b is = (refl, is)

module _ (files : Files) (unit : ℕ) where
  class-row : (class : ℕ) (row : Row ℕ) → Contains (rows_of files class) row → Contains (all_rows files) row
  class-row class row = by (slice_get files class) refl where
    by : (o : Option File) → slice_get files class ≡ o → Contains (rows_if files class o) row → Contains (all_rows files) row
    by None is stands = absurd (stands_nowhere row stands)
    by (Some file) is stands = in_each (rows_in files) (numbered files) (class, file) row (in_numbered files class file is) stands

  above-row : (row : Row ℕ) → Contains (rows_above files unit) row → Contains (all_rows files) row
  above-row row stands =
      let of_class = from_each (rows_of files) (ancestors (files_view files) unit) row stands in
      class-row of_class.0 row of_class.2

  -- a test that no row passes no row above passes
  never-above : (p : Row ℕ → Bool) → list_any p (all_rows files) ≡ false
      → list_any p (all_rows files) ≡ list_any p (rows_above files unit)
  never-above p never = never ∙ sym (by (list_any p (rows_above files unit)) refl) where
    by : (b : Bool) → list_any p (rows_above files unit) ≡ b → list_any p (rows_above files unit) ≡ false
    by true some =
        let found = there-any p (rows_above files unit) some in
        absurd (true≢false (sym (any-there p (all_rows files) found.0 (above-row found.0 found.1) found.2) ∙ never))
    by false none = none

  pub none-above : (row : Row ℕ) → has_fault (faulty_below a_method (all_rows files) row) ≡ false
      → faulty_below a_method (all_rows files) row ≡ faulty_below a_method (rows_above files unit) row
  none-above row none =
      let all = faulty_below a_method (all_rows files) row in
      let overload = or-none all.overload (all.result || all.static) none in
      let rest = or-none all.result all.static overload.1 in
      λ i. record {
        duplicate = false;
        overload = never-above (λ first. are_namesakes a_method first row && not (takes_same first row)) overload.0 i;
        result = never-above (λ first. are_namesakes a_method first row && not (gives_same first row)) rest.0 i;
        static = never-above (λ first. are_namesakes a_method first row && (first.is_static || row.is_static)) rest.1 i;
      }

-- ---- going up

module _ (sources : List SourceUnit) where
  abbrev view : View ℕ MemberKey
  view = view_in sources

  abbrev rows : ℕ → List (Row ℕ)
  rows = rows_of (files_of sources)

  module _ (unit : ℕ) (row : Row ℕ) where
    -- those of the classes that so many steps up from here lead to
    abbrev pub faulty_from : ℕ → ℕ → Faulty
    faulty_from steps at = faulty_below a_method (flat_map rows (steps_up steps view unit at)) row

    -- Faults that are known so far, and those of so many steps more, are those of all steps.
    abbrev pub IsSoFar : ℕ → Faulty → ℕ → ℕ → Type 0
    IsSoFar count faulty steps at = faulty_from count unit ≡ either faulty (faulty_from steps at)

    pub begun : (count : ℕ) → IsSoFar count none (count - 0) unit
    begun count = ap (λ steps. faulty_from steps unit) (let whole : count ≡ count - 0 = omega arith in whole)

    module _ (count steps at : ℕ) (faulty : Faulty) (some : 0 < steps) (so_far : IsSoFar count faulty steps at) where
      pub gone_on : (next : ℕ) (below : Faulty) → Some next ≡ next_up view unit at → below ≡ faulty_below a_method (rows next) row
          → IsSoFar count (either faulty below) (steps - 1) next
      gone_on next below up is =
          so_far
          ∙ ap (λ classes. either faulty (faulty_below a_method (flat_map rows classes) row)) (stepped view unit at steps next some up)
          ∙ ap (either faulty) (below-append (rows next) (flat_map rows (steps_up (steps - 1) view unit next)) row
          ∙ ap (λ b. either b (faulty_from (steps - 1) next)) (sym is))
          ∙ sym (either-assoc faulty below (faulty_from (steps - 1) next))

      pub stopped : None ≡ next_up view unit at → faulty_from count unit ≡ faulty
      stopped up =
          so_far
          ∙ ap (λ classes. either faulty (faulty_below a_method (flat_map rows classes) row)) (ended view unit at steps some up)
          ∙ either-none faulty

    pub used_up : (count at : ℕ) (faulty : Faulty) → IsSoFar count faulty 0 at → faulty_from count unit ≡ faulty
    used_up count at faulty so_far = so_far ∙ either-none faulty

    -- as many steps as there are classes lead to the ancestors
    any-above : (p : Row ℕ → Bool) → list_any p (flat_map rows (steps_up (length sources) view unit unit))
        ≡ list_any p (rows_above (files_of sources) unit)
    any-above p =
        any-flat p rows (steps_up (length sources) view unit unit)
        ∙ met-ancestors view (classes_of-ordered (units_of sources)) unit (λ class. list_any p (rows class)) (length sources)
        (many-classes sources)
        ∙ sym (any-flat p rows (ancestors view unit))
        ∙ ap (λ (v : View ℕ MemberKey). list_any p (flat_map rows (ancestors v unit))) (sym (sources_viewed.same_view sources))

    pub from-all : faulty_from (length sources) unit ≡ faulty_below a_method (rows_above (files_of sources) unit) row
    from-all = λ i. record {
      duplicate = false;
      overload = any-above (λ first. are_namesakes a_method first row && not (takes_same first row)) i;
      result = any-above (λ first. are_namesakes a_method first row && not (gives_same first row)) i;
      static = any-above (λ first. are_namesakes a_method first row && (first.is_static || row.is_static)) i;
    }

  -- the next class up is one of the files
  pub next-below : (unit at next : ℕ) → Some next ≡ next_up view unit at → next < length sources
  next-below unit at next up = by (class_above view at) refl up where
    by_test : (b : Bool) (above : ℕ) → class_above view at ≡ Some above → Some next ≡ (if b then None else Some above)
        → next < length sources
    by_test true above is up = absurd cc
    by_test false above is up =
        let same : next ≡ above = cc in
        subst (λ class. class < length sources) (sym same)
        (class-below sources above (class_above-is view (classes_of-ordered (units_of sources)) at above is).stands)

    by : (o : Option ℕ) → class_above view at ≡ o → Some next ≡ unless_from unit o → next < length sources
    by None is up = absurd cc
    by (Some above) is up = by_test (above == unit) above is up
