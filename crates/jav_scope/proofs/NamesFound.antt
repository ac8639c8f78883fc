-- What the indexes of full names and imports find.
use Rattle.std.proofs.Common.{◌≡◌, ◌≢◌, ℕ, zero, suc, ◌+◌, ◌<◌, Bool, true, false, cond, List, [], ◌∷◌, map, Option, Some, None, option_map, find, flat_map, slice_get, refl, sym, ◌∙◌, ap, arith, bytes_eq, ◌&&◌, nat_cmp}
use Rattle.std.specs.List.{enumerate_from}
use Rattle.std.specs.Option.{option_or}
use Rattle.std.specs.Ordering.{is_eq}
use Rattle.std.proofs.lemmas.Cmp.{tied_itself, nat_cmp_total}
use Rattle.std.proofs.lemmas.Option.{slice_get-map}
use Rattle.jav_tree.specs.declared.unit.Unit.{Unit}
use Rattle.jav_names.specs.DottedNames.{Name, simple_name}
use Rattle.jav_names.specs.LookUps.{class_named, import_of}
use Rattle.jav_names.specs.Types.{full_name}
use Rattle.jav_names.specs.UnitViews.{numbered, class_of}
use Rattle.jav_names.specs.Views.{ViewClass}
use Rattle.jav_names.specs.index.Seeking.{is_sought, FindsSame}
use Rattle.jav_names.specs.declared.index.entry.Entry.{Entry}
use Rattle.jav_scope.specs.Entries.{units_of, classes_in, class_entry, import_entry, import_entries}
use Rattle.jav_scope.specs.declared.source.SourceUnit.{SourceUnit}
use Rattle.jav_scope.proofs.Finding.{find-map, find-append, find-never, option_map-twice, found-made, sought-is, sought-of_other}

-- ---- full names

module _ (sources : List SourceUnit) (full_names : List Entry)
    (indexed : FindsSame full_names (map class_entry (numbered (units_of sources)))) (name : Name) where
  abbrev named : ℕ × Unit → Bool
  named unit = bytes_eq (full_name (class_of unit)) name

  pub found-class : option_map (λ entry. entry.place) (find (is_sought 0 0 name) full_names)
      ≡ option_map (λ class. class.key) (class_named (classes_in sources) name)
  found-class =
      ap (option_map (λ (entry : Entry). entry.place)) (
      indexed 0 0 name ∙ found-made class_entry 0 0 name named (λ unit. sought-is 0 0 name (class_entry unit)) (numbered (units_of sources))
      )
      ∙ option_map-twice class_entry (λ (entry : Entry). entry.place) (find named (numbered (units_of sources)))
      ∙ sym (
      ap (option_map (λ (class : ViewClass ℕ). class.key))
      (find-map class_of (λ class. bytes_eq (full_name class) name) (numbered (units_of sources)))
      ∙ option_map-twice class_of (λ (class : ViewClass ℕ). class.key) (find named (numbered (units_of sources)))
      )

-- ---- one of a list, with its place

module _ {X : Type 0} (p : X → Bool) where
  -- the place, counted from a number on
  found-place : (n : ℕ) (xs : List X) (at : ℕ × X) → find (λ x. p x.1) (enumerate_from n xs) ≡ Some at
      → (k : ℕ) × (at.0 ≡ n + k) × (slice_get xs k ≡ find p xs)
  found-place n [] at is = absurd cc
  found-place n (x ∷ xs) at is = by_test (p x) is (found-place (n + 1) xs at) where
    by_test : (b : Bool) → cond b (Some (n, x)) (find (λ x. p x.1) (enumerate_from (n + 1) xs)) ≡ Some at
        → (find (λ x. p x.1) (enumerate_from (n + 1) xs) ≡ Some at → (k : ℕ) × (at.0 ≡ n + 1 + k) × (slice_get xs k ≡ find p xs))
        → (k : ℕ) × (at.0 ≡ n + k) × (slice_get (x ∷ xs) k ≡ cond b (Some x) (find p xs))
    by_test true is more =
        let same : (n, x) ≡ at = cc in
        (0, omega (arith, ap (λ (y : ℕ × X). y.0) same), refl)
    by_test false is more = let later = more is in (suc later.0, omega (arith, later.1), later.2)

  found-nowhere : (n : ℕ) (xs : List X) → find (λ x. p x.1) (enumerate_from n xs) ≡ None → find p xs ≡ None
  found-nowhere n [] is = refl
  found-nowhere n (x ∷ xs) is = by_test (p x) is (found-nowhere (n + 1) xs) where
    by_test : (b : Bool) → cond b (Some (n, x)) (find (λ x. p x.1) (enumerate_from (n + 1) xs)) ≡ None
        → (find (λ x. p x.1) (enumerate_from (n + 1) xs) ≡ None → find p xs ≡ None) → cond b (Some x) (find p xs) ≡ None
    by_test true is more = absurd cc
    by_test false is more = more is

-- ---- imports

module _ (name : Name) where
  abbrev imported : ℕ × Name → Bool
  imported import = bytes_eq (simple_name import.1) name

  of-other : (m n : ℕ) (unit : Unit) → n ≢ m → find (is_sought m 0 name) (import_entries (n, unit)) ≡ None
  of-other m n unit differs =
      find-map (import_entry n) (is_sought m 0 name) (numbered unit.imports)
      ∙ ap (option_map (import_entry n)) (
      find-never (λ import. is_sought m 0 name (import_entry n import)) (λ import. sought-of_other m 0 name (import_entry n import) differs)
      (numbered unit.imports)
      )

  of-later : (m n : ℕ) (units : List Unit) → m < n → find (is_sought m 0 name) (flat_map import_entries (enumerate_from n units)) ≡ None
  of-later m n [] before = refl
  of-later m n (unit ∷ units) before =
      find-append (is_sought m 0 name) (import_entries (n, unit)) (flat_map import_entries (enumerate_from (n + 1) units))
      ∙ (λ i. option_or (of-other m n unit (λ same. omega (arith, before, same)) i) (of-later m (n + 1) units (omega (arith, before)) i))

  -- among those of all files are those of the file
  of-unit : (m n k : ℕ) (units : List Unit) (unit : Unit) → m ≡ n + k → slice_get units k ≡ Some unit
      → find (is_sought m 0 name) (flat_map import_entries (enumerate_from n units)) ≡ find (is_sought m 0 name) (import_entries (m, unit))
  of-unit m n k [] unit same is = absurd cc
  of-unit m n zero (first ∷ units) unit same is =
      let here : first ≡ unit = cc in
      let number : n ≡ m = omega (arith, same) in
      find-append (is_sought m 0 name) (import_entries (n, first)) (flat_map import_entries (enumerate_from (n + 1) units))
      ∙ ap (option_or (find (is_sought m 0 name) (import_entries (n, first)))) (of-later m (n + 1) units (omega (arith, same)))
      ∙ all (find (is_sought m 0 name) (import_entries (n, first)))
      ∙ (λ i. find (is_sought m 0 name) (import_entries (number i, here i))) where
        all : (o : Option Entry) → option_or o None ≡ o
        all None = refl
        all (Some entry) = refl
  of-unit m n (suc k) (first ∷ units) unit same is =
      find-append (is_sought m 0 name) (import_entries (n, first)) (flat_map import_entries (enumerate_from (n + 1) units))
      ∙ ap (λ o. option_or o (find (is_sought m 0 name) (flat_map import_entries (enumerate_from (n + 1) units))))
      (of-other m n first (λ is. omega (arith, same, is)))
      ∙ of-unit m (n + 1) k units unit (omega (arith, same)) is

  module _ (sources : List SourceUnit) (imports : List Entry)
      (indexed : FindsSame imports (flat_map import_entries (numbered (units_of sources))))
      (number : ℕ) (source : SourceUnit) (at : slice_get sources number ≡ Some source) where
    unit-at : slice_get (units_of sources) number ≡ Some source.unit
    unit-at = slice_get-map (λ (s : SourceUnit). s.unit) sources number ∙ ap (option_map (λ (s : SourceUnit). s.unit)) at

    found-entry : find (is_sought number 0 name) imports ≡ option_map (import_entry number) (find imported (numbered source.unit.imports))
    found-entry =
        indexed number 0 name ∙ of-unit number 0 number (units_of sources) source.unit (omega arith) unit-at
        ∙ found-made (import_entry number) number 0 name imported (λ import. sought-is number 0 name (import_entry number import)
        ∙ itself import)
        (numbered source.unit.imports) where
          itself : (import : ℕ × Name) → (is_eq (nat_cmp number number) && bytes_eq (simple_name import.1) name) ≡ imported import
          itself import = ap (λ o. is_eq o && bytes_eq (simple_name import.1) name) (tied_itself nat_cmp_total number)

    pub import-there : (entry : Entry) → find (is_sought number 0 name) imports ≡ Some entry
        → slice_get source.unit.imports entry.place ≡ import_of source.unit.imports name
    import-there entry is = by_found (find imported (numbered source.unit.imports)) refl (sym found-entry ∙ is) where
      by_found : (o : Option (ℕ × Name)) → find imported (numbered source.unit.imports) ≡ o → option_map (import_entry number) o
          ≡ Some entry
          → slice_get source.unit.imports entry.place ≡ import_of source.unit.imports name
      by_found None none same = absurd cc
      by_found (Some import) some same =
          let place = found-place (λ import. bytes_eq (simple_name import) name) 0 source.unit.imports import some in
          let entry-is : import_entry number import ≡ entry = cc in
          let number-is : entry.place ≡ place.0 = omega (arith, ap (λ (e : Entry). e.place) entry-is, place.1) in
          ap (slice_get source.unit.imports) number-is ∙ place.2

    pub import-nowhere : find (is_sought number 0 name) imports ≡ None → import_of source.unit.imports name ≡ None
    import-nowhere none = by_found (find imported (numbered source.unit.imports)) refl (sym found-entry ∙ none) where
      by_found : (o : Option (ℕ × Name)) → find imported (numbered source.unit.imports) ≡ o → option_map (import_entry number) o ≡ None
          → import_of source.unit.imports name ≡ None
      by_found None is same = found-nowhere (λ import. bytes_eq (simple_name import) name) 0 source.unit.imports is
      by_found (Some import) some same = absurd cc
