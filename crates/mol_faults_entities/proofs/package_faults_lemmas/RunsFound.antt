-- In rows that are in order those that a name begins stand together.
use Rattle.std.proofs.Common.{◌≡◌, ℕ, suc, ◌+◌, ◌<◌, ◌≤◌, Bool, true, false, cond, List, [], ◌∷◌, ◌++◌, take, drop, length, get_or, filter_map, Option, Some, None, refl, sym, ◌∙◌, ap, subst, arith, true≢false, nat_cmp}
use Rattle.std.specs.Cmp.Lexicographic.{slice_cmp}
use Rattle.std.specs.List.{cons_option}
use Rattle.std.specs.List.Sorted.{IsSortedBy, IsPartitionPoint}
use Rattle.std.specs.Option.{option_to_list}
use Rattle.std.specs.Ordering.{is_lt}
use Rattle.std.proofs.lemmas.Cmp.{nat_list_cmp_total}
use Rattle.std.proofs.lemmas.List.{take-append-drop, take_more, get_or-take, get_or-drop, length-take, length-drop, append-nil}
use Rattle.std.proofs.lemmas.List.Elements.{filter_map-append, at_read}
use Rattle.std.proofs.lemmas.List.Sorted.{ranks_by, sorted_far}
use Rattle.jav_names.specs.DottedNames.{Name}
use Rattle.mol_base.specs.declared.ident.Id.{Id}
use Rattle.mol_faults_entities.specs.package_faults.Packages.{begins, comes_before}
use Rattle.mol_faults_entities.specs.package_faults.Pairs.{inside_of}
use Rattle.mol_faults_entities.specs.declared.package_faults.package_rows.PackageRow.{PackageRow}
use Rattle.mol_faults_entities.proofs.package_faults_lemmas.Fronts.{not-before, between}

module _ {X Y : Type 0} (make : X → Option Y) where
  none-made : (xs : List X) → ((k : ℕ) (d : X) → k < length xs → make (get_or xs k d) ≡ None) → filter_map make xs ≡ []
  none-made [] none = refl
  none-made (x ∷ xs) none =
      ap (λ o. cons_option o (filter_map make xs)) (none 0 x (omega arith))
      ∙ none-made xs (λ k d within. none (suc k) d (omega (arith, within)))

  -- what makes nothing in front or behind may be left out
  pub front-skipped : (xs : List X) (i : ℕ) → i ≤ length xs → ((k : ℕ) (d : X) → k < i → make (get_or xs k d) ≡ None)
      → filter_map make xs ≡ filter_map make (drop i xs)
  front-skipped xs i inside none =
      sym (ap (filter_map make) (take-append-drop i xs)) ∙ filter_map-append make (take i xs) (drop i xs)
      ∙ ap (λ ys. ys ++ filter_map make (drop i xs)) (none-made (take i xs) (λ k d within.
      let low : k < i = omega (arith, within, length-take i xs) in
      ap make (get_or-take i xs k d low) ∙ none k d low))

  pub back-skipped : (xs : List X) (i : ℕ) → ((k : ℕ) (d : X) → i ≤ k → k < length xs → make (get_or xs k d) ≡ None)
      → filter_map make (take i xs) ≡ filter_map make xs
  back-skipped xs i none = sym (
      sym (ap (filter_map make) (take-append-drop i xs)) ∙ filter_map-append make (take i xs) (drop i xs)
      ∙ ap (λ ys. filter_map make (take i xs) ++ ys) (none-made (drop i xs) (λ k d within.
      let high : i + k < length xs = omega (arith, within, length-drop i xs) in
      ap make (get_or-drop i xs k d) ∙ none (i + k) d (omega arith) high))
      ∙ append-nil (filter_map make (take i xs)))

  pub made-more : (xs : List X) (i : ℕ) (x : X) → i < length xs → x ≡ get_or xs i x
      → filter_map make (take (i + 1) xs) ≡ filter_map make (take i xs) ++ option_to_list (make x)
  made-more xs i x within is =
      ap (filter_map make) (take_more xs i x within) ∙ filter_map-append make (take i xs) (get_or xs i x ∷ [])
      ∙ ap (λ y. filter_map make (take i xs) ++ filter_map make (y ∷ [])) (sym is)
      ∙ ap (λ ys. filter_map make (take i xs) ++ ys) (alone (make x)) where
        alone : (o : Option Y) → cons_option o [] ≡ option_to_list o
        alone None = refl
        alone (Some y) = refl

module _ (class : Id) (name : Name) (rows : List PackageRow) (up : IsSortedBy comes_before rows) (place : ℕ) (inside : place ≤ length rows)
    (point : IsPartitionPoint (λ (row : PackageRow). is_lt (slice_cmp nat_cmp row.dotted name) ≡ true)
    (λ (row : PackageRow). is_lt (slice_cmp nat_cmp row.dotted name) ≡ false) rows place) where
  no-pair : (row : PackageRow) → begins name row.dotted ≡ false → inside_of class name row ≡ None
  no-pair row fails = ap (λ b. cond b (Some (record { class = class; inside = row.class })) None) fails

  early : (k : ℕ) (d : PackageRow) → k < place → begins name (get_or rows k d).dotted ≡ false
  early k d low = by (begins name (get_or rows k d).dotted) refl where
    by : (b : Bool) → begins name (get_or rows k d).dotted ≡ b → begins name (get_or rows k d).dotted ≡ false
    by true is = absurd (true≢false (sym (point.0 k d (omega arith) low) ∙ not-before name (get_or rows k d).dotted is))
    by false is = is

  -- after one that it does not begin it begins none
  late : (i : ℕ) (d : PackageRow) → place ≤ i → i < length rows → begins name (get_or rows i d).dotted ≡ false
      → (k : ℕ) → i ≤ k → k < length rows → begins name (get_or rows k d).dotted ≡ false
  late i d from within fails k high below = by (begins name (get_or rows k d).dotted) refl where
    by : (b : Bool) → begins name (get_or rows k d).dotted ≡ b → begins name (get_or rows k d).dotted ≡ false
    by true is = absurd (true≢false (sym (between name (get_or rows i d).dotted (get_or rows k d).dotted (point.1 i d from within)
        (sorted_far comes_before (ranks_by nat_list_cmp_total (λ (row : PackageRow). row.dotted)) rows up i k d high below) is) ∙ fails))
    by false is = is

  pub run-starts : filter_map (inside_of class name) rows ≡ filter_map (inside_of class name) (drop place rows)
  run-starts = front-skipped (inside_of class name) rows place inside
      (λ k d low. no-pair (get_or rows k d) (early k d low))

  pub run-ends : (i : ℕ) (row : PackageRow) → i < length (drop place rows) → row ≡ get_or (drop place rows) i row
      → begins name row.dotted ≡ false
      → filter_map (inside_of class name) (take i (drop place rows)) ≡ filter_map (inside_of class name) rows
  run-ends i row within is fails =
      back-skipped (inside_of class name) (drop place rows) i none ∙ sym run-starts where
        at : place + i < length rows
        at = omega (arith, within, length-drop place rows)

        ends : (d : PackageRow) → begins name (get_or rows (place + i) d).dotted ≡ false
        ends d = ap (λ (r : PackageRow). begins name r.dotted) (sym (get_or-drop place rows i d))
            ∙ at_read (drop place rows) (λ (r : PackageRow). begins name r.dotted ≡ false) i row within is fails d

        none : (k : ℕ) (d : PackageRow) → i ≤ k → k < length (drop place rows) → inside_of class name (get_or (drop place rows) k d) ≡ None
        none k d high below = no-pair (get_or (drop place rows) k d) (
            ap (λ (r : PackageRow). begins name r.dotted) (get_or-drop place rows k d)
            ∙ late (place + i) d (omega arith) at (ends d) (place + k) (omega (arith, high)) (omega (arith, below, length-drop place rows)))

  -- the same of a list that is the rows from there on
  pub run-ended : (run : List PackageRow) → run ≡ drop place rows → (i : ℕ) (row : PackageRow) → i < length run → row ≡ get_or run i row
      → begins name row.dotted ≡ false → filter_map (inside_of class name) (take i run) ≡ filter_map (inside_of class name) rows
  run-ended run same i row within is fails =
      ap (λ ids. filter_map (inside_of class name) (take i ids)) same
      ∙ run-ends i row (subst (λ ids. i < length ids) same within) (is ∙ ap (λ ids. get_or ids i row) same) fails
