-- Texts that begin with a front stand together in the order of bytes, from the first on that does not come before it.
use Rattle.std.proofs.Common.{◌≡◌, ◌⊎◌, inl, inr, ℕ, ◌<◌, ◌≤◌, Bool, true, false, ◌==◌, List, [], ◌∷◌, length, get_or, None, Some, slice_get, refl, sym, ◌∙◌, ap, arith, true≢false, nat_cmp, Ordering, Less, Equal, Greater}
use Rattle.std.specs.Cmp.Lexicographic.{slice_cmp}
use Rattle.std.specs.List.{list_any}
use Rattle.std.specs.List.Sorted.{IsSorted, IsPartitionPoint}
use Rattle.std.specs.Ordering.{is_lt, ordering_then}
use Rattle.std.proofs.lemmas.Bool.Decides.{Decides-and, Decides-eqb}
use Rattle.std.proofs.lemmas.Cmp.{nat_list_cmp_total, ranked}
use Rattle.std.proofs.lemmas.List.Sorted.{ranks_by, sorted_far}
use Rattle.jav_names.specs.DottedNames.{Name}
use Rattle.jav_names.proofs.index_lemmas.Searched.{any-at, any-none, below-or_from, get-past, get-within}
use Rattle.mol_resolve_classes.specs.headers.Packages.{begins}

abbrev comes_before : Name → Name → Bool
comes_before first second = is_lt (slice_cmp nat_cmp first second)

-- ---- one text

cut : (byte first : ℕ) (text front : Name) → begins (first ∷ front) (byte ∷ text) ≡ true → (first ≡ byte) × (begins front text ≡ true)
cut byte first text front = (Decides-and (first == byte) (begins front text) (Decides-eqb first byte) (λ yes. yes, λ yes. yes)).0

joined : (byte first : ℕ) (text front : Name) → first ≡ byte → begins front text ≡ true → begins (first ∷ front) (byte ∷ text) ≡ true
joined byte first text front same is =
    (Decides-and (first == byte) (begins front text) (Decides-eqb first byte) (λ yes. yes, λ yes. yes)).1 (same, is)

not-before : (front text : Name) → begins front text ≡ true → comes_before text front ≡ false
not-before [] [] is = refl
not-before [] (byte ∷ text) is = refl
not-before (first ∷ front) [] is = absurd (true≢false (sym is))
not-before (first ∷ front) (byte ∷ text) is =
    let both = cut byte first text front is in
    by (nat_cmp byte first) refl both.0 (not-before front text both.1) where
      by : (o : Ordering) → nat_cmp byte first ≡ o → first ≡ byte → comes_before text front ≡ false
          → is_lt (ordering_then o (slice_cmp nat_cmp text front)) ≡ false
      by Less less same rest = absurd (omega (arith, ranked byte first Less (sym less), same))
      by Equal tied same rest = rest
      by Greater more same rest = refl

-- what stands between a front and a text that begins with it begins with it too
between : (front text later : Name) → comes_before text front ≡ false → comes_before later text ≡ false
    → begins front later ≡ true → begins front text ≡ true
between [] text later from up is = refl
between (first ∷ front) text [] from up is = absurd (true≢false (sym is))
between (first ∷ front) [] (last ∷ later) from up is = absurd (true≢false from)
between (first ∷ front) (byte ∷ text) (last ∷ later) from up is =
    let both = cut last first later front is in
    by (nat_cmp byte first) refl (nat_cmp last byte) refl both.0
    (λ from_rest up_rest. between front text later from_rest up_rest both.1) where
      by : (o : Ordering) → nat_cmp byte first ≡ o → (p : Ordering) → nat_cmp last byte ≡ p → first ≡ last
          → (comes_before text front ≡ false → comes_before later text ≡ false → begins front text ≡ true)
          → begins (first ∷ front) (byte ∷ text) ≡ true
      by Less less p then same rest =
          absurd (true≢false (sym (ap (λ o. is_lt (ordering_then o (slice_cmp nat_cmp text front))) less) ∙ from))
      by Equal tied Less less same rest =
          absurd (true≢false (sym (ap (λ o. is_lt (ordering_then o (slice_cmp nat_cmp later text))) less) ∙ up))
      by Equal tied Equal alike same rest =
          let at : byte ≡ first = ranked byte first Equal (sym tied) in
          joined byte first text front (sym at)
          (rest (sym (ap (λ o. is_lt (ordering_then o (slice_cmp nat_cmp text front))) tied) ∙ from)
          (sym (ap (λ o. is_lt (ordering_then o (slice_cmp nat_cmp later text))) alike) ∙ up))
      by Equal tied Greater more same rest =
          absurd (omega (arith, ranked byte first Equal (sym tied), ranked last byte Greater (sym more), same))
      by Greater more Less less same rest =
          absurd (true≢false (sym (ap (λ o. is_lt (ordering_then o (slice_cmp nat_cmp later text))) less) ∙ up))
      by Greater more Equal alike same rest =
          absurd (omega (arith, ranked byte first Greater (sym more), ranked last byte Equal (sym alike), same))
      by Greater more Greater most same rest =
          absurd (omega (arith, ranked byte first Greater (sym more), ranked last byte Greater (sym most), same))

-- ---- a list that ascends

module _ (front : Name) (texts : List Name) (up : IsSorted (slice_cmp nat_cmp) texts) (i : ℕ)
    (start : IsPartitionPoint (λ text. comes_before text front ≡ true) (λ text. comes_before text front ≡ false) texts i) where
  early : (j : ℕ) (d : Name) → j < length texts → j < i → begins front (get_or texts j d) ≡ false
  early j d within below = by (begins front (get_or texts j d)) refl where
    by : (b : Bool) → begins front (get_or texts j d) ≡ b → begins front (get_or texts j d) ≡ false
    by true is = absurd (true≢false (sym (start.0 j d (omega arith) below) ∙ not-before front (get_or texts j d) is))
    by false is = is

  pub none-begins : slice_get texts i ≡ None → list_any (begins front) texts ≡ false
  none-begins is = any-none (begins front) texts (λ j d within. early j d within (omega (arith, within, get-past texts i is)))

  module _ (text : Name) (there : slice_get texts i ≡ Some text) where
    at : (d : Name) → (i < length texts) × (get_or texts i d ≡ text)
    at d = get-within texts i text d there

    from_front : comes_before text front ≡ false
    from_front = ap (λ z. comes_before z front) (sym (at text).1) ∙ start.1 i text (omega arith) (at text).0

    ascending : (j : ℕ) (d : Name) → i ≤ j → j < length texts → comes_before (get_or texts j d) text ≡ false
    ascending j d from within = ap (λ z. comes_before (get_or texts j d) z) (sym (at d).1)
        ∙ sorted_far (λ x y. is_lt (slice_cmp nat_cmp x y)) (ranks_by nat_list_cmp_total (λ z. z)) texts up i j d from within

    late : begins front text ≡ false → (j : ℕ) (d : Name) → i ≤ j → j < length texts → begins front (get_or texts j d) ≡ false
    late not j d from within = by (begins front (get_or texts j d)) refl where
      by : (b : Bool) → begins front (get_or texts j d) ≡ b → begins front (get_or texts j d) ≡ false
      by true is = absurd (true≢false (sym (between front text (get_or texts j d) from_front (ascending j d from within) is) ∙ not))
      by false is = is

    pub first-begins : begins front text ≡ list_any (begins front) texts
    first-begins = by (begins front text) refl where
      by_side : begins front text ≡ false → (j : ℕ) (d : Name) → j < length texts → (j < i) ⊎ (i ≤ j)
          → begins front (get_or texts j d) ≡ false
      by_side not j d within (inl below) = early j d within below
      by_side not j d within (inr from) = late not j d from within

      by : (b : Bool) → begins front text ≡ b → begins front text ≡ list_any (begins front) texts
      by true is = is ∙ sym (any-at (begins front) texts i text there is)
      by false is = is ∙ sym (any-none (begins front) texts (λ j d within. by_side is j d within (below-or_from j i)))
