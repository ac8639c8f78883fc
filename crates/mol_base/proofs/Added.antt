-- What a list has so far, and what is added to it.
use Rattle.std.proofs.Common.{◌≡◌, ℕ, ◌+◌, ◌<◌, ◌≤◌, List, [], ◌∷◌, ◌++◌, length, drop, get_or, sym, ap, ◌∙◌, append_assoc, append-nil}
use Rattle.std.proofs.lemmas.List.{at_drop_more, at_drop_all}

module _ {Y : Type 0} where
  -- nothing is added
  pub adds-none : (so_far whole : List Y) → whole ≡ [] → so_far ≡ so_far ++ whole
  adds-none so_far whole none = sym (ap (λ ys. so_far ++ ys) none ∙ append-nil so_far)

  -- the same, in other words
  pub adds : (so_far after part whole : List Y) → whole ≡ part → after ≡ so_far ++ part → after ≡ so_far ++ whole
  adds so_far after part whole same added = added ∙ ap (λ ys. so_far ++ ys) (sym same)

  -- one thing, and then another
  pub adds-both : (so_far middle after first second : List Y) → middle ≡ so_far ++ first → after ≡ middle ++ second
      → after ≡ so_far ++ (first ++ second)
  adds-both so_far middle after first second once again =
      again ∙ ap (λ ys. ys ++ second) once ∙ append_assoc so_far first second

-- several, one after the other
module _ {X Y : Type 0} (all : List X → List Y) (of : X → List Y) (none : all [] ≡ [])
    (first : (x : X) (rest : List X) → all (x ∷ rest) ≡ of x ++ all rest) (xs : List X) (i : ℕ) where
  pub adds-more : (x : X) (whole before after : List Y) → i < length xs → x ≡ get_or xs i x
      → before ++ all (drop i xs) ≡ whole → after ≡ before ++ of x → after ++ all (drop (i + 1) xs) ≡ whole
  adds-more x whole before after within is so_far next =
      let rest = drop (i + 1) xs in
      ap (λ ys. ys ++ all rest) next
      ∙ append_assoc before (of x) (all rest)
      ∙ ap (λ (y : X). before ++ (of y ++ all rest)) is
      ∙ sym (ap (λ ys. before ++ ys) (first (get_or xs i x) rest))
      ∙ sym (at_drop_more (λ (zs : List X). before ++ all zs) xs i x within)
      ∙ so_far

  pub adds-whole : (whole before : List Y) → length xs ≤ i → before ++ all (drop i xs) ≡ whole → before ≡ whole
  adds-whole whole before past so_far =
      sym (append-nil before) ∙ sym (ap (λ ys. before ++ ys) none)
      ∙ sym (at_drop_all (λ (zs : List X). before ++ all zs) xs i past) ∙ so_far
