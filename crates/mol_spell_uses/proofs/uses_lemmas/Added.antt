-- What is used so far, and what is added to it.
use Rattle.std.proofs.Common.{◌≡◌, ℕ, ◌+◌, ◌<◌, ◌≤◌, List, [], ◌∷◌, ◌++◌, length, take, get_or, sym, ap, ◌∙◌, append_assoc}
use Rattle.std.proofs.lemmas.List.{append-nil, take_all, take_more}
use Rattle.std.specs.List.{flat_map}
use Rattle.mol_spell_rules.specs.Writers.{Use}

-- nothing is added
pub adds-none : (so_far whole : List Use) → whole ≡ [] → so_far ≡ so_far ++ whole
adds-none so_far whole none = sym (ap (λ us. so_far ++ us) none ∙ append-nil so_far)

-- the same, in other words
pub adds : (so_far after uses whole : List Use) → whole ≡ uses → after ≡ so_far ++ uses → after ≡ so_far ++ whole
adds so_far after uses whole same added = added ∙ ap (λ us. so_far ++ us) (sym same)

-- one thing, and then another
pub adds-both : (so_far middle after first second : List Use) → middle ≡ so_far ++ first → after ≡ middle ++ second
    → after ≡ so_far ++ (first ++ second)
adds-both so_far middle after first second once again =
    again ∙ ap (λ us. us ++ second) once ∙ append_assoc so_far first second

-- ---- several

module _ {A : Type 0} (of : A → List Use) where
  flat_map-more : (xs : List A) (x : A) → flat_map of (xs ++ x ∷ []) ≡ flat_map of xs ++ of x
  flat_map-more [] x = append-nil (of x)
  flat_map-more (y ∷ ys) x = ap (λ us. of y ++ us) (flat_map-more ys x) ∙ sym (append_assoc (of y) (flat_map of ys) (of x))

  pub adds-more : (xs : List A) (i : ℕ) (x : A) (before so_far after : List Use) → i < length xs → x ≡ get_or xs i x
      → so_far ≡ before ++ flat_map of (take i xs) → after ≡ so_far ++ of x → after ≡ before ++ flat_map of (take (i + 1) xs)
  adds-more xs i x before so_far after within at first next =
      adds-both before so_far after (flat_map of (take i xs)) (of x) first next
      ∙ ap (λ us. before ++ us) (sym (flat_map-more (take i xs) x)
      ∙ ap (flat_map of) (ap (λ x. take i xs ++ x ∷ []) at ∙ sym (take_more xs i x within)))

  pub adds-whole : (xs : List A) (i : ℕ) (before after : List Use) → length xs ≤ i → after ≡ before ++ flat_map of (take i xs)
      → after ≡ before ++ flat_map of xs
  adds-whole xs i before after past is = is ∙ ap (λ xs. before ++ flat_map of xs) (take_all i xs past)
