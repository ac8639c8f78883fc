-- Lists of types are equal where their first types are, and the rest.
use Rattle.std.proofs.Common.{◌≡◌, ◌⊎◌, inl, inr, ℕ, ◌+◌, ◌<◌, ◌≤◌, Bool, false, ◌&&◌, ◌==◌, List, [], ◌∷◌, map, drop, length, get_or, refl, sym, ◌∙◌, ap, arith, nat_cmp, eq-eqb, ne_eqb, length-drop}
use Rattle.std.proofs.lemmas.List.{drop_all}
use Rattle.jav_names.proofs.index_lemmas.Searched.{below-or_from}
use Rattle.jav_names.specs.seen.Kept.{view_type}
use Rattle.jav_names.specs.declared.seen.seen_type.SeenType.{SeenType}
use Rattle.jav_names.specs.StaticTypes.{same_type}
use Rattle.mol_resolve_rules.specs.FaultLists.{same_types}
use Rattle.mol_resolve_classes.proofs.signatures_lemmas.InTurn.{front}

module _ (xs ys : List SeenType) (i : ℕ) where
  abbrev pub alike : Bool
  alike = same_types nat_cmp (map view_type (drop i xs)) (map view_type (drop i ys))

  pub alike-more : (x y : SeenType) → i < length xs → x ≡ get_or xs i x → i < length ys → y ≡ get_or ys i y
      → alike ≡ (same_type nat_cmp (view_type x) (view_type y)
      && same_types nat_cmp (map view_type (drop (i + 1) xs)) (map view_type (drop (i + 1) ys)))
  alike-more x y in-xs is-x in-ys is-y =
      λ k. same_types nat_cmp (map view_type (front xs i x in-xs is-x k)) (map view_type (front ys i y in-ys is-y k))

  pub alike-past : (x : SeenType) → i < length xs → x ≡ get_or xs i x → length ys ≤ i → alike ≡ false
  alike-past x in-xs is-x past =
      λ k. same_types nat_cmp (map view_type (front xs i x in-xs is-x k)) (map view_type (drop_all i ys past k))

  pub alike-end : i ≤ length xs → length xs ≤ i → i ≤ length ys → alike ≡ (length xs == length ys)
  alike-end upto past within = by (below-or_from i (length ys)) where
    by : (i < length ys) ⊎ (length ys ≤ i) → alike ≡ (length xs == length ys)
    by (inl below) = shorter (drop i ys) refl where
      shorter : (rest : List SeenType) → drop i ys ≡ rest → alike ≡ (length xs == length ys)
      shorter [] is = absurd (omega (arith, length-drop i ys, ap length is))
      shorter (y ∷ rest) is =
          (λ k. same_types nat_cmp (map view_type (drop_all i xs past k)) (map view_type (is k)))
          ∙ sym (ne_eqb (length xs) (length ys) (λ same. omega (arith, same)))
    by (inr over) =
        (λ k. same_types nat_cmp (map view_type (drop_all i xs past k)) (map view_type (drop_all i ys over k)))
        ∙ sym (eq-eqb (length xs) (length ys) (omega arith))
