-- Lists of types compare by what they begin with, and then by the rest.
use Rattle.std.proofs.Common.{◌≡◌, ◌≢◌, ◌⊎◌, inl, inr, ℕ, ◌+◌, ◌<◌, ◌≤◌, List, [], ◌∷◌, map, drop, length, get_or, cond, ◌==◌, lt-ltb, length-drop, refl, sym, ◌∙◌, ap, arith, nat_cmp, Ordering, Less, Equal, Greater}
use Rattle.std.specs.Ordering.{ordering_then}
use Rattle.std.proofs.lemmas.Cmp.{nat_cmp_total, tied_itself}
use Rattle.std.proofs.lemmas.List.{drop_more, drop_all}
use Rattle.jav_names.proofs.index_lemmas.Searched.{below-or_from}
use Rattle.jav_names.specs.seen.Kept.{view_type}
use Rattle.jav_names.specs.declared.seen.seen_type.SeenType.{SeenType}
use Rattle.mol_resolve_classes.specs.signatures.TypeOrder.{type_cmp, types_cmp}

pub then-stops : (first second : Ordering) → first ≢ Equal → ordering_then first second ≡ first
then-stops Less second differs = refl
then-stops Equal second differs = absurd (differs refl)
then-stops Greater second differs = refl

pub front : {X : Type 0} (xs : List X) (i : ℕ) (x : X) → i < length xs → x ≡ get_or xs i x → drop i xs ≡ x ∷ drop (i + 1) xs
front xs i x within is = drop_more xs i x within ∙ ap (λ y. y ∷ drop (i + 1) xs) (sym is)

module _ (xs ys : List SeenType) (i : ℕ) where
  abbrev pub compared : Ordering
  compared = types_cmp (map view_type (drop i xs)) (map view_type (drop i ys))

  pub compared-more : (x y : SeenType) → i < length xs → x ≡ get_or xs i x → i < length ys → y ≡ get_or ys i y
      → compared ≡ ordering_then (type_cmp (view_type x) (view_type y))
      (types_cmp (map view_type (drop (i + 1) xs)) (map view_type (drop (i + 1) ys)))
  compared-more x y in-xs is-x in-ys is-y =
      λ k. types_cmp (map view_type (front xs i x in-xs is-x k)) (map view_type (front ys i y in-ys is-y k))

  pub compared-past : (x : SeenType) → i < length xs → x ≡ get_or xs i x → length ys ≤ i → compared ≡ Greater
  compared-past x in-xs is-x past =
      λ k. types_cmp (map view_type (front xs i x in-xs is-x k)) (map view_type (drop_all i ys past k))

  pub compared-end : i ≤ length xs → length xs ≤ i → i ≤ length ys → compared ≡ nat_cmp (length xs) (length ys)
  compared-end upto past within = by (below-or_from i (length ys)) where
    same : (n m : ℕ) → n ≡ m → Equal ≡ nat_cmp n m
    same n m is = sym (ap (nat_cmp n) (sym is) ∙ tied_itself nat_cmp_total n)

    less : (n m : ℕ) → n < m → nat_cmp n m ≡ Less
    less n m below = ap (λ b. cond b Less (cond (n == m) Equal Greater)) (lt-ltb n m below)

    by : (i < length ys) ⊎ (length ys ≤ i) → compared ≡ nat_cmp (length xs) (length ys)
    by (inl below) = shorter (drop i ys) refl where
      shorter : (rest : List SeenType) → drop i ys ≡ rest → compared ≡ nat_cmp (length xs) (length ys)
      shorter [] is = absurd (omega (arith, length-drop i ys, ap length is))
      shorter (y ∷ rest) is =
          (λ k. types_cmp (map view_type (drop_all i xs past k)) (map view_type (is k)))
          ∙ sym (less (length xs) (length ys) (omega arith))
    by (inr over) =
        (λ k. types_cmp (map view_type (drop_all i xs past k)) (map view_type (drop_all i ys over k)))
        ∙ same (length xs) (length ys) (omega arith)
