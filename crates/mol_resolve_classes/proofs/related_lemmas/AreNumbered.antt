-- Declarations with the places 0, 1, 2 and so on: one more of them, and their order.
use Rattle.std.proofs.Common.{◌≡◌, ℕ, zero, suc, ◌+◌, ◌<◌, List, [], ◌∷◌, ◌++◌, length, sym, ◌∙◌, ap, subst, arith, nat_cmp, Less, length-append}
use Rattle.std.specs.List.{AllByRecursion, range_with_len}
use Rattle.std.specs.List.Sorted.{IsStrictlySortedBy}
use Rattle.std.proofs.lemmas.List.{map-append}
use Rattle.mol_resolve_classes.specs.namesakes.Compared.{AreInOrder}
use Rattle.mol_resolve_classes.specs.declared.namesakes.declaration.Declaration.{Declaration}
use Rattle.mol_resolve_classes.specs.related.Tables.{AreNumbered}
use Rattle.mol_resolve_classes.proofs.related_lemmas.KeptInOrder.{from_places, less}

range-above : (n k count : ℕ) → n < k → AllByRecursion (λ m. nat_cmp n m ≡ Less) (range_with_len k count)
range-above n k zero below = tt
range-above n k (suc count) below = (less n k below, range-above n (k + 1) count (omega (arith, below)))

range-in_order : (n count : ℕ) → IsStrictlySortedBy nat_cmp (range_with_len n count)
unfolding IsStrictlySortedBy
range-in_order n zero = tt
range-in_order n (suc count) = (range-above n (n + 1) count (omega arith), range-in_order (n + 1) count)

pub numbered-in_order : (declared : List Declaration) → AreNumbered declared → AreInOrder declared
numbered-in_order declared numbered = from_places (λ (d : Declaration). d.place) declared
    (subst (IsStrictlySortedBy nat_cmp) (sym numbered) (range-in_order 0 (length declared)))

range-more : (n count : ℕ) → range_with_len n (suc count) ≡ range_with_len n count ++ (n + count) ∷ []
range-more n zero = ap (λ m. m ∷ []) (omega arith)
range-more n (suc count) =
    ap (λ rest. n ∷ rest) (range-more (n + 1) count ∙ ap (λ m. range_with_len (n + 1) count ++ m ∷ []) (omega arith))

pub numbered-more : (declared : List Declaration) (next : Declaration) → AreNumbered declared → next.place ≡ length declared
    → AreNumbered (declared ++ next ∷ [])
numbered-more declared next numbered is =
    let last : next.place ≡ 0 + length declared = omega (arith, is) in
    let longer : suc (length declared) ≡ length (declared ++ next ∷ []) = omega (arith, length-append declared (next ∷ [])) in
    map-append (λ (d : Declaration). d.place) declared (next ∷ [])
    ∙ (λ i. numbered i ++ last i ∷ [])
    ∙ sym (range-more 0 (length declared))
    ∙ ap (range_with_len 0) longer
