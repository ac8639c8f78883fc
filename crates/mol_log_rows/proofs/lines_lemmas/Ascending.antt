-- Of tags that ascend each is less than each later one, so none stands twice.
use Rattle.std.proofs.Common.{◌≡◌, ℕ, zero, suc, ◌+◌, ◌<◌, List, [], ◌∷◌, length, get_or, Bool, true, false, refl, sym, ap, ◌∙◌, subst, arith, rules}
use Rattle.std.specs.Prelude.{◌&&◌}
use Rattle.std.specs.Cmp.{IsTotalOrder}
use Rattle.std.specs.Cmp.Rules.{comparing}
use Rattle.std.specs.List.{IsAllAdjacentAnswer}
use Rattle.std.specs.List.Sorted.{IsNonDecreasingBy}
use Rattle.std.specs.Ordering.{is_lt, ordering_reverse, ordering_index}
use Rattle.std.specs.declared.cmp.Ordering.{Ordering}
use Rattle.std.specs.declared.cmp.Ordering.TheVariants.{Less, Equal, Greater}
use Rattle.std.proofs.lemmas.Cmp.{tied_itself}
use Rattle.std.proofs.lemmas.List.Sorted.{searchable_from_sorted}
use Rattle.mol_base.specs.Order.{tag_cmp}
use Rattle.mol_base.proofs.Tags.{both_true}
use Rattle.mol_log_rows.specs.lines.Headers.{ascend}

pub tag_cmp-total : IsTotalOrder tag_cmp
tag_cmp-total = search (comparing, rules)

less_is : (r : Ordering) → is_lt r ≡ true → r ≡ Less
less_is Less is = refl
less_is Equal is = absurd cc
less_is Greater is = absurd cc

-- those after the first
rest_ascend : (tag : List ℕ) (more : List (List ℕ)) → ascend (tag ∷ more) ≡ true → ascend more ≡ true
rest_ascend tag [] up = refl
rest_ascend tag (next ∷ more) up = (both_true (is_lt (tag_cmp tag next)) (ascend (next ∷ more)) up).1

next_less : (tag next : List ℕ) (more : List (List ℕ)) → ascend (tag ∷ next ∷ more) ≡ true → tag_cmp tag next ≡ Less
next_less tag next more up = less_is (tag_cmp tag next) (both_true (is_lt (tag_cmp tag next)) (ascend (next ∷ more)) up).0

first_less : (tag : List ℕ) (more : List (List ℕ)) → ascend (tag ∷ more) ≡ true → (j : ℕ) (d : List ℕ) → j < length more → tag_cmp tag (get_or more j d) ≡ Less
first_less tag [] up j d low = absurd (omega (arith, low))
first_less tag (next ∷ more) up zero d low = next_less tag next more up
first_less tag (next ∷ more) up (suc j) d low =
    tag_cmp-total.trans tag next (get_or more j d) (next_less tag next more up) (first_less next more (rest_ascend tag (next ∷ more) up) j d (omega (arith, low)))

pub each_less : (tags : List (List ℕ)) → ascend tags ≡ true → (i j : ℕ) (d : List ℕ) → i < j → j < length tags → tag_cmp (get_or tags i d) (get_or tags j d) ≡ Less
each_less [] up i j d before low = absurd (omega (arith, low))
each_less (tag ∷ more) up i zero d before low = absurd (omega (arith, before))
each_less (tag ∷ more) up zero (suc j) d before low = first_less tag more up j d (omega (arith, low))
each_less (tag ∷ more) up (suc i) (suc j) d before low = each_less more (rest_ascend tag more up) i j d (omega (arith, before)) (omega (arith, low))

-- tags of two places differ
pub places_differ : (tags : List (List ℕ)) → ascend tags ≡ true → (i j : ℕ) (d : List ℕ) → i < j → j < length tags → get_or tags i d ≡ get_or tags j d → ⊥
places_differ tags up i j d before low same =
    let less = each_less tags up i j d before low in
    let equal = tied_itself tag_cmp-total (get_or tags j d) in
    let clash = sym less ∙ ap (λ t. tag_cmp t (get_or tags j d)) same ∙ equal in
    cc

after_is : (tag next : List ℕ) → tag_cmp tag next ≡ Less → is_lt (tag_cmp next tag) ≡ false
after_is tag next less = ap is_lt (tag_cmp-total.antisymm next tag ∙ ap ordering_reverse less)

-- so they can be searched
pub searchable : (tags : List (List ℕ)) → ascend tags ≡ true → (tag : List ℕ) → IsNonDecreasingBy (λ y. ordering_index (tag_cmp y tag)) tags
searchable tags up tag =
    searchable_from_sorted tag_cmp-total (λ t. t) tags tag
    (λ k d from low. after_is (get_or tags k d) (get_or tags (k + 1) d) (each_less tags up k (k + 1) d (omega arith) low))

-- ---- by neighbours

-- where each is less than the next one, they ascend
pub ascend-from : (tags : List (List ℕ)) → ((k : ℕ) (d : List ℕ) → suc k < length tags → is_lt (tag_cmp (get_or tags k d) (get_or tags (suc k) d)) ≡ true) → ascend tags ≡ true
ascend-from [] each = refl
ascend-from (tag ∷ []) each = refl
ascend-from (tag ∷ next ∷ more) each =
    let first : is_lt (tag_cmp tag next) ≡ true = each 0 [] (omega arith) in
    let rest : ascend (next ∷ more) ≡ true = ascend-from (next ∷ more) (λ k d low. each (suc k) d (omega (arith, low))) in
    ap (λ b. b && ascend (next ∷ more)) first ∙ rest

-- where one is not, they do not
pub ascend-not : (tags : List (List ℕ)) (k : ℕ) → suc k < length tags → is_lt (tag_cmp (get_or tags k []) (get_or tags (suc k) [])) ≡ false → ascend tags ≡ false
ascend-not tags k low not = by (ascend tags) refl where
  by : (b : Bool) → ascend tags ≡ b → ascend tags ≡ false
  by true up = let clash = sym not ∙ ap is_lt (each_less tags up k (suc k) [] (omega arith) low) in absurd cc
  by false down = down

-- what a test of neighbours answers
pub ascend-answer : (tags : List (List ℕ)) (r : Bool) → IsAllAdjacentAnswer (λ x y b. b ≡ is_lt (tag_cmp x y)) tags r → r ≡ ascend tags
ascend-answer tags true each = sym (ascend-from tags (λ k d low. above k d (each k d (omega (arith, low))))) where
  above : (k : ℕ) (d : List ℕ) → true ≡ is_lt (tag_cmp (get_or tags k d) (get_or tags (k + 1) d)) → is_lt (tag_cmp (get_or tags k d) (get_or tags (suc k) d)) ≡ true
  above k d is = let e : k + 1 ≡ suc k = omega arith in sym (subst (λ n. true ≡ is_lt (tag_cmp (get_or tags k d) (get_or tags n d))) e is)
ascend-answer tags false one =
    let e : one.0 + 1 ≡ suc one.0 = omega arith in
    let low : suc one.0 < length tags = omega (arith, one.1) in
    sym (ascend-not tags one.0 low (sym (subst (λ n. false ≡ is_lt (tag_cmp (get_or tags one.0 []) (get_or tags n []))) e (one.2 []))))
