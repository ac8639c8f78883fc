-- Where numbers stand first, from the end of an order on; and that each file stands in the order of paths.
use Rattle.std.proofs.Common.{◌≡◌, ◌⊎◌, inl, inr, ℕ, zero, suc, ◌+◌, ◌<◌, ◌==◌, Bool, true, false, cond, not, if◌then◌else◌, List, [], ◌∷◌, map, length, drop, get_or, replicate, set, ◌++◌, Contains, refl, sym, ◌∙◌, ap, subst, arith, true≢false, eqb-true, eq-eqb, drop-cons}
use Rattle.std.specs.List.{position_or_len, prefix_len}
use Rattle.std.specs.Ordering.{is_lt}
use Rattle.std.proofs.lemmas.List.{drop_all, get_or-replicate, get_or-set_same, get_or-set_other, length-replicate, length-set, map-id}
use Rattle.std.proofs.lemmas.List.FromFn.{fill_by_all, map-range_with_len_more}
use Rattle.jav_names.proofs.Lists.{stands_first, stands_later, stands_where, stands_nowhere, stands-mapped}
use Rattle.mol_resolve_rules.specs.Files.{File}
use Rattle.mol_resolve_rules.specs.Numbering.{below, path_cmp, put_by_path, by_path}
use Rattle.mol_resolve_members.specs.places.Orders.{position, positions}

-- what stands in a list has its place in it
pub position-inside : {X : Type 0} (p : X → Bool) (xs : List X) (x : X) → Contains xs x → p x ≡ true → position_or_len p xs < length xs
position-inside p [] x there passes = absurd (stands_nowhere x there)
position-inside p (y ∷ xs) x there passes = by (p y) refl (stands_where y x xs there) (λ later. position-inside p xs x later passes) where
  by : (b : Bool) → p y ≡ b → (y ≡ x) ⊎ Contains xs x → (Contains xs x → position_or_len p xs < length xs)
      → cond (not b) (1 + position_or_len p xs) 0 < length (y ∷ xs)
  by true is where_x more = omega arith
  by false is (inl same) more = absurd (true≢false (sym passes ∙ ap p (sym same) ∙ is))
  by false is (inr later) more = omega (arith, more later)

-- ---- from the end

-- Each number is said to stand where it stands first in the rest of an order, from this place on.
abbrev pub PlacedFrom : List ℕ → ℕ → List ℕ → Type 0
PlacedFrom order from places = (number : ℕ) → number < length places → get_or places number 0 ≡ from + position (drop from order) number

pub placed-more : (order : List ℕ) (from number : ℕ) (places : List ℕ) → from < length order → number ≡ get_or order from 0
    → number < length places → PlacedFrom order (from + 1) places → PlacedFrom order from (set places number from)
placed-more order from number places below is inside placed other within =
    by (other == number) refl ∙ sym (ap (λ rest. from + position rest other) begins) where
      step : suc from ≡ from + 1
      step = omega arith

      begins : drop from order ≡ number ∷ drop (from + 1) order
      begins = drop-cons order from 0 below ∙ (λ i. sym is i ∷ drop (step i) order)

      by : (b : Bool) → (other == number) ≡ b
          → get_or (set places number from) other 0 ≡ from + cond (not b) (1 + position (drop (from + 1) order) other) 0
      by true same =
          let here : from ≡ from + 0 = omega arith in
          subst (λ k. get_or (set places number from) k 0 ≡ from + 0) (sym (eqb-true other number same))
          (get_or-set_same places number from 0 inside ∙ here)
      by false apart =
          let further : ℕ = position (drop (from + 1) order) other in
          let later : from + 1 + further ≡ from + (1 + further) = omega arith in
          get_or-set_other places number other from 0 (λ same. true≢false (sym (eq-eqb other number same) ∙ apart))
          ∙ placed other (omega (arith, within, length-set places number from)) ∙ later

pub placed-none : (order : List ℕ) → PlacedFrom order (length order) (replicate (length order) (length order))
placed-none order number within =
    let count = length order in
    let nowhere : count ≡ count + 0 = omega arith in
    get_or-replicate count number count 0 (omega (arith, within, length-replicate count count)) ∙ nowhere
    ∙ sym (ap (λ rest. count + position rest number) (drop_all count order (omega arith)))

pub placed-all : (order places : List ℕ) → length places ≡ length order → PlacedFrom order 0 places → places ≡ positions order
placed-all order places size placed = fill_by_all (position order) places (length order) 0 size
    (λ number within. placed number (omega (arith, within, size))
    ∙ (let e : 0 + position order number ≡ position order number = omega arith in e))

-- one more number
pub below-more : (count : ℕ) → below (count + 1) ≡ below count ++ count ∷ []
below-more count =
    sym (map-id (below (count + 1))) ∙ map-range_with_len_more (λ k. k) 0 count count (omega arith)
    ∙ ap (λ ks. ks ++ count ∷ []) (map-id (below count))

-- ---- by paths

put-stands : (file other : ℕ × File) (files : List (ℕ × File)) → (file ≡ other) ⊎ Contains files other
    → Contains (put_by_path file files) other
put-stands file other [] (inl same) = subst (Contains (file ∷ [])) same (stands_first file [])
put-stands file other [] (inr later) = absurd (stands_nowhere other later)
put-stands file other (next ∷ rest) place =
    by (is_lt (path_cmp next.1.path file.1.path)) place (put-stands file other rest) where
      later : (next ≡ other) ⊎ Contains rest other → ((file ≡ other) ⊎ Contains rest other → Contains (put_by_path file rest) other)
          → Contains (next ∷ put_by_path file rest) other
      later (inl same) more = subst (Contains (next ∷ put_by_path file rest)) same (stands_first next (put_by_path file rest))
      later (inr in_rest) more = stands_later next other (put_by_path file rest) (more (inr in_rest))

      by : (b : Bool) → (file ≡ other) ⊎ Contains (next ∷ rest) other
          → ((file ≡ other) ⊎ Contains rest other → Contains (put_by_path file rest) other)
          → Contains (if b then next ∷ put_by_path file rest else file ∷ next ∷ rest) other
      by true (inl same) more = stands_later next other (put_by_path file rest) (more (inl same))
      by true (inr there) more = later (stands_where next other rest there) more
      by false (inl same) more = subst (Contains (file ∷ next ∷ rest)) same (stands_first file (next ∷ rest))
      by false (inr there) more = stands_later file other (next ∷ rest) there

pub by_path-stands : (files : List (ℕ × File)) (other : ℕ × File) → Contains files other → Contains (by_path files) other
by_path-stands [] other there = there
by_path-stands (file ∷ files) other there =
    put-stands file other (by_path files) (by (by_path-stands files other) (stands_where file other files there)) where
      by : (Contains files other → Contains (by_path files) other) → (file ≡ other) ⊎ Contains files other
          → (file ≡ other) ⊎ Contains (by_path files) other
      by more (inl same) = inl same
      by more (inr later) = inr (more later)
