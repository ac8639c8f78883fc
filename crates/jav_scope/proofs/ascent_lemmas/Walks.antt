-- Steps in turn, and twice as many of them.
use Rattle.std.proofs.Common.{◌≡◌, ℕ, zero, suc, ◌+◌, ◌*◌, ◌<◌, List, All, map, length, get_or, slice_index, Contains, refl, sym, ◌∙◌, ap, arith, zero-mul, suc-mul, add_comm}
use Rattle.std.specs.List.{range_with_len}
use Rattle.std.proofs.lemmas.List.{length-map, get_or-map}
use Rattle.std.proofs.lemmas.List.FromFn.{fill_by_all, get_or-map-range_with_len, get_or-range_with_len, length-map-range_with_len, length-range_with_len}
use Rattle.jav_scope.specs.ascent.Walked.{walked}

-- numbers below a count
pub in_range : (count k : ℕ) → k < count → Contains (range_with_len 0 count) k
in_range count k below = (
  k,
  omega (arith, below, length-range_with_len 0 count),
  let is : get_or (range_with_len 0 count) k k ≡ 0 + k = get_or-range_with_len 0 count k k below in omega (arith, is),
)

module _ (links : List ℕ) where
  pub walked-more : (m n place : ℕ) → walked links (m + n) place ≡ walked links m (walked links n place)
  walked-more zero n place = ap (λ k. walked links k place) (omega arith)
  walked-more (suc m) n place =
      let next : suc m + n ≡ suc (m + n) = omega arith in
      ap (λ k. walked links k place) next ∙ ap (slice_index links) (walked-more m n place)

  -- whichever are first
  pub walked-exchange : (m n place : ℕ) → walked links m (walked links n place) ≡ walked links n (walked links m place)
  walked-exchange m n place =
      sym (walked-more m n place) ∙ ap (λ k. walked links k place) (omega arith) ∙ walked-more n m place

  -- so many times round
  pub walked-rounds : (steps place : ℕ) → walked links steps place ≡ place → (times : ℕ) → walked links (times * steps) place ≡ place
  walked-rounds steps place back zero = ap (λ k. walked links k place) (zero-mul steps)
  walked-rounds steps place back (suc times) =
      ap (λ k. walked links k place) (suc-mul times steps ∙ add_comm (times * steps) steps) ∙ walked-more steps (times * steps) place
      ∙ ap (walked links steps) (walked-rounds steps place back times) ∙ back

  module _ (within : All (λ link. link < length links) links) where
    pub walked-within : (steps place : ℕ) → place < length links → walked links steps place < length links
    walked-within zero place below = below
    walked-within (suc steps) place below = within (walked links steps place) 0 (walked-within steps place below)

    module _ (steps : ℕ) (far : List ℕ) (is : far ≡ map (walked links steps) (range_with_len 0 (length links))) where
      as_long : length far ≡ length links
      as_long = ap length is ∙ length-map-range_with_len (walked links steps) 0 (length links)

      at : (place : ℕ) → place < length links → get_or far place 0 ≡ walked links steps place
      at place below =
          ap (λ places. get_or places place 0) is
          ∙ get_or-map-range_with_len (walked links steps) 0 (length links) place place 0 below (omega arith)

      pub far-within : All (λ place. place < length far) far
      far-within = λ place d below. omega (
        arith,
        below,
        as_long,
        at-any place d (omega (arith, below, as_long)),
        walked-within steps place (omega (arith, below, as_long)),
      ) where
        at-any : (place d : ℕ) → place < length links → get_or far place d ≡ walked links steps place
        at-any place d below =
            ap (λ places. get_or places place d) is
            ∙ get_or-map-range_with_len (walked links steps) 0 (length links) place place d below (omega arith)

      pub twice-far : map (slice_index far) far ≡ map (walked links (steps + steps)) (range_with_len 0 (length links))
      twice-far = fill_by_all (walked links (steps + steps)) (map (slice_index far) far) (length links) 0
          (length-map far (slice_index far) ∙ as_long)
          (λ place below. get_or-map (slice_index far) far place 0 0 (omega (arith, below, as_long))
          ∙ ap (slice_index far) (at place below)
          ∙ at (walked links steps place) (walked-within steps place below) ∙ sym (walked-more steps steps place))

  -- one step
  pub once-far : links ≡ map (walked links 1) (range_with_len 0 (length links))
  once-far = fill_by_all (walked links 1) links (length links) 0 refl (λ place below. refl)
