-- In rows that ascend those of one key are found from the first that is no less.
use Rattle.std.proofs.Common.{◌≡◌, ℕ, zero, suc, ◌<◌, ◌≤◌, Bool, true, false, cond, List, [], ◌∷◌, length, get_or, drop, filter, Contains, refl, sym, ◌∙◌, ap, arith, true≢false, take_while, Ordering, Less, Equal, Greater}
use Rattle.std.specs.Ordering.{is_lt, is_eq, ordering_reverse}
use Rattle.std.proofs.lemmas.List.Sums.{take_while-cons}
use Rattle.jav_names.proofs.index_lemmas.Searched.{equal-is}
use Rattle.jav_names.proofs.Lists.{stands_first, stands_later}
use Rattle.jav_names.specs.Views.{IsKeyOrder}
use Rattle.mol_faults_entities.proofs.pair_faults_lemmas.Fronts.{Ascend, between, tied}

filter-none : {R : Type 0} (p : R → Bool) (rows : List R) → ((row : R) → Contains rows row → p row ≡ false) → filter p rows ≡ []
filter-none p [] none = refl
filter-none p (row ∷ rows) none =
    ap (λ b. cond b (row ∷ filter p rows) (filter p rows)) (none row (stands_first row rows))
    ∙ filter-none p rows (λ next stands. none next (stands_later row next rows stands))

module _ {R K : Type 0} (cmp : K → K → Ordering) (key : R → K) (order : IsKeyOrder cmp) (k : K) where
  abbrev has : R → Bool
  has row = is_eq (cmp k (key row))

  -- none is less
  abbrev Above : List R → Type 0
  Above rows = (next : R) → Contains rows next → is_lt (cmp (key next) k) ≡ false

  front-filter : (rows : List R) → Above rows → Ascend cmp key order rows → filter has rows ≡ take_while has rows
  front-filter [] above up = refl
  front-filter (row ∷ later) above up =
      by (has row) refl (front-filter later (λ next stands. above next (stands_later row next later stands)) up.1) where
        none-later : has row ≡ false → (next : R) → Contains later next → has next ≡ false
        none-later fails next stands = at (has next) refl where
          at : (b : Bool) → has next ≡ b → b ≡ false
          at false is = refl
          at true is =
              let same : k ≡ key next = order.same k (key next) (equal-is (cmp k (key next)) is) in
              let here : k ≡ key row = between cmp key order k row next (above row (stands_first row later)) (up.0 next stands) same in
              absurd (true≢false (sym (tied cmp key order k row here) ∙ fails))

        by : (b : Bool) → has row ≡ b → filter has later ≡ take_while has later → filter has (row ∷ later) ≡ take_while has (row ∷ later)
        by true is more = ap (λ b. cond b (row ∷ filter has later) (filter has later)) is ∙ ap (λ rows. row ∷ rows) more
            ∙ sym (take_while-cons has row later ∙ ap (λ b. cond b (row ∷ take_while has later) []) is)
        by false is more = ap (λ b. cond b (row ∷ filter has later) (filter has later)) is ∙ filter-none has later (none-later is)
            ∙ sym (take_while-cons has row later ∙ ap (λ b. cond b (row ∷ take_while has later) []) is)

  less-differs : (row : R) → is_lt (cmp (key row) k) ≡ true → has row ≡ false
  less-differs row less = ap is_eq (order.total.antisymm k (key row)) ∙ by (cmp (key row) k) less where
    by : (o : Ordering) → is_lt o ≡ true → is_eq (ordering_reverse o) ≡ false
    by Less is = refl
    by Equal is = absurd (true≢false (sym is))
    by Greater is = refl

  -- those before the place are less, and no others
  pub filter-from : (rows : List R) → Ascend cmp key order rows → (start : ℕ)
      → ((j : ℕ) (d : R) → j < start → j < length rows → is_lt (cmp (key (get_or rows j d)) k) ≡ true)
      → ((j : ℕ) (d : R) → start ≤ j → j < length rows → is_lt (cmp (key (get_or rows j d)) k) ≡ false)
      → filter has rows ≡ take_while has (drop start rows)
  filter-from [] up zero before after = refl
  filter-from [] up (suc start) before after = refl
  filter-from (row ∷ later) up zero before after = front-filter (row ∷ later)
      (λ next stands. ap (λ (z : R). is_lt (cmp (key z) k)) (sym stands.2) ∙ after stands.0 next (omega arith) stands.1) up
  filter-from (row ∷ later) up (suc start) before after =
      ap (λ b. cond b (row ∷ filter has later) (filter has later)) (less-differs row (before 0 row (omega arith) (omega arith)))
      ∙ filter-from later up.1 start
      (λ j d early within. before (suc j) d (omega (arith, early)) (omega (arith, within)))
      (λ j d late within. after (suc j) d (omega (arith, late)) (omega (arith, within)))
