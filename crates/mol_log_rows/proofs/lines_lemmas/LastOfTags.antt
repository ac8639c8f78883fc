-- The last numbers of tags that ascend, each at the place of its tag.
use Rattle.std.proofs.Common.{◌≡◌, ℕ, suc, ◌<◌, ◌≤◌, ◌⊎◌, inl, inr, List, [], ◌∷◌, length, get_or, Bool, true, false, refl, sym, ap, ◌∙◌, arith}
use Rattle.std.specs.Prelude.{◌&&◌, ◌||◌, nat_lt, if◌then◌else◌, set}
use Rattle.std.specs.List.{list_any, HoldsAt}
use Rattle.std.specs.List.Sorted.{IsNonDecreasingBy, IsPartitionPoint}
use Rattle.std.specs.Str.{bytes_eq}
use Rattle.std.specs.Cmp.Lexicographic.{same_text}
use Rattle.std.specs.Ordering.{ordering_index}
use Rattle.std.specs.declared.cmp.Ordering.TheVariants.{Less, Equal, Greater}
use Rattle.std.proofs.lemmas.Bool.{cases_eq, cases_lt}
use Rattle.std.proofs.lemmas.Cmp.{tied_itself}
use Rattle.std.proofs.lemmas.List.{get_or-set_same, get_or-set_other}
use Rattle.std.proofs.lemmas.List.Folds.{list_any_at}
use Rattle.std.proofs.lemmas.Slice.Eq.{bytes_eq-Decides}
use Rattle.mol_base.specs.Order.{tag_cmp, tag_cmp-IsAntisymmetric}
use Rattle.mol_base.specs.declared.ident.Stamp.{Stamp}
use Rattle.mol_log_rows.specs.lines.Headers.{ascend}
use Rattle.mol_log_rows.specs.lines.Stamps.{Knows, last_number, may_follow}
use Rattle.mol_log_rows.specs.declared.lines.stamps.LastNumbers.{LastNumbers}
use Rattle.mol_log_rows.proofs.lines_lemmas.Ascending.{tag_cmp-total, places_differ, searchable}

same_bytes : (x y : List ℕ) → x ≡ y → bytes_eq x y ≡ true
same_bytes x y same = (bytes_eq-Decides x y).1 same

other_bytes : (x y : List ℕ) → (x ≡ y → ⊥) → bytes_eq x y ≡ false
other_bytes x y differ = by (bytes_eq x y) refl where
  by : (b : Bool) → bytes_eq x y ≡ b → bytes_eq x y ≡ false
  by true is = absurd (differ (same_text x y (sym is)))
  by false is = is

-- a tag at no place is none of the tags
unlisted : (tags : List (List ℕ)) (tag : List ℕ) → ((k : ℕ) → k < length tags → get_or tags k [] ≡ tag → ⊥) → list_any (bytes_eq tag) tags ≡ false
unlisted [] tag none = refl
unlisted (first ∷ more) tag none =
    let rest : list_any (bytes_eq tag) more ≡ false = unlisted more tag (λ k low same. none (suc k) (omega (arith, low)) same) in
    ap (λ b. b || list_any (bytes_eq tag) more) (other_bytes tag first (λ same. none 0 (omega arith) (sym same))) ∙ rest

module _ (tags : List (List ℕ)) (up : ascend tags ≡ true) (tag : List ℕ) where
  -- what a search found
  found : (place : ℕ) → HoldsAt (λ y. tag_cmp y tag ≡ Equal) tags place → get_or tags place [] ≡ tag
  found place at = tag_cmp-IsAntisymmetric (get_or tags place []) tag (at [])

  -- what it did not find
  missing : (i : ℕ) → (IsNonDecreasingBy (λ y. ordering_index (tag_cmp y tag)) tags → IsPartitionPoint (λ y. tag_cmp y tag ≡ Less) (λ y. tag_cmp y tag ≡ Greater) tags i)
      → (k : ℕ) → k < length tags → get_or tags k [] ≡ tag → ⊥
  missing i parts k low same =
      let cut = parts (searchable tags up tag) in
      let equal : tag_cmp (get_or tags k []) tag ≡ Equal = ap (λ t. tag_cmp t tag) same ∙ tied_itself tag_cmp-total tag in
      by (cases_lt k i) cut.0 cut.1 equal where
        by : (k < i) ⊎ (i ≤ k) → ((k : ℕ) (d : List ℕ) → 0 ≤ k → k < i → tag_cmp (get_or tags k d) tag ≡ Less) → ((k : ℕ) (d : List ℕ) → i ≤ k → k < length tags → tag_cmp (get_or tags k d) tag ≡ Greater)
            → tag_cmp (get_or tags k []) tag ≡ Equal → ⊥
        by (inl below) less greater equal = let clash = sym (less k [] (omega arith) below) ∙ equal in cc
        by (inr above) less greater equal = let clash = sym (greater k [] above low) ∙ equal in cc

module _ (tags : List (List ℕ)) (up : ascend tags ≡ true) (numbers : List ℕ) (earlier : List Stamp)
    (last : (k : ℕ) → k < length tags → get_or numbers k 0 ≡ last_number (get_or tags k []) earlier) (stamp : Stamp) where
  -- at the place of its tag the stamp's number tells whether it may follow
  pub follows_at : (place : ℕ) → place < length tags → HoldsAt (λ y. tag_cmp y stamp.tag ≡ Equal) tags place
      → nat_lt (get_or numbers place 0) stamp.seq ≡ may_follow tags earlier stamp
  follows_at place low at =
      let same = found tags up stamp.tag place at in
      let number = last place low ∙ ap (λ tag. last_number tag earlier) same in
      let listed = list_any_at (bytes_eq stamp.tag) tags place [] low (same_bytes stamp.tag (get_or tags place []) (sym same)) in
      ap (λ n. nat_lt n stamp.seq) number ∙ sym (ap (λ b. b && nat_lt (last_number stamp.tag earlier) stamp.seq) listed)

  -- without a place it may not
  pub foreign : (i : ℕ) → (IsNonDecreasingBy (λ y. ordering_index (tag_cmp y stamp.tag)) tags → IsPartitionPoint (λ y. tag_cmp y stamp.tag ≡ Less) (λ y. tag_cmp y stamp.tag ≡ Greater) tags i)
      → false ≡ may_follow tags earlier stamp
  foreign i parts = sym (ap (λ b. b && nat_lt (last_number stamp.tag earlier) stamp.seq) (unlisted tags stamp.tag (missing tags up stamp.tag i parts)))

  other_last : (k : ℕ) → (get_or tags k [] ≡ stamp.tag → ⊥) → last_number (get_or tags k []) (stamp ∷ earlier) ≡ last_number (get_or tags k []) earlier
  other_last k differ = ap (λ b. if b then stamp.seq else last_number (get_or tags k []) earlier) (other_bytes (get_or tags k []) stamp.tag differ)

  -- the stamp's number, put at the place of its tag
  pub taken_at : (place : ℕ) → place < length tags → length numbers ≡ length tags → HoldsAt (λ y. tag_cmp y stamp.tag ≡ Equal) tags place
      → (k : ℕ) → k < length tags → get_or (set numbers place stamp.seq) k 0 ≡ last_number (get_or tags k []) (stamp ∷ earlier)
  taken_at place low long at k within = by (cases_eq k place) where
    same : get_or tags place [] ≡ stamp.tag
    same = found tags up stamp.tag place at

    differs : (k ≡ place → ⊥) → get_or tags k [] ≡ stamp.tag → ⊥
    differs other here = way (cases_lt k place) where
      way : (k < place) ⊎ (place ≤ k) → ⊥
      way (inl below) = places_differ tags up k place [] below low (here ∙ sym same)
      way (inr above) = way-up (cases_eq k place) where
        way-up : (k ≡ place) ⊎ (k ≡ place → ⊥) → ⊥
        way-up (inl is) = other is
        way-up (inr isnt) = places_differ tags up place k [] (omega (arith, above, isnt)) within (same ∙ sym here)

    by : (k ≡ place) ⊎ (k ≡ place → ⊥) → get_or (set numbers place stamp.seq) k 0 ≡ last_number (get_or tags k []) (stamp ∷ earlier)
    by (inl is) =
        ap (λ k. get_or (set numbers place stamp.seq) k 0) is ∙ get_or-set_same numbers place stamp.seq 0 (omega (arith, low, long))
        ∙ sym (ap (λ b. if b then stamp.seq else last_number (get_or tags k []) earlier) (same_bytes (get_or tags k []) stamp.tag (ap (λ k. get_or tags k []) is ∙ same)))
    by (inr other) = get_or-set_other numbers place k stamp.seq 0 other ∙ last k within ∙ sym (other_last k (differs other))

  -- a stamp of no tag changes nothing
  pub taken_nowhere : (i : ℕ) → (IsNonDecreasingBy (λ y. ordering_index (tag_cmp y stamp.tag)) tags → IsPartitionPoint (λ y. tag_cmp y stamp.tag ≡ Less) (λ y. tag_cmp y stamp.tag ≡ Greater) tags i)
      → (k : ℕ) → k < length tags → get_or numbers k 0 ≡ last_number (get_or tags k []) (stamp ∷ earlier)
  taken_nowhere i parts k within = last k within ∙ sym (other_last k (missing tags up stamp.tag i parts k within))

-- ---- what the code keeps

module _ (kept : LastNumbers) (up : ascend kept.tags.now ≡ true) (tags : List (List ℕ)) (earlier : List Stamp) (knows : Knows kept tags earlier) (stamp : Stamp) where
  abbrev Missed : ℕ → Type 0
  Missed i = IsNonDecreasingBy (λ y. ordering_index (tag_cmp y stamp.tag)) kept.tags.now
      → IsPartitionPoint (λ y. tag_cmp y stamp.tag ≡ Less) (λ y. tag_cmp y stamp.tag ≡ Greater) kept.tags.now i

  abbrev Hit : ℕ → Type 0
  Hit place = HoldsAt (λ y. tag_cmp y stamp.tag ≡ Equal) kept.tags.now place

  pub kept_follows : (place : ℕ) → place < length kept.tags.now → Hit place → nat_lt (get_or kept.numbers.items place 0) stamp.seq ≡ may_follow tags earlier stamp
  kept_follows place low at =
      follows_at kept.tags.now up kept.numbers.items earlier knows.last stamp place low at ∙ ap (λ ts. may_follow ts earlier stamp) knows.listed

  pub kept_foreign : (i : ℕ) → Missed i → false ≡ may_follow tags earlier stamp
  kept_foreign i parts =
      foreign kept.tags.now up kept.numbers.items earlier knows.last stamp i parts ∙ ap (λ ts. may_follow ts earlier stamp) knows.listed

  pub kept_taken : (new : LastNumbers) (place : ℕ) → place < length kept.tags.now → length kept.numbers.items ≡ length kept.tags.now → Hit place
      → new.tags.now ≡ kept.tags.now
      → new.numbers.items ≡ set kept.numbers.items place stamp.seq
      → Knows new tags (stamp ∷ earlier)
  kept_taken new place low long at same numbers = record {
    listed = same ∙ knows.listed;
    last = λ k within.
        let inside : k < length kept.tags.now = omega (arith, within, ap length same) in
        ap (λ ns. get_or ns k 0) numbers ∙ taken_at kept.tags.now up kept.numbers.items earlier knows.last stamp place low long at k inside
        ∙ ap (λ ts. last_number (get_or ts k []) (stamp ∷ earlier)) (sym same);
  }

  pub kept_nowhere : (i : ℕ) → Missed i → Knows kept tags (stamp ∷ earlier)
  kept_nowhere i parts = record {
    listed = knows.listed;
    last = taken_nowhere kept.tags.now up kept.numbers.items earlier knows.last stamp i parts;
  }
