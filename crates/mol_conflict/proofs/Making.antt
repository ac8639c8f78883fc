-- What is made of pairs are their conflicts.
use Rattle.std.proofs.Common.{◌≡◌, ◌∙◌, ◌+◌, ◌<◌, ◌≤◌, ℕ, Bool, true, false, List, [], ◌∷◌, ◌++◌, map, length, take, get_or, refl, sym, ap, subst}
use Rattle.std.proofs.lemmas.List.{take_all, take_more}
use Rattle.std.specs.FinMap.{get}
use Rattle.std.specs.List.{AllZip}
use Rattle.std.specs.Prelude.{IsSome, Option, None, Some, is_some, if◌then◌else◌}
use Rattle.jav_names.proofs.Lists.{stands-mapped}
use Rattle.mol_base.specs.declared.ident.Stamp.{Stamp}
use Rattle.mol_conflict.proofs.Values.{held}
use Rattle.mol_conflict.specs.Found.{pair_of}
use Rattle.mol_conflict.specs.Made.{AreHeld, AreValued, IsHeld, IsMade, IsValued, is_later, stamps_in}
use Rattle.mol_conflict.specs.declared.pair.Pair.{Pair as Row}
use Rattle.mol_conflict.specs.declared.pair.Pair.TheVariants.{Twice, GoneChanged, GoneUsed}
use Rattle.mol_faults_rules.specs.declared.conflict.Conflict.{Conflict}
use Rattle.mol_faults_rules.specs.declared.conflict.ConflictKind.{ConflictKind}
use Rattle.mol_log_rules.specs.Histories.{History, after, last}
use Rattle.mol_log_rules.specs.Writers.{entity_writer, life_writer, writer}
use Rattle.mol_merge_rules.specs.Conflicts.{ArePairConflicts, IsConflictOf, in_stamp_order, pair_stamps, stamps_of, twice_kind}
use Rattle.mol_merge_rules.specs.PairConflicts.{Pair, twice, gone_changed, gone_used, ArePairs, IsGonePair, IsPair, IsTwice, changed, used, set_twice, gone_after_one, gone_after_other}
use Rattle.mol_table_rules.specs.Life.{is_living_entity}
use Rattle.mol_table_rules.specs.Program.{Program}
use Rattle.mol_values_types.specs.declared.cell.Cell.{Cell}
use Rattle.mol_values_types.specs.declared.value.Value.{Value}

-- ---- two lists, item by item

module _ {X Y : Type 0} (R : X → Y → Type 0) where
  pub zip-added : (xs : List X) (ys : List Y) (x : X) (y : Y) → AllZip R xs ys → R x y → AllZip R (xs ++ x ∷ []) (ys ++ y ∷ [])
  zip-added [] [] x y all is = (is, tt {0})
  zip-added [] (z ∷ ys) x y all is = absurd all
  zip-added (z ∷ xs) [] x y all is = absurd all
  zip-added (w ∷ xs) (z ∷ ys) x y all is = (all.0, zip-added xs ys x y all.1 is)

  pub zip-further : (xs : List X) (i : ℕ) (x : X) (ys more : List Y) (y : Y) → i < length xs → x ≡ get_or xs i x
      → AllZip R (take i xs) ys → R x y → more ≡ ys ++ y ∷ [] → AllZip R (take (i + 1) xs) more
  zip-further xs i x ys more y within is so_far next added =
      subst (λ (front : List X). AllZip R front more) (sym (take_more xs i x within ∙ ap (λ z. take i xs ++ z ∷ []) (sym is)))
      (subst (AllZip R (take i xs ++ x ∷ [])) (sym added) (zip-added (take i xs) ys x y so_far next))

  pub zip-whole : (xs : List X) (i : ℕ) (ys : List Y) → length xs ≤ i → AllZip R (take i xs) ys → AllZip R xs ys
  zip-whole xs i ys past all = subst (λ (front : List X). AllZip R front ys) (take_all i xs past) all

module _ {X Y Z : Type 0} (R : X → Y → Type 0) (S : Z → Y → Type 0) (make : X → Z)
    (each : (x : X) (y : Y) → R x y → S (make x) y) where
  zip-mapped : (xs : List X) (ys : List Y) → AllZip R xs ys → AllZip S (map make xs) ys
  zip-mapped [] [] all = tt {0}
  zip-mapped [] (y ∷ ys) all = absurd all
  zip-mapped (x ∷ xs) [] all = absurd all
  zip-mapped (x ∷ xs) (y ∷ ys) all = (each x y all.0, zip-mapped xs ys all.1)

-- ---- the value of the lesser stamp first

pub ordered-by : {X : Type 0} (one other : Option Stamp) (first second : X)
    → in_stamp_order one other first second ≡ (if is_later one other then (second, first) else (first, second))
ordered-by None None first second = refl
ordered-by None (Some other) first second = refl
ordered-by (Some one) None first second = refl
ordered-by (Some one) (Some other) first second = refl

-- ---- the values that are left, in this order

pub some-held : {left : Program} {history : History} {at : Cell} → IsHeld left history at → IsSome (get left.cells at)
some-held held = ap is_some held.held

held-same : {left : Program} {history : History} {at : Cell} → IsHeld left history at → last history at ≡ get left.cells at
held-same held = held.written ∙ sym held.held

module _ {left right : Program} {one other : History} (at : Cell) (held : AreHeld left right one other at) where
  abbrev lasts : Option Value × Option Value
  lasts = in_stamp_order (writer one at) (writer other at) (last one at) (last other at)

  pub held-first : {kind : ConflictKind} → is_later (writer one at) (writer other at) ≡ false
      → twice_kind at (get left.cells at, get right.cells at) ≡ Some kind → twice_kind at lasts ≡ Some kind
  held-first is so =
      ap (twice_kind at) (ordered-by (writer one at) (writer other at) (last one at) (last other at)
      ∙ ap (λ later. if later then (last other at, last one at) else (last one at, last other at)) is
      ∙ (λ i. (held-same held.0 i, held-same held.1 i)))
      ∙ so

  pub held-second : {kind : ConflictKind} → is_later (writer one at) (writer other at) ≡ true
      → twice_kind at (get right.cells at, get left.cells at) ≡ Some kind → twice_kind at lasts ≡ Some kind
  held-second is so =
      ap (twice_kind at) (ordered-by (writer one at) (writer other at) (last one at) (last other at)
      ∙ ap (λ later. if later then (last other at, last one at) else (last one at, last other at)) is
      ∙ (λ i. (held-same held.1 i, held-same held.0 i)))
      ∙ so

-- ---- the stamps of one pair or the other

abbrev either : Bool → Option Stamp × Option Stamp → Option Stamp × Option Stamp → Option Stamp × Option Stamp
either b these those = if b then these else those

either-stamps : (b : Bool) (first second third fourth : Option Stamp)
    → stamps_of (either b (first, second) (third, fourth)).0 (either b (first, second) (third, fourth)).1
    ≡ (if b then stamps_of first second else stamps_of third fourth)
either-stamps true first second third fourth = refl
either-stamps false first second third fourth = refl

-- ---- the values of what is set twice

abbrev NoTwice : Pair → Type 0
NoTwice (twice at) = ⊥
NoTwice pair = Unit {0}

gone-no : (base : Program) (one other : History) (pair : Pair) → IsGonePair base one other pair → NoTwice pair
gone-no base one other pair (changed at gone some) = tt {0}
gone-no base one other pair (used gone lives writes refers) = tt {0}

module _ (base : Program) (one other : History) where
  abbrev AreLeft : Pair → Type 0
  AreLeft (twice at) = IsHeld (after base one) one at × IsHeld (after base other) other at
  AreLeft pair = Unit {0}

  no-twice : (pair : Pair) → NoTwice pair → AreLeft pair
  no-twice (twice at) never = absurd never
  no-twice (gone_changed id) never = tt {0}
  no-twice (gone_used id at) never = tt {0}

  twice-held : (at : Cell) → IsTwice base one other at → AreLeft (twice at)
  twice-held at is = (
    record { value = is.first; held = held base one at is.first is.last_one; written = is.last_one },
    record { value = is.second; held = held base other at is.second is.last_other; written = is.last_other },
  )

  pair-held : (pair : Pair) → IsPair base one other pair → AreLeft pair
  pair-held pair (set_twice {at = at} is) = twice-held at is
  pair-held pair (gone_after_one is) = no-twice pair (gone-no base one other pair is)
  pair-held pair (gone_after_other is) = no-twice pair (gone-no base other one pair is)

  valued : (row : Row) → AreLeft (pair_of row) → IsValued (after base one) (after base other) one other row
  valued (Twice at) is = is
  valued (GoneChanged id) is = tt {0}
  valued (GoneUsed id at) is = tt {0}

  are-valued : (rows : List Row) → ArePairs base one other (map pair_of rows)
      → AreValued (after base one) (after base other) one other rows
  are-valued rows are row stands = valued row (pair-held (pair_of row) ((are.each (pair_of row)).0 (stands-mapped pair_of rows row stands)))

  -- ---- conflicts

  stamps-alike : (row : Row) → stamps_in (after base one) (after base other) one other row ≡ pair_stamps base one other (pair_of row)
  stamps-alike (Twice at) = refl
  stamps-alike (GoneChanged id) =
      either-stamps (is_living_entity (after base one) id) (life_writer (after base other) other id) (entity_writer one id)
      (life_writer (after base one) one id) (entity_writer other id)
  stamps-alike (GoneUsed id at) =
      either-stamps (is_living_entity (after base one) id) (life_writer (after base other) other id) (writer one at)
      (life_writer (after base one) one id) (writer other at)

  made-is : (row : Row) (conflict : Conflict) → IsMade (after base one) (after base other) one other row conflict
      → IsConflictOf base one other (pair_of row) conflict
  made-is row conflict made = record { kind = made.kind; stamps = made.stamps ∙ stamps-alike row }

  are-conflicts : (rows : List Row) (list : List Conflict) → ArePairs base one other (map pair_of rows)
      → AllZip (IsMade (after base one) (after base other) one other) rows list → ArePairConflicts base one other list
  are-conflicts rows list are made = record {
    pairs = map pair_of rows;
    are = are;
    each = zip-mapped (IsMade (after base one) (after base other) one other) (IsConflictOf base one other) pair_of made-is rows list made;
  }

  -- ---- by programs that are what the histories leave

  module _ (left right : Program) (is-left : left ≡ after base one) (is-right : right ≡ after base other) (rows these : List Row)
      (are : ArePairs base one other (map pair_of rows)) (same : these ≡ rows) where
    pub pairs-valued : AreValued left right one other these
    pairs-valued =
        subst (λ (l : Program). AreValued l right one other these) (sym is-left)
        (subst (λ (r : Program). AreValued (after base one) r one other these) (sym is-right)
        (subst (AreValued (after base one) (after base other) one other) (sym same) (are-valued rows are)))

    pub pairs-made : (list : List Conflict) → AllZip (IsMade left right one other) these list → ArePairConflicts base one other list
    pairs-made list made =
        are-conflicts rows list are
        (subst (λ (rs : List Row). AllZip (IsMade (after base one) (after base other) one other) rs list) same
        (subst (λ (r : Program). AllZip (IsMade (after base one) r one other) these list) is-right
        (subst (λ (l : Program). AllZip (IsMade l right one other) these list) is-left made)))
