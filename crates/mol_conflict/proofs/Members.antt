-- The rows that are found, once they are in order, are all pairs that conflict.
use Rattle.std.proofs.Common.{◌≡◌, ◌⊎◌, inl, inr, List, [], ◌++◌, map, Contains, refl, sym, ◌∙◌, subst}
use Rattle.std.specs.List.Sorted.{IsStrictlySortedBy}
use Rattle.std.specs.Prelude.{◌↔◌, IsSome}
use Rattle.jav_names.proofs.Lists.{stands-mapped}
use Rattle.mol_base.proofs.Mapped.{sorted-mapped}
use Rattle.mol_conflict.proofs.Gones.{IsFoundIn, gones, gones-from, gones-in}
use Rattle.mol_conflict.proofs.Rows.{ordered-alike, row_order}
use Rattle.mol_conflict.proofs.Twices.{twices, twices-from, twices-in}
use Rattle.mol_conflict.specs.Found.{gone_in, pair_of, twice_in}
use Rattle.mol_conflict.specs.declared.pair.Pair.{Pair as Row}
use Rattle.mol_conflict.specs.declared.pair.Pair.TheVariants.{Twice}
use Rattle.mol_log_rules.specs.Histories.{History, after, last}
use Rattle.mol_merge_rules.specs.PairConflicts.{Pair, ArePairs, IsPair, gone_after_one, gone_after_other, pair_cmp, set_twice}
use Rattle.mol_resolve_rules.proofs.Stands.{behind, from_map, in_either, in_front}
use Rattle.mol_table_rules.specs.Program.{Program}
use Rattle.mol_table_rules.specs.Tidy.{tidy}
use Rattle.mol_values_types.specs.declared.cell.Cell.{Cell}

abbrev pub AreWritten : History → List Cell → Type 0
AreWritten history cells = (at : Cell) → Contains cells at ↔ IsSome (last history at)

module _ (base : Program) (one other : History) (ones others : List Cell) (by-one : AreWritten one ones)
    (by-other : AreWritten other others) where
  abbrev first : List Row
  first = twices base one other ones by-one

  abbrev second : List Row
  second = gones base one other others by-other

  abbrev third : List Row
  third = gones base other one ones by-one

  abbrev pub all : List Row
  all = (first ++ second) ++ third

  -- what is found one after the other is this
  pub rows-found : (left right : Program) → left ≡ after base one → right ≡ after base other → (none once again found : List Row)
      → none ≡ [] → once ≡ none ++ twice_in left right other ones → again ≡ once ++ gone_in base left right (tidy right) others
      → found ≡ again ++ gone_in base right left (tidy left) ones → found ≡ all
  rows-found left right is-left is-right none once again found empty twices-added gones-added more-added =
      let e-once : once ≡ first = twices-added ∙ (λ i. empty i ++ twice_in (is-left i) (is-right i) other ones) in
      let e-again : again ≡ first ++ second =
      gones-added ∙ (λ i. e-once i ++ gone_in base (is-left i) (is-right i) (tidy (is-right i)) others) in
      more-added ∙ (λ i. e-again i ++ gone_in base (is-right i) (is-left i) (tidy (is-left i)) ones)

  from : (row : Row) → Contains all row → IsPair base one other (pair_of row)
  from row stands = by-either (in_either (first ++ second) third row stands) where
    by-front : Contains first row ⊎ Contains second row → IsPair base one other (pair_of row)
    by-front (inl here) = twices-from base one other ones by-one row here
    by-front (inr here) = gone_after_one (gones-from base one other others by-other row here)

    by-either : Contains (first ++ second) row ⊎ Contains third row → IsPair base one other (pair_of row)
    by-either (inl front) = by-front (in_either first second row front)
    by-either (inr back) = gone_after_other (gones-from base other one ones by-one row back)

  to : (pair : Pair) → IsPair base one other pair → IsFoundIn all pair
  to pair (set_twice {at = at} is) = (
    Twice at,
    refl,
    in_front (first ++ second) third (Twice at)
        (in_front first second (Twice at) (twices-in base one other ones by-one at is)),
  )
  to pair (gone_after_one is) =
      let found = gones-in base one other others by-other pair is in
      (found.0, found.1, in_front (first ++ second) third found.0 (behind first second found.0 found.2))
  to pair (gone_after_other is) =
      let found = gones-in base other one ones by-one pair is in
      (found.0, found.1, behind (first ++ second) third found.0 found.2)

  pub are-pairs : (found rows : List Row) → found ≡ all → IsStrictlySortedBy row_order rows
      → ((row : Row) → Contains rows row ↔ Contains found row) → ArePairs base one other (map pair_of rows)
  are-pairs found rows is ascends same = record {
    ascending = sorted-mapped row_order pair_cmp pair_of ordered-alike rows ascends;
    each = λ pair. (
      λ stands. let row = from_map pair_of rows pair stands in
          subst (IsPair base one other) row.2
          (from row.0 (subst (λ (list : List Row). Contains list row.0) is ((same row.0).0 row.1))),
      λ so. let found = to pair so in
          subst (Contains (map pair_of rows)) found.1
          (stands-mapped pair_of rows found.0 ((same found.0).1 (subst (λ (list : List Row). Contains list found.0) (sym is) found.2))),
    );
  }
