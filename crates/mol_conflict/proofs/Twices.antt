-- The cells that are found to be set twice are these.
use Rattle.std.proofs.Common.{◌≡◌, true, List, Contains, sym, ap, ◌∙◌, subst}
use Rattle.std.proofs.lemmas.Bool.{and_parts}
use Rattle.std.specs.FinMap.{get}
use Rattle.std.specs.Prelude.{◌↔◌, ◌&&◌, IsSome, is_some}
use Rattle.mol_conflict.proofs.Parts.{both-true, from-if, in-if, some-is}
use Rattle.mol_conflict.proofs.Values.{differ-apart, differ-is, held}
use Rattle.mol_conflict.specs.Found.{differ, is_twice, pair_of, twice_at, twice_in}
use Rattle.mol_conflict.specs.declared.pair.Pair.{Pair as Row}
use Rattle.mol_conflict.specs.declared.pair.Pair.TheVariants.{Twice}
use Rattle.mol_log_rules.proofs.WhoWrote.{writers-together}
use Rattle.mol_log_rules.specs.Histories.{History, after, last}
use Rattle.mol_log_rules.specs.Writers.{writer}
use Rattle.mol_merge_rules.specs.PairConflicts.{IsTwice, IsPair, set_twice}
use Rattle.mol_resolve_rules.proofs.Stands.{from_each, in_each}
use Rattle.mol_table_rules.specs.Life.{is_living_entity}
use Rattle.mol_table_rules.specs.Program.{Program}
use Rattle.mol_values_types.specs.declared.cell.Cell.{Cell}

module _ (base : Program) (one other : History) (cells : List Cell) (written : (at : Cell) → Contains cells at ↔ IsSome (last one at)) where
  abbrev first : Program
  first = after base one

  abbrev second : Program
  second = after base other

  abbrev pub twices : List Row
  twices = twice_in first second other cells

  twice-is : (at : Cell) → IsTwice base one other at → is_twice first second other at ≡ true
  twice-is at is =
      both-true (is_living_entity first at.id && is_living_entity second at.id && is_some (writer other at))
      (differ (get first.cells at) (get second.cells at))
      (both-true (is_living_entity first at.id && is_living_entity second at.id) (is_some (writer other at))
      (both-true (is_living_entity first at.id) (is_living_entity second at.id) is.lives_one is.lives_other)
      (writers-together other at ∙ ap is_some is.last_other))
      ((λ i. differ (held base one at is.first is.last_one i) (held base other at is.second is.last_other i))
      ∙ differ-is is.first is.second is.differ)

  twice-from : (at : Cell) → IsSome (last one at) → is_twice first second other at ≡ true → IsTwice base one other at
  twice-from at some is =
      let all = and_parts (is_living_entity first at.id && is_living_entity second at.id && is_some (writer other at))
      (differ (get first.cells at) (get second.cells at)) is in
      let most = and_parts (is_living_entity first at.id && is_living_entity second at.id) (is_some (writer other at)) all.0 in
      let lives = and_parts (is_living_entity first at.id) (is_living_entity second at.id) most.0 in
      let here = some-is (last one at) some in
      let there = some-is (last other at) (sym (writers-together other at) ∙ most.1) in
      record {
        lives_one = lives.0;
        lives_other = lives.1;
        first = here.0;
        second = there.0;
        last_one = here.1;
        last_other = there.1;
        differ = differ-apart here.0 there.0
            ((λ i. differ (sym (held base one at here.0 here.1) i) (sym (held base other at there.0 there.1) i)) ∙ all.1);
      }

  pub twices-in : (at : Cell) → IsTwice base one other at → Contains twices (Twice at)
  twices-in at is =
      in_each (twice_at first second other) cells at (Twice at) ((written at).1 (ap is_some is.last_one))
      (in-if (is_twice first second other at) (Twice at) (twice-is at is))

  pub twices-from : (row : Row) → Contains twices row → IsPair base one other (pair_of row)
  twices-from row stands =
      let found = from_each (twice_at first second other) cells row stands in
      let is = from-if (is_twice first second other found.0) (Twice found.0) row found.2 in
      subst (λ (r : Row). IsPair base one other (pair_of r)) is.1 (set_twice (twice-from found.0 ((written found.0).0 found.1) is.0))
