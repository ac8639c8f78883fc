use Rattle.std.proofs.Common.{◌≡◌, drop}
use Rattle.mol_op.specs.Seen.{seen_by}
use Rattle.mol_op.specs.Statements.{statements_mentions}
use Rattle.mol_op.specs.Tests.{mentions_fault}
use Rattle.mol_op.proofs.mentions.iblock.+check_istmt.Given as goal

abbrev pub invariant-check_statements-loop-item : goal.invariant-check_statements-loop-item
invariant-check_statements-loop-item l =
    mentions_fault (seen_by l.seen) (statements_mentions (drop l.item-index l.items)) ≡ mentions_fault (seen_by l.seen) (statements_mentions l.items)
