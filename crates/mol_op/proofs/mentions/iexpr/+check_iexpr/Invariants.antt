use Rattle.std.proofs.Common.{◌≡◌, drop}
use Rattle.mol_table_rules.specs.Mentions.{exprs_mentions, arguments_mentions}
use Rattle.mol_op.specs.Seen.{seen_by}
use Rattle.mol_op.specs.Tests.{mentions_fault}
use Rattle.mol_op.proofs.mentions.iexpr.+check_iexpr.Given as goal

abbrev pub invariant-check_all-loop-item : goal.invariant-check_all-loop-item
invariant-check_all-loop-item l =
    mentions_fault (seen_by l.seen) (exprs_mentions (drop l.item-index l.items)) ≡ mentions_fault (seen_by l.seen) (exprs_mentions l.items)

abbrev pub invariant-check_arguments-loop-arg : goal.invariant-check_arguments-loop-arg
invariant-check_arguments-loop-arg l =
    mentions_fault (seen_by l.seen) (arguments_mentions (drop l.arg-index l.args)) ≡ mentions_fault (seen_by l.seen) (arguments_mentions l.args)
