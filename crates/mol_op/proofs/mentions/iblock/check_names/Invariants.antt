use Rattle.std.proofs.Common.{◌≡◌, drop}
use Rattle.mol_op.specs.Seen.{seen_by}
use Rattle.mol_op.specs.Statements.{names_mentions}
use Rattle.mol_op.specs.Tests.{mentions_fault}
use Rattle.mol_op.proofs.mentions.iblock.check_names.Given as goal

abbrev pub invariant-loop-name : goal.invariant-loop-name
invariant-loop-name l = mentions_fault (seen_by l.seen) (names_mentions (drop l.name-index l.names)) ≡ mentions_fault (seen_by l.seen) (names_mentions l.names)
