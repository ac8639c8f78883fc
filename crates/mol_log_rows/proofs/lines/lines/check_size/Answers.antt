use Rattle.std.proofs.Common.{rules}
use Rattle.mol_log_rows.proofs.lines_lemmas.Sizes.{size_fault, entries_fault}
use Rattle.mol_log_rows.proofs.lines.lines.check_size.Goals as goal

pub returns-then-most-size-clause-err : goal.returns-then-most-size-clause-err
returns-then-most-size-clause-err c = size_fault c.args.bytes.now _ (search rules) (search rules)

pub returns-then-most-entries-clause-err : goal.returns-then-most-entries-clause-err
returns-then-most-entries-clause-err c = entries_fault c.args.bytes.now _ (search rules) (search rules) (search rules)
