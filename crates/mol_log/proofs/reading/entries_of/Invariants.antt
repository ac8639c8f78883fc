use Rattle.std.proofs.Common.{length}
use Rattle.mol_log_rows.specs.lines.Lines.{lines_left}
use Rattle.mol_log.proofs.EntriesRead.{HasRead}
use Rattle.mol_log.proofs.reading.entries_of.Given as goal

abbrev pub invariant-lines : goal.invariant-lines
invariant-lines l = HasRead l.start.header.tags (lines_left l.start.rest) l.rows l.entries

abbrev pub decreases-lines : goal.decreases-lines
decreases-lines l = length (lines_left l.rows.rest)
