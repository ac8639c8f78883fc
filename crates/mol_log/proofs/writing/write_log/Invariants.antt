use Rattle.std.proofs.Common.{◌≡◌, ◌++◌, take}
use Rattle.mol_log_rows.specs.lines.Headers.{header_data}
use Rattle.mol_log.proofs.WrittenLogs.{AreReadBack, text_of}
use Rattle.mol_log.specs.Form.{header_of}
use Rattle.mol_log.specs.Written.{line_text}
use Rattle.mol_log.proofs.writing.write_log.Given as goal

abbrev pub invariant-loop-entry : goal.invariant-loop-entry
invariant-loop-entry l =
    (l.text.items ≡ line_text (header_data (header_of l.log)) ++ text_of (take l.entry-index l.entry-items))
    × AreReadBack (take l.entry-index l.entry-items)
