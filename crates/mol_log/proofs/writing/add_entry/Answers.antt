use Rattle.std.proofs.Common.{ap, ◌∙◌, arith}
use Rattle.serde_json.specs.Data.{depth}
use Rattle.serde_json.specs.View.{view}
use Rattle.serde_json.specs.Written.{has_float}
use Rattle.mol_log.specs.entries.RowsOf.{row_of}
use Rattle.mol_log.proofs.EntriesWritten.{read_of}
use Rattle.mol_log.proofs.RowTexts.{row-line}
use Rattle.mol_log.specs.Written.{entry_data}
use Rattle.mol_log.proofs.writing.add_entry.Goals as goal

pub add_line-requires-clause-whole : goal.add_line-requires-clause-whole
add_line-requires-clause-whole c =
    ap has_float c.in_ok-value.ensures ∙ (row-line c.args.entry.now.stamp (row_of c.args.entry.now.op)).whole

pub add_line-requires-clause-deep : goal.add_line-requires-clause-deep
add_line-requires-clause-deep c =
    omega (arith, ap depth c.in_ok-value.ensures, (row-line c.args.entry.now.stamp (row_of c.args.entry.now.op)).deep)

pub returns-clause-read : goal.returns-clause-read
returns-clause-read c =
    read_of c.add_line.result (view c.in_ok-value.value) (entry_data c.args.entry.now) c.in_ok-value.ensures c.add_line.ensures.read
