use Rattle.jav_source.proofs.Inside.{fault_inside}
use Rattle.jav_source.proofs.source.line_and_column_of.Goals as goal

pub line_and_column-requires-clause-inside : goal.line_and_column-requires-clause-inside
line_and_column-requires-clause-inside c = rw c.at.ensures (fault_inside c.args.bytes.now c.args.fault.now c.requires.fault)
