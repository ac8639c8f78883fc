use Rattle.std.proofs.Common.{◌≡◌, ◌≤◌, ◌+◌}
use Rattle.mol_base.specs.Lines.{line, column}
use Rattle.mol_base.proofs.lines.line_and_column.Given as goal

abbrev pub invariant-loop-place : goal.invariant-loop-place
invariant-loop-place l = record {
  line : l.line ≡ line l.bytes l.place;
  column : l.column ≡ column l.bytes l.place;
  line_room : l.line ≤ 1 + l.place;
  column_room : l.column ≤ 1 + l.place;
}
