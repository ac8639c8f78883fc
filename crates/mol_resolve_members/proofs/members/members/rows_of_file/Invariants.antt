use Rattle.std.proofs.Common.{◌≡◌, Some, map, take, slice_get}
use Rattle.jav_names.specs.UnitViews.{numbered}
use Rattle.jav_scope.specs.declared.source.SourceUnit.{SourceUnit}
use Rattle.mol_resolve_rules.specs.MemberFaults.{row_of}
use Rattle.mol_resolve_members.specs.members.Rows.{kept_row, type_at}
use Rattle.mol_resolve_members.proofs.members.members.rows_of_file.Given as goal

abbrev pub invariant-loop-place : goal.invariant-loop-place
invariant-loop-place l = (source : SourceUnit) → slice_get l.scope l.unit ≡ Some source
    → map kept_row l.rows.items ≡ map (row_of (type_at l.scope l.unit source) l.unit) (numbered (take l.place l.members))
