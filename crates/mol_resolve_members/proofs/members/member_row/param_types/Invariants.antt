use Rattle.std.proofs.Common.{◌≡◌, Some, map, take, slice_get}
use Rattle.jav_names.specs.seen.Kept.{view_type}
use Rattle.jav_scope.specs.declared.source.SourceUnit.{SourceUnit}
use Rattle.mol_resolve_members.specs.members.Rows.{type_at, types_of_params}
use Rattle.mol_resolve_members.proofs.members.member_row.param_types.Given as goal

abbrev pub invariant-loop-param : goal.invariant-loop-param
invariant-loop-param l = (source : SourceUnit) → slice_get l.scope l.unit ≡ Some source
    → map view_type l.types.items ≡ types_of_params (type_at l.scope l.unit source) (take l.param-index l.params)
