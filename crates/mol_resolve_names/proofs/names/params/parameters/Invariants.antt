use Rattle.std.proofs.Common.{◌≡◌, Some, map, slice_get, take}
use Rattle.std.specs.List.{zip}
use Rattle.jav_scope.specs.declared.source.SourceUnit.{SourceUnit}
use Rattle.mol_resolve_names.specs.chains.InMembers.{view_param}
use Rattle.mol_resolve_members.specs.members.Rows.{type_at}
use Rattle.mol_resolve_names.proofs.names.params.parameters.Given as goal
use Rattle.mol_resolve_names.specs.names.Given.{given_param}

abbrev pub invariant-loop-place : goal.invariant-loop-place
invariant-loop-place l = (source : SourceUnit) → slice_get l.scope l.unit ≡ Some source
    → map view_param l.given.items ≡ take l.place (map (given_param (type_at l.scope l.unit source)) (zip l.ids l.params))
