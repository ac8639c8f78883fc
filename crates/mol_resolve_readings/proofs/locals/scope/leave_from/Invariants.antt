use Rattle.std.proofs.Common.{◌≡◌, take, vec_len}
use Rattle.mol_resolve_readings.specs.locals.Scoped.{Stands}
use Rattle.mol_resolve_readings.proofs.locals.scope.leave_from.Given as goal

abbrev pub invariant-loop-in_scope : goal.invariant-loop-in_scope
invariant-loop-in_scope l = record {
  stands : Stands l.declared l.in_scope.items l.nearest.entries;
  front : take l.mark l.in_scope.items ≡ take l.mark l.initial.in_scope.items;
}

abbrev pub decreases-loop-in_scope : goal.decreases-loop-in_scope
decreases-loop-in_scope l = vec_len l.in_scope
