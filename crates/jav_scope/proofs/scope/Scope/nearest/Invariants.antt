use Rattle.std.proofs.Common.{◌≡◌, ◌-◌, suc, length}
use Rattle.jav_scope.specs.Climbs.{climb}
use Rattle.jav_scope.specs.Entries.{view_in}
use Rattle.jav_scope.specs.MemberLists.{found_in}
use Rattle.jav_scope.proofs.scope.Scope.nearest.Given as goal

abbrev pub invariant-loop-step : goal.invariant-loop-step
invariant-loop-step l = climb (suc (length l.self)) (view_in l.self) (found_in l.members l.arity l.name) l.fn.class
    ≡ climb (l.steps - l._step) (view_in l.self) (found_in l.members l.arity l.name) l.at
