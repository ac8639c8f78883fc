use Rattle.std.proofs.Common.{◌≡◌, ◌-◌}
use Rattle.std.specs.List.{list_any}
use Rattle.std.specs.Ordering.{is_eq, nat_cmp}
use Rattle.jav_scope.specs.Entries.{view_in}
use Rattle.jav_scope.specs.ancestors.Steps.{steps_up}
use Rattle.jav_scope.proofs.ancestors.ancestors.is_ancestor.Given as goal

abbrev pub invariant-loop-step : goal.invariant-loop-step
invariant-loop-step l = list_any (λ n. is_eq (nat_cmp n l.above)) (steps_up l.count (view_in l.scope) l.class l.class)
    ≡ list_any (λ n. is_eq (nat_cmp n l.above)) (steps_up (l.count - l._step) (view_in l.scope) l.class l.at)
