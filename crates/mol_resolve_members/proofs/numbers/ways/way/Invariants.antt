use Rattle.std.proofs.Common.{◌-◌}
use Rattle.mol_resolve_members.proofs.numbers_lemmas.Walks.{Walks}
use Rattle.mol_resolve_members.proofs.numbers.ways.way.Given as goal

abbrev pub invariant-loop-step : goal.invariant-loop-step
invariant-loop-step l = Walks l.scope l.class l.walk l.fn.met.items (l.steps - l._step) l.way.items l.met.items l.at
