use Rattle.std.proofs.Common.{◌-◌}
use Rattle.mol_resolve_faults.specs.beside.Kept.{faulty_of}
use Rattle.mol_resolve_members.specs.members.Rows.{kept_row}
use Rattle.mol_resolve_classes.proofs.related_lemmas.FaultsAbove.{IsSoFar}
use Rattle.mol_resolve_classes.proofs.related.related.Related.faulty_upwards.Given as goal

abbrev pub invariant-loop-step : goal.invariant-loop-step
invariant-loop-step l = IsSoFar l.self l.unit (kept_row l.row) l.steps (faulty_of l.faulty) (l.steps - l._step) l.at
