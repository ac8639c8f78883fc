use Rattle.mol_resolve_readings.proofs.locals_lemmas.ScopeKept.{nothing-stands}
use Rattle.mol_resolve_readings.proofs.locals.locals.Locals.new.Goals as goal

pub invariant_of-result : goal.invariant_of-result
invariant_of-result c = rw (c.new.ensures.items, c.new-2.ensures.items, c.new-3.ensures.empty) nothing-stands
