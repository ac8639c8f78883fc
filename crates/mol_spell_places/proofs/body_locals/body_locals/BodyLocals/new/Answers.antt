use Rattle.mol_spell_places.proofs.body_locals_lemmas.Steps.{nothing-named}
use Rattle.mol_spell_places.proofs.body_locals.body_locals.BodyLocals.new.Goals as goal

pub invariant_of-result : goal.invariant_of-result
invariant_of-result c = rw (c.new.ensures.items, c.new-2.ensures.items, c.new-3.ensures) nothing-named
