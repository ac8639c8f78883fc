use Rattle.mol_spell_places.proofs.body_locals_lemmas.Steps.{fewer}
use Rattle.mol_spell_places.proofs.body_locals.body_locals.BodyLocals.end_block.Goals as goal

pub invariant_of-self : goal.invariant_of-self
invariant_of-self c =
    fewer c.self.inside.declared.items c.self.inside.in_scope.items _ c.self.inside.names _ c.args.mark c.self.invariant
    c.truncate.ensures.items c.end_block.ensures
