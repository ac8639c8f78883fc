use Rattle.std.proofs.Common.{◌∙◌, ap}
use Rattle.mol_spell_places.proofs.body_locals.body_locals.BodyLocals.names.Goals as goal
use Rattle.mol_spell_places.specs.body_locals.Kept.{Kept, locals_of}
use Rattle.mol_resolve_rules.specs.Locals.{names_in_scope}

pub returns : goal.returns
returns c = c.self.invariant.are_names ∙ ap (λ (kept : Kept). names_in_scope (locals_of kept)) c.self.view_is
