use Rattle.std.proofs.Common.{◌∙◌}
use Rattle.mol_scope_members.proofs.inherited_lemmas.NearestFound.{field-found}
use Rattle.mol_scope_members.proofs.inherited.members.field_of.Goals as goal

pub returns : goal.returns
returns c = c.climbed.ensures ∙ field-found c.args.members.now c.args.class.now c.args.name.now
