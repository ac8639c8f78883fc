use Rattle.std.proofs.Common.{◌∙◌, ap, subst}
use Rattle.mol_resolve_classes.specs.namesakes.Compared.{AreInOrder}
use Rattle.mol_resolve_classes.specs.namesakes.Groups.{group_in}
use Rattle.mol_resolve_classes.proofs.namesakes.namesakes.Namesakes.group.Goals as goal

pub returns-clause-found : goal.returns-clause-found
returns-clause-found c = c.get.ensures.value ∙ c.self.invariant.found c.args.declaration.now
    ∙ ap (group_in c.args.declaration.now) c.self.view_is

pub returns-clause-ordered : goal.returns-clause-ordered
returns-clause-ordered c = subst AreInOrder c.self.view_is c.self.invariant.ordered
