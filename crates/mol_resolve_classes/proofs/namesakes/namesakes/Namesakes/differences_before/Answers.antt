use Rattle.std.proofs.Common.{◌∙◌, sym}
use Rattle.mol_resolve_classes.proofs.namesakes_lemmas.Grouped.{tells_before, tells_none_before}
use Rattle.mol_resolve_classes.proofs.namesakes.namesakes.Namesakes.differences_before.Goals as goal

pub returns-in-Some : goal.returns-in-Some
returns-in-Some c =
    c.differences_before.ensures
    ∙ sym (tells_before c.args.declaration.now c.args.self.now c.in-Some.group.now (sym c.in-Some.ensures.found)
    c.in-Some.ensures.ordered)

pub returns-in-None : goal.returns-in-None
returns-in-None c =
    c.alike.ensures
    ∙ sym (tells_none_before c.args.declaration.now c.args.self.now (sym c.in-None.ensures.found)
    c.in-None.ensures.ordered)
