use Rattle.std.proofs.Common.{◌∙◌, sym}
use Rattle.mol_resolve_classes.proofs.namesakes_lemmas.Grouped.{hides, hides_none}
use Rattle.mol_resolve_classes.proofs.namesakes.namesakes.Namesakes.hides_static.Goals as goal

pub returns-in-Some : goal.returns-in-Some
returns-in-Some c =
    c.has_static_beside.ensures ∙ sym (hides c.args.declaration.now c.args.self.now c.in-Some.group.now (sym c.in-Some.ensures.found))

pub returns-in-None : goal.returns-in-None
returns-in-None c = sym (hides_none c.args.declaration.now c.args.self.now (sym c.in-None.ensures.found))
