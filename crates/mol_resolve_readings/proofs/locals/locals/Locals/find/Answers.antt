use Rattle.std.proofs.Common.{◌∙◌, sym}
use Rattle.mol_resolve_readings.proofs.locals_lemmas.Steps.{nearest-inside, nearest-is}
use Rattle.mol_resolve_readings.proofs.locals.locals.Locals.find.Goals as goal

pub returns-clause-is : goal.returns-clause-is
returns-clause-is c =
    c.found_at.ensures
    ∙ nearest-is c.self.inside.declared.items c.self.inside.in_scope.items c.self.inside.nearest.entries c.args.name.now c.args.self.now
    c.self.invariant c.self.view_is

pub returns-clause-inside : goal.returns-clause-inside
returns-clause-inside c n found =
    nearest-inside c.self.inside.declared.items c.self.inside.in_scope.items c.self.inside.nearest.entries c.args.name.now c.args.self.now
    c.self.invariant c.self.view_is n (sym (c.found_at.ensures ∙ nearest-is c.self.inside.declared.items c.self.inside.in_scope.items
    c.self.inside.nearest.entries c.args.name.now c.args.self.now c.self.invariant c.self.view_is) ∙ found)
