use Rattle.mol_resolve_readings.proofs.locals_lemmas.Steps.{left, left_inside, left_known}
use Rattle.mol_resolve_readings.proofs.locals.scope.leave.Goals as goal

pub bounds-declared-local : goal.bounds-declared-local
bounds-declared-local c =
    left_inside c.args.declared.now c.args.in_scope.now.items c.pop.new.self.items c.in-Some.local c.args.nearest.now.entries c.requires
    c.in-Some.ensures.items

pub put_back-requires : goal.put_back-requires
put_back-requires c =
    left_known c.args.declared.now c.args.in_scope.now.items c.pop.new.self.items c.in-Some.local c.args.nearest.now.entries c.requires
    c.in-Some.ensures.items c.index-declared-local.result c.index-declared-local.is

pub returns-in-Some-clause-stands : goal.returns-in-Some-clause-stands
returns-in-Some-clause-stands c =
    left c.args.declared.now c.args.in_scope.now.items c.pop.new.self.items c.in-Some.local c.args.nearest.now.entries c.requires
    c.in-Some.ensures.items c.index-declared-local.result c.index-declared-local.is _ c.put_back.ensures
