use Rattle.mol_spell_places.proofs.scope_names_lemmas.ScopeKept.{left_front, left_known, left_stands}
use Rattle.mol_spell_places.proofs.scope_names.scope.leave.Goals as goal

pub put_back-requires : goal.put_back-requires
put_back-requires c =
    left_known c.args.in_scope.now.items c.pop.new.self.items c.in-Some.local c.args.nearest.now.entries c.requires c.in-Some.ensures.items

pub returns-in-Some-clause-stands : goal.returns-in-Some-clause-stands
returns-in-Some-clause-stands c =
    left_stands c.args.in_scope.now.items c.pop.new.self.items c.in-Some.local c.args.nearest.now.entries c.requires c.in-Some.ensures.items
    _ c.put_back.ensures

pub returns-in-Some-clause-scope : goal.returns-in-Some-clause-scope
returns-in-Some-clause-scope c =
    left_front c.args.in_scope.now.items c.pop.new.self.items c.in-Some.local c.args.nearest.now.entries c.requires c.in-Some.ensures.items
