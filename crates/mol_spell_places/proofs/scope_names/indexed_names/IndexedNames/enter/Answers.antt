use Rattle.std.proofs.lemmas.Result.{on_ok_weaker, on_err_weaker}
use Rattle.mol_spell_places.proofs.scope_names_lemmas.ScopeKept.{seen_entered, seen_same}
use Rattle.mol_spell_places.proofs.scope_names.indexed_names.IndexedNames.enter.Goals as goal

pub enter-requires : goal.enter-requires
enter-requires c = c.self.invariant

pub invariant_of-self : goal.invariant_of-self
invariant_of-self c = c.enter.ensures.stands

pub returns-clause-ok : goal.returns-clause-ok
returns-clause-ok c =
    on_ok_weaker c.enter.result
    (seen_entered c.self.inside.in_scope.items c.enter.new.in_scope.items c.args.self.now c.self.view_is c.args.name.now)
    c.enter.ensures.ok

pub returns-clause-err : goal.returns-clause-err
returns-clause-err c =
    on_err_weaker c.enter.result
    (seen_same c.self.inside.in_scope.items c.enter.new.in_scope.items c.args.self.now c.self.view_is) c.enter.ensures.err
