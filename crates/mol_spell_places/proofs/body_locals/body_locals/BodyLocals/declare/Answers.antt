use Rattle.std.proofs.Common.{◌∙◌, ap}
use Rattle.std.proofs.lemmas.Result.{on_ok_weaker, on_err_weaker}
use Rattle.mol_spell_places.proofs.body_locals_lemmas.Steps.{declared-so, same-kept}
use Rattle.mol_spell_places.proofs.body_locals.body_locals.BodyLocals.declare.Goals as goal
use Rattle.mol_spell_places.specs.body_locals.Kept.{Kept, locals_of}
use Rattle.mol_resolve_rules.specs.Locals.{declare}
use Rattle.mol_resolve_rules.specs.ProgramViews.{seen}

pub enter-requires : goal.enter-requires
enter-requires c = c.self.invariant

pub invariant_of-self : goal.invariant_of-self
invariant_of-self c = c.enter.ensures.stands

pub returns-clause-ok : goal.returns-clause-ok
returns-clause-ok c =
    on_ok_weaker c.enter.result (λ both.
    declared-so c.self.inside.declared.items c.self.inside.in_scope.items (record { name = c.args.name; ty = c.args.ty })
    c.enter.new.declared.items c.enter.new.in_scope.items both
    ∙ ap (λ (kept : Kept). declare (record { name = c.args.name.now; type = seen c.args.ty.now }) (locals_of kept)) c.self.view_is)
    c.enter.ensures.ok

pub returns-clause-err : goal.returns-clause-err
returns-clause-err c =
    on_err_weaker c.enter.result (λ both.
    same-kept c.self.inside.declared.items c.enter.new.declared.items c.self.inside.in_scope.items c.enter.new.in_scope.items both
    ∙ c.self.view_is) c.enter.ensures.err
