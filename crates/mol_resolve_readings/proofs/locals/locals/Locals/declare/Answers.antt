use Rattle.std.proofs.Common.{◌∙◌, ap}
use Rattle.std.proofs.lemmas.Result.{on_ok_weaker, on_err_weaker}
use Rattle.jav_names.specs.seen.Kept.{view_type}
use Rattle.jav_names.specs.DottedNames.{Name}
use Rattle.mol_resolve_rules.specs.Locals.{declare}
use Rattle.mol_resolve_readings.specs.locals.Scoped.{Scoped, locals_of, numbers}
use Rattle.mol_resolve_readings.proofs.locals_lemmas.Steps.{declares, same_scope}
use Rattle.mol_resolve_readings.proofs.locals.locals.Locals.declare.Goals as goal

pub enter-requires : goal.enter-requires
enter-requires c = c.self.invariant

pub invariant_of-self : goal.invariant_of-self
invariant_of-self c = c.enter.ensures.stands

pub returns-clause-ok : goal.returns-clause-ok
returns-clause-ok c =
    on_ok_weaker _ (λ both.
    declares c.self.inside.declared.items c.enter.new.declared.items c.self.inside.in_scope.items c.enter.new.in_scope.items
    (record { name = c.in_ok-copy.field-0; ty = c.args.ty }) both
    ∙ ap (λ (name : Name). declare (record { name = name; type = view_type c.args.ty })
    (locals_of (record { declared = c.self.inside.declared.items; in_scope = numbers c.self.inside.in_scope.items }))) c.in_ok-copy.ensures
    ∙ ap (λ (scoped : Scoped). declare (record { name = c.args.name.now; type = view_type c.args.ty }) (locals_of scoped)) c.self.view_is)
    c.enter.ensures.ok

pub returns-clause-err : goal.returns-clause-err
returns-clause-err c =
    on_err_weaker _ (λ both.
    same_scope c.self.inside.declared.items c.enter.new.declared.items c.self.inside.in_scope.items c.enter.new.in_scope.items both
    ∙ c.self.view_is) c.enter.ensures.err
