use Rattle.std.proofs.Common.{refl, rules}
use Rattle.mol_resolve_readings.proofs.locals_lemmas.Steps.{unchanged, entered, entered_numbers}
use Rattle.mol_resolve_readings.proofs.locals.scope.enter.Goals as goal

pub returns-in_err-reserve-clause-stands : goal.returns-in_err-reserve-clause-stands
returns-in_err-reserve-clause-stands c =
    unchanged c.args.declared.now.items _ c.args.in_scope.now.items _ c.args.nearest.now.entries _ c.requires (search rules) refl
    (λ name. refl)

pub returns-in_err-reserve-2-clause-stands : goal.returns-in_err-reserve-2-clause-stands
returns-in_err-reserve-2-clause-stands c =
    unchanged c.args.declared.now.items _ c.args.in_scope.now.items _ c.args.nearest.now.entries _ c.requires (search rules) (search rules)
    (λ name. refl)

pub returns-in_err-hidden-clause-stands : goal.returns-in_err-hidden-clause-stands
returns-in_err-hidden-clause-stands c =
    unchanged c.args.declared.now.items _ c.args.in_scope.now.items _ c.args.nearest.now.entries _ c.requires (search rules) (search rules)
    c.in_err-hidden.ensures.err

pub returns-clause-stands : goal.returns-clause-stands
returns-clause-stands c =
    entered c.args.declared.now.items _ c.args.in_scope.now.items _ c.args.nearest.now.entries _ c.args.local c.in_ok-number.number
    c.in_ok-hidden.hidden c.in_ok-name.name c.requires (search rules) (search rules) (search rules) (search rules) (search rules)
    c.in_ok-hidden.ensures.ok

pub returns-clause-ok : goal.returns-clause-ok
returns-clause-ok c = (
  search rules,
  entered_numbers c.args.declared.now.items c.args.in_scope.now.items _ c.in_ok-number.number c.in_ok-hidden.hidden
      (search rules) (search rules),
)
