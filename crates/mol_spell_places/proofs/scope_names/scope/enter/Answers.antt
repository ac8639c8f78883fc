use Rattle.std.proofs.Common.{refl, rules}
use Rattle.mol_spell_places.proofs.scope_names_lemmas.ScopeKept.{unchanged, entered_names, entered_stands}
use Rattle.mol_spell_places.proofs.scope_names.scope.enter.Goals as goal

pub returns-in_err-reserve-clause-stands : goal.returns-in_err-reserve-clause-stands
returns-in_err-reserve-clause-stands c =
    unchanged c.args.in_scope.now.items _ c.args.nearest.now.entries _ c.requires (search rules) (λ name. refl)

pub returns-in_err-hidden-clause-stands : goal.returns-in_err-hidden-clause-stands
returns-in_err-hidden-clause-stands c =
    unchanged c.args.in_scope.now.items _ c.args.nearest.now.entries _ c.requires (search rules) c.in_err-hidden.ensures.err

pub returns-clause-stands : goal.returns-clause-stands
returns-clause-stands c =
    entered_stands c.args.in_scope.now.items _ c.args.nearest.now.entries _ c.args.name c.in_ok-hidden.hidden (search rules)
    _ c.requires (search rules) c.in_ok-hidden.ensures.before c.in_ok-hidden.ensures.ok

pub returns-clause-ok : goal.returns-clause-ok
returns-clause-ok c =
    entered_names c.args.in_scope.now.items _ c.args.nearest.now.entries c.args.nearest.now.entries c.args.name c.in_ok-hidden.hidden
    (search rules)
