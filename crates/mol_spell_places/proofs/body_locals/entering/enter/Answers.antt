use Rattle.std.proofs.Common.{refl, rules}
use Rattle.mol_spell_places.proofs.body_locals_lemmas.Steps.{entered, unchanged}
use Rattle.mol_spell_places.proofs.body_locals.entering.enter.Goals as goal

pub returns-in_err-reserve-clause-stands : goal.returns-in_err-reserve-clause-stands
returns-in_err-reserve-clause-stands c =
    unchanged c.args.declared.now.items _ c.args.in_scope.now.items _ c.args.names.now _ c.requires (search rules) refl refl

pub returns-in_err-reserve-2-clause-stands : goal.returns-in_err-reserve-2-clause-stands
returns-in_err-reserve-2-clause-stands c =
    unchanged c.args.declared.now.items _ c.args.in_scope.now.items _ c.args.names.now _ c.requires (search rules) (search rules) refl

pub returns-in_err-enter-clause-stands : goal.returns-in_err-enter-clause-stands
returns-in_err-enter-clause-stands c =
    unchanged c.args.declared.now.items _ c.args.in_scope.now.items _ c.args.names.now _ c.requires (search rules) (search rules)
    c.in_err-enter.ensures.err

pub returns-clause-stands : goal.returns-clause-stands
returns-clause-stands c =
    entered c.args.declared.now.items c.args.in_scope.now.items c.args.local _ _ c.args.names.now _ c.len-number.result c.requires
    (search rules) (search rules) (search rules) (search rules)
