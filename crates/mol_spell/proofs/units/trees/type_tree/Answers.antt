use Rattle.std.proofs.Common.{subst, ◌≡◌}
use Rattle.std.specs.Prelude.{IfOk}
use Rattle.mol_spell_rules.specs.SpelledStatements.{declared_type}
use Rattle.mol_spell.proofs.units.trees.type_tree.Goals as goal

pub returns : goal.returns
returns g c =
    let writer = g.P.Places.writer c.args.places.now in
    subst (λ locals. IfOk c.type_name.result (λ tree. tree ≡ (declared_type writer locals c.args.ty.now).tree)) c.new-locals.ensures
    c.type_name.ensures
