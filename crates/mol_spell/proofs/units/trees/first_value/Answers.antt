use Rattle.std.proofs.Common.{subst, ◌≡◌, option_map}
use Rattle.std.specs.Prelude.{IfOk}
use Rattle.mol_spell_rules.specs.SpelledExpressions.{spelled_expr}
use Rattle.mol_spell.proofs.units.trees.first_value.Goals as goal

pub returns : goal.returns
returns g c =
    let writer = g.P.Places.writer c.args.places.now in
    subst (λ locals. IfOk c.maybe_expr.result (λ tree. tree ≡ option_map (λ e. (spelled_expr writer locals e).tree) c.args.init.now))
    c.new-locals.ensures c.maybe_expr.ensures
