use Rattle.mol_spell_rules.specs.SpelledStatements.{spelled_block}
use Rattle.mol_spell.proofs.units_lemmas.MadeOf.{begun}
use Rattle.mol_spell.proofs.units.trees.body_tree.Goals as goal

pub returns : goal.returns
returns g c =
    begun c.block.result (spelled_block (g.P.Places.writer c.args.places.now) c.args.body.now.block) _ _ _ c.new-locals.ensures
    c.block.ensures
