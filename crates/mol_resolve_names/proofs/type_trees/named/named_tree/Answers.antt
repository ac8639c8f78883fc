use Rattle.std.proofs.lemmas.Result.{IfOk-weaker}
use Rattle.jav_scope.specs.typenames.Readings.{reading_of}
use Rattle.mol_resolve_names.proofs.type_trees_lemmas.NamesTyped.{named_typed}
use Rattle.mol_resolve_names.proofs.type_trees.named.named_tree.Goals as goal

pub returns : goal.returns
returns c =
    IfOk-weaker c.tree_of.result _ _ (λ tree made source at.
    named_typed c.args.scope.now c.args.unit source c.args.numbers.now c.args.name.now
    (reading_of c.args.name.now c.type_reading-reading.result) tree c.requires.numbers made (c.type_reading-reading.ensures source at))
    c.tree_of.ensures
