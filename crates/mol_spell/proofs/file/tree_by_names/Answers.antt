use Rattle.std.proofs.Common.{◌∙◌}
use Rattle.mol_spell.proofs.FilesSpelt.{file-named}
use Rattle.mol_spell.proofs.file.tree_by_names.Goals as goal

pub tree_in-requires-clause-file : goal.tree_in-requires-clause-file
tree_in-requires-clause-file c =
    file-named c.args.index.now c.args.class.now c.args.names.now c.items.result.now c.requires.names
    (c.items.ensures ∙ c.in_ok-imports.ensures)
