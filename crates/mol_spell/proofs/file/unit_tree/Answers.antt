use Rattle.std.proofs.Common.{◌∙◌, refl, sym, ap}
use Rattle.mol_spell_names.proofs.program_index_lemmas.UsesKept.{found-lives}
use Rattle.mol_spell_rules.specs.SimpleNames.{uses_in}
use Rattle.mol_spell.proofs.FilesSpelt.{tree-as}
use Rattle.mol_spell.proofs.file.unit_tree.Goals as goal
use Rattle.mol_table_rules.specs.Program.{Program}

pub tree_by_uses-requires-clause-table : goal.tree_by_uses-requires-clause-table
tree_by_uses-requires-clause-table c = c.members-members.ensures ∙ sym c.names-index.ensures

pub tree_by_uses-requires-clause-uses : goal.tree_by_uses-requires-clause-uses
tree_by_uses-requires-clause-uses c =
    (found-lives c.args.program.now c.args.class.now _ c.in-Some.ensures).1
    ∙ ap (λ (program : Program). uses_in program c.args.class.now) (sym c.names-index.ensures)

pub tree_gathering-requires : goal.tree_gathering-requires
tree_gathering-requires c = c.members-members.ensures ∙ sym c.names-index.ensures

pub returns-in-Some : goal.returns-in-Some
returns-in-Some c =
    let class = c.args.class.now in
    tree-as c.tree_by_uses.result c.names-index.result.now c.args.program.now class class c.names-index.ensures refl c.tree_by_uses.ensures

pub returns-in-None : goal.returns-in-None
returns-in-None c =
    let class = c.args.class.now in
    tree-as c.tree_gathering.result c.names-index.result.now c.args.program.now class class c.names-index.ensures refl c.tree_gathering.ensures
