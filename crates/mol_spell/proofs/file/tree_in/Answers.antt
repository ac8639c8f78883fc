use Rattle.mol_spell.proofs.FilesSpelt.{tree-as}
use Rattle.mol_spell.proofs.file.tree_in.Goals as goal

pub returns : goal.returns
returns g c =
    let writer = c.new-writer in
    tree-as c.unit.result writer.result.index.now c.args.index.now writer.result.class c.args.class.now writer.ensures.table
    writer.ensures.class c.unit.ensures
