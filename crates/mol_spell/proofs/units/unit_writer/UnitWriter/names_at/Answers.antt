use Rattle.std.proofs.Common.{◌∙◌}
use Rattle.std.proofs.lemmas.Result.{IfOk-weaker}
use Rattle.mol_spell_rules.specs.UnitCells.{cell_writer}
use Rattle.mol_table_rules.specs.Program.{cell}
use Rattle.mol_spell.proofs.units.unit_writer.UnitWriter.names_at.Goals as goal

pub returns : goal.returns
returns g c =
    let unit = c.args.self.now in
    IfOk-weaker c.new.result _ _ (λ names is slot. is slot
    ∙ (λ i. cell_writer unit.index.now (unit.is_file.are_imports i) (unit.is_file.are_simple i) unit.class (cell c.args.id.now slot)))
    c.new.ensures
