use Rattle.std.proofs.Common.{◌∙◌}
use Rattle.std.proofs.lemmas.Result.{IfOk-weaker}
use Rattle.mol_spell_body.proofs.HandedOver.{with_part}
use Rattle.mol_spell.proofs.units.unit_writer.UnitWriter.unit.Goals as goal
use Rattle.mol_spell.specs.units.Headings.{file_head}

pub returns : goal.returns
returns g c =
    let unit = c.args.self.now in
    let imports = c.imported-imports.ensures ∙ unit.is_file.are_imports in
    let head = c.in_ok-head.ensures ∙ (λ i. file_head (c.table.ensures i) unit.class (imports i)) in
    IfOk-weaker c.unit_of.result _ _ (λ tree made. with_part c.class_tree.result _ _ _ made c.class_tree.ensures (λ class is same. is
    ∙ (λ i. record {
      head = (head i).head;
      «package» = (head i).«package»;
      imports = (head i).imports;
      class = same i;
    }))) c.unit_of.ensures
