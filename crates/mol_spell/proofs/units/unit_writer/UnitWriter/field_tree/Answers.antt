use Rattle.std.proofs.Common.{ap, ◌∙◌}
use Rattle.std.proofs.lemmas.Result.{IfOk-weaker}
use Rattle.mol_spell_body.proofs.HandedOver.{with_part}
use Rattle.mol_spell.proofs.units.unit_writer.UnitWriter.field_tree.Goals as goal
use Rattle.mol_table_rules.specs.Program.{Program, name_at}
use Rattle.mol_spell.specs.units.Headings.{member_head}

pub returns : goal.returns
returns g c =
    let head = c.in_ok-head.ensures ∙ ap (λ (program : Program). member_head program c.args.id.now) c.table-table.ensures in
    IfOk-weaker c.field_of.result _ _ (λ field made. with_part c.value_at.result _ _ _ made c.value_at.ensures (λ value is same. is
    ∙ (λ i. record {
      front = (head i).front;
      at = 0;
      words = (head i).words;
      ty = (same i).ty;
      name = (c.in_ok-name.ensures ∙ c.name_of.ensures
          ∙ ap (λ (program : Program). name_at program c.args.id.now) c.table-table.ensures) i;
      init = (same i).init;
    }))) c.field_of.ensures
