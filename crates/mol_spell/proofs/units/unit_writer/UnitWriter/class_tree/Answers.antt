use Rattle.std.proofs.Common.{ap, ◌∙◌}
use Rattle.std.proofs.lemmas.Result.{IfOk-weaker}
use Rattle.mol_spell_body.proofs.HandedOver.{with_part}
use Rattle.mol_spell.proofs.units.unit_writer.UnitWriter.class_tree.Goals as goal
use Rattle.mol_table_rules.specs.Program.{Program}
use Rattle.mol_spell.specs.units.Headings.{class_head}

pub returns : goal.returns
returns g c =
    let head = c.in_ok-head.ensures ∙ ap (λ (program : Program). class_head program c.args.self.now.class) c.table.ensures in
    IfOk-weaker c.class_of.result _ _ (λ class made. with_part c.members.result _ _ _ made c.members.ensures (λ members is same. is
    ∙ (λ i. record {
      front = (head i).front;
      words = (head i).words;
      name = (head i).name;
      parent = c.in_ok-parent.ensures i;
      members = same i;
      tail = (head i).tail;
    }))) c.class_of.ensures
