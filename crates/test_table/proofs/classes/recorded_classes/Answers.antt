use Rattle.std.proofs.Common.{sym, subst, List}
use Rattle.mol_table_rules.specs.Program.{Program, nothing}
use Rattle.mol_table_rules.specs.Writes.{AreNew}
use Rattle.mol_table_rules.specs.declared.entity.NewEntity.{NewEntity}
use Rattle.test_table.proofs.NumberedClasses.{classes-added}
use Rattle.test_table.proofs.classes.recorded_classes.Goals as goal

pub add-requires : goal.add-requires
add-requires c =
    subst (λ (program : Program). AreNew program c.in_ok-classes.field-0) (sym c.new-table.ensures)
    (subst (λ (list : List NewEntity). AreNew nothing list) (sym c.in_ok-classes.ensures) classes-added)
