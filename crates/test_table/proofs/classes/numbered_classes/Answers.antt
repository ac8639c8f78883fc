use Rattle.std.proofs.Common.{sym, subst}
use Rattle.mol_table_rules.specs.Renumber.{MayRenumber}
use Rattle.test_table.proofs.NumberedClasses.{classes-may}
use Rattle.test_table.proofs.classes.numbered_classes.Goals as goal

pub renumber-requires : goal.renumber-requires
renumber-requires c = subst MayRenumber (sym c.in_ok-recorded_classes.ensures) classes-may
