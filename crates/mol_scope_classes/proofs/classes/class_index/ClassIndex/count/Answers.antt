use Rattle.std.proofs.Common.{◌∙◌, ap, length}
use Rattle.mol_resolve_rules.specs.ProgramViews.{program_view}
use Rattle.mol_table_rules.specs.Program.{Program}
use Rattle.mol_scope_classes.proofs.classes.class_index.ClassIndex.count.Goals as goal

pub returns-clause-count : goal.returns-clause-count
returns-clause-count c =
    c.self.invariant.counted ∙ ap (λ (program : Program). length (program_view program).classes.items) c.self.view_is

pub returns-clause-few : goal.returns-clause-few
returns-clause-few c = c.self.invariant.few
