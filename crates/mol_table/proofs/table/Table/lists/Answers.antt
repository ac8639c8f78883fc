use Rattle.std.proofs.Common.{◌∙◌, ap}
use Rattle.std.specs.List.{list_any}
use Rattle.mol_table_rules.specs.Life.{lists}
use Rattle.mol_table_rules.specs.Program.{same_id}
use Rattle.mol_values_types.specs.declared.param.Param.{Param}
use Rattle.mol_values_types.proofs.Ties.{any_tied}
use Rattle.mol_table.proofs.table.Table.lists.Goals as goal

pub returns : goal.returns
returns c =
    c.is_among.ensures ∙ any_tied (λ (param : Param). param.id) c.args.param.now c.params.result.now
    ∙ ap (λ params. list_any (λ (param : Param). same_id c.args.param.now param.id) params) c.params.ensures
    ∙ ap (λ p. lists p c.args.method.now c.args.param.now) c.self.view_is
