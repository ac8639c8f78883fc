use Rattle.std.proofs.Common.{◌∙◌, false, sym, ap}
use Rattle.std.specs.List.{list_any}
use Rattle.std.specs.Option.{option_map_or}
use Rattle.mol_faults_values.proofs.missing_faults.present.is_present.Goals as goal
use Rattle.mol_table_rules.specs.Life.{lists}
use Rattle.mol_table_rules.specs.Program.{same_id}
use Rattle.mol_values_types.proofs.Ties.{any_tied}
use Rattle.mol_values_types.specs.declared.param.Param.{Param}

pub returns-in-Some : goal.returns-in-Some
returns-in-Some c =
    let id = c.args.param.now in
    c.is_listed.ensures
    ∙ any_tied (λ (param : Param). param.id) id c.params_of.result.now
    ∙ ap (list_any (λ (param : Param). same_id id param.id)) c.params_of.ensures
    ∙ ap (λ method. option_map_or (λ own. lists c.args.table.now own id) method false) (sym c.in-Some.is ∙ c.method_of.ensures)

pub returns-in-None : goal.returns-in-None
returns-in-None c =
    ap (λ method. option_map_or (λ own. lists c.args.table.now own c.args.param.now) method false) (sym c.in-None.is ∙ c.method_of.ensures)
