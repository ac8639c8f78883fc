use Rattle.std.proofs.Common.{◌∙◌, map, ap}
use Rattle.std.proofs.lemmas.Result.{IfOk-weaker}
use Rattle.std.specs.FinMap.{get}
use Rattle.mol_spell_names.proofs.body_names.body_names.names_of_params.Goals as goal
use Rattle.mol_spell_names.specs.body_names.FilePlaces.{declared_in, param_names_in}
use Rattle.mol_table_rules.specs.Program.{Program, params_at}
use Rattle.mol_values_types.specs.declared.param.Param.{Param}

pub returns-in-Some : goal.returns-in-Some
returns-in-Some c =
    let id = c.args.id.now in
    let declared = c.in-Some.ensures ∙ ap (λ (program : Program). declared_in (get program.known id)) c.table-table.ensures in
    IfOk-weaker c.new.result _ _ (λ names are. are
    ∙ ap (map (λ (param : Param). param.name)) (c.params_of.ensures
    ∙ ap (λ (program : Program). params_at program c.in-Some.method) c.table-table.ensures)
    ∙ ap (param_names_in c.args.members.now) declared) c.new.ensures

pub returns-in-None : goal.returns-in-None
returns-in-None c =
    let id = c.args.id.now in
    let declared = c.in-None.ensures ∙ ap (λ (program : Program). declared_in (get program.known id)) c.table-table.ensures in
    IfOk-weaker c.new-in-None.result _ _ (λ names are. are ∙ ap (param_names_in c.args.members.now) declared) c.new-in-None.ensures
