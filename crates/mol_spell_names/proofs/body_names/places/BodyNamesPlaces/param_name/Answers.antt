use Rattle.std.proofs.Common.{◌∙◌, ap}
use Rattle.std.specs.Option.{option_map_or}
use Rattle.std.specs.Prelude.{Option}
use Rattle.jav_names.specs.DottedNames.{Name}
use Rattle.mol_spell_names.proofs.body_names.places.BodyNamesPlaces.param_name.Goals as goal
use Rattle.mol_resolve_rules.specs.StaticTypes.{present_param}
use Rattle.mol_spell_rules.specs.SpelledExpressions.{no_name}
use Rattle.mol_table_rules.specs.Program.{Program}
use Rattle.mol_values_types.specs.declared.param.Param.{Param}

abbrev name_in : Option Param → Name
name_in found = option_map_or (λ (param : Param). param.name) found no_name

pub returns-in-Some : goal.returns-in-Some
returns-in-Some g c =
    c.as_str.ensures
    ∙ ap name_in (c.in-Some.ensures ∙ ap (λ (program : Program). present_param program c.args.id.now) c.table.ensures)

pub returns-in-None : goal.returns-in-None
returns-in-None g c =
    ap name_in (c.in-None.ensures ∙ ap (λ (program : Program). present_param program c.args.id.now) c.table.ensures)
