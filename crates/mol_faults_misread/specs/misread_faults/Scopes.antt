-- What is in scope where the cells of an entity print.
use Rattle.std.specs.Prelude.{Bool, false, List, [], Option, Some}
use Rattle.std.specs.FinMap.{get}
use Rattle.jav_names.specs.LookUps.{is_constructor}
use Rattle.mol_resolve_rules.specs.ProgramViews.{kind_in}
use Rattle.mol_table_rules.specs.Program.{Program, params_at}
use Rattle.mol_values_types.specs.declared.known.Known.{Known}
use Rattle.mol_values_types.specs.declared.known.Known.TheVariants as knowns
use Rattle.mol_values_types.specs.declared.param.Param.{Param}

module _ (program : Program) where
  -- the parameters of the method of a declaration
  abbrev pub params_in : Option Known → List Param
  params_in (Some (knowns.Decl method)) = params_at program method
  params_in known = []

  -- a declaration of a constructor
  abbrev pub in_constructor : Option Known → Bool
  in_constructor (Some (knowns.Decl method)) = is_constructor (kind_in (get program.known method))
  in_constructor known = false
