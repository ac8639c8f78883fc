-- Variables and their places as the code has them.
use Rattle.std.specs.Prelude.{ℕ, Option, Some, None}
use Rattle.jav_scope.specs.declared.found.Found.{Found}
use Rattle.jav_scope.specs.declared.found.Found.TheVariants as answer
use Rattle.jav_names.specs.Types.{Header}
use Rattle.jav_names.specs.Variables.{Place, Variable as Read, local_variable, parameter_variable, field_variable}
use Rattle.mol_base.specs.declared.ident.Id.{Id}
use Rattle.mol_scope.specs.declared.variables.place.VariablePlace.{VariablePlace}
use Rattle.mol_scope.specs.declared.variables.variable.Variable.{Variable}
use Rattle.mol_scope.specs.declared.variables.variable.Variable.TheVariants as variable

-- a place as the rules on names look at it, in a file with this header
abbrev pub place_in : Header Id → VariablePlace → Place Id
place_in header place = record {
  header = header;
  class = place.class;
  locals = place.locals.now;
  params = place.params.now;
}

-- of a field its identity
abbrev pub variable_key : Read Id Id → Variable
variable_key (local_variable place) = variable.Local place
variable_key (parameter_variable place) = variable.Param place
variable_key (field_variable field) = variable.Field field.key

-- the variable that an answer has found, if it has found one
abbrev pub found_in : Found Variable → Option Variable
found_in (answer.Found read) = Some read
found_in answer.Outside = None
found_in answer.NotFound = None

-- the local at this place, else the parameter at the other, where they are found
abbrev pub in_scope : Option ℕ → Option ℕ → Option Variable
in_scope (Some place) parameter = Some (variable.Local place)
in_scope None (Some place) = Some (variable.Param place)
in_scope None None = None
