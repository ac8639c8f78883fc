-- What names are found as, by the answers of look-ups.
use Rattle.std.specs.Prelude.{Bool, false, [], Option, None, Some}
use Rattle.jav_scope.specs.declared.found.Found.{Found}
use Rattle.jav_scope.specs.declared.found.Found.TheVariants as answer
use Rattle.jav_names.specs.DottedNames.{Name}
use Rattle.mol_base.specs.declared.ident.Id.{Id}
use Rattle.mol_resolve_rules.specs.ProgramViews.{method_at}
use Rattle.mol_table_rules.specs.Program.{Program, same_id}
use Rattle.mol_scope.specs.declared.variables.variable.Variable.{Variable}
use Rattle.mol_scope.specs.declared.variables.variable.Variable.TheVariants as variable

-- the name of a method; empty, where it has none
abbrev pub name_or_empty : Option Name → Name
name_or_empty (Some name) = name
name_or_empty None = []

-- a variable that is this field
abbrev pub is_read : Id → Variable → Bool
is_read field (variable.Local place) = false
is_read field (variable.Param place) = false
is_read field (variable.Field read) = same_id field read

abbrev pub is_field_found : Id → Option Variable → Bool
is_field_found field (Some read) = is_read field read
is_field_found field None = false

-- a declaration of this method
abbrev pub is_method_found : Program → Id → Found Id → Bool
is_method_found program method (answer.Found declared) = same_id method (method_at program declared)
is_method_found program method answer.Outside = false
is_method_found program method answer.NotFound = false
