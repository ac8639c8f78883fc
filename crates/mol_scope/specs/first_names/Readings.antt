-- What the first of several names reads as, by the answers of the code.
use Rattle.std.specs.Prelude.{◌≡◌}
use Rattle.jav_names.specs.DottedNames.{Names}
use Rattle.jav_names.specs.Leftmost.{Leftmost as Read, leftmost_variable, leftmost_class, leftmost_import, leftmost_outside}
use Rattle.jav_names.specs.Variables.{Place, Variable}
use Rattle.mol_base.specs.declared.ident.Id.{Id}
use Rattle.mol_scope.specs.declared.first_names.reading.FirstType.{FirstType}
use Rattle.mol_scope.specs.declared.first_names.reading.FirstType.TheVariants as types
use Rattle.mol_scope.specs.declared.first_names.reading.Leftmost.{Leftmost}
use Rattle.mol_scope.specs.declared.first_names.reading.Leftmost.TheVariants as answers
use Rattle.mol_resolve_rules.specs.ProgramReaders.{class_header}
use Rattle.mol_scope.specs.variables.Keys.{place_in, variable_key}
use Rattle.mol_scope.specs.declared.variables.place.VariablePlace.{VariablePlace}

-- a place in the source file of its class, with these imports
abbrev pub file_place : VariablePlace → Names → Place Id
file_place place imports = place_in (class_header place.members.now place.class imports) place

abbrev pub type_read : FirstType → Read Id Id
type_read (types.Class class names) = leftmost_class class names
type_read (types.Imported full) = leftmost_import full.now
type_read types.Outside = leftmost_outside

-- the answer says what is read: of a variable its key, and all of what is none
abbrev pub IsRead : Leftmost → Read Id Id → Type 0
IsRead (answers.Variable key) read = (variable : Variable Id Id) × (read ≡ leftmost_variable variable) × (variable_key variable ≡ key)
IsRead (answers.Type first) read = read ≡ type_read first
