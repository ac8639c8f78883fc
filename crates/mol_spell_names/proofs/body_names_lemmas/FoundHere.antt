-- What names read as, by the answers of look-ups.
use Rattle.std.proofs.Common.{◌≡◌, Bool, ℕ, Option, None, Some, is_some, refl, sym, ap}
use Rattle.jav_scope.specs.Answers.{answered}
use Rattle.jav_names.specs.DottedNames.{Names}
use Rattle.jav_names.specs.LookUps.{method_from}
use Rattle.jav_names.specs.Variables.{Variable as Read, local_variable, parameter_variable, field_variable}
use Rattle.jav_names.specs.Views.{ViewDeclaration, Found, found, outside, not_found}
use Rattle.mol_base.specs.declared.ident.Id.{Id}
use Rattle.mol_spell_names.specs.body_names.FilePlaces.{writer_of}
use Rattle.mol_spell_names.specs.body_names.FoundAs.{is_field_found, is_method_found}
use Rattle.mol_resolve_rules.specs.Locals.{no_locals}
use Rattle.mol_resolve_rules.specs.ProgramViews.{method_at, program_view}
use Rattle.mol_resolve_rules.specs.Readers.{Reader}
use Rattle.mol_spell_rules.specs.SpelledExpressions.{is_declaration_of, is_field, reads_method}
use Rattle.mol_spell_rules.specs.Writers.{Importable, is_variable}
use Rattle.mol_table_rules.specs.Program.{Program, name_at, same_id}
use Rattle.mol_scope.specs.variables.Keys.{found_in, variable_key}

pub variable-found : (read : Found (Read Id Id)) → is_some (found_in (answered variable_key read)) ≡ is_variable read
variable-found (found x) = refl
variable-found outside = refl
variable-found not_found = refl

pub field-found : (field : Id) (read : Found (Read Id Id))
    → is_field_found field (found_in (answered variable_key read)) ≡ is_field field read
field-found field (found (local_variable place)) = refl
field-found field (found (parameter_variable place)) = refl
field-found field (found (field_variable read)) = refl
field-found field outside = refl
field-found field not_found = refl

module _ (program : Program) where
  abbrev pub key_of : ViewDeclaration Id Id → Id
  key_of declared = declared.key

  method-found : (reader : Reader Id Id) (method : Id) (read : Found (ViewDeclaration Id Id))
      → ((d : ViewDeclaration Id Id) → reader.ids.method_id d ≡ method_at program d.key)
      → is_method_found program method (answered key_of read) ≡ is_declaration_of reader method read
  method-found reader method (found d) is = sym (ap (same_id method) (is d))
  method-found reader method outside is = refl
  method-found reader method not_found is = refl

  -- whatever the imports, and in whatever declaration
  pub method-read : (imports : Names) (is_simple : Importable → Bool) (class : Id) (declared : Option Id) (method : Id) (arity : ℕ)
      → is_method_found program method (answered key_of (method_from (program_view program) class (name_at program method) arity))
      ≡ reads_method (writer_of program imports is_simple class declared) no_locals method arity
  method-read imports is_simple class None method arity =
      method-found (writer_of program imports is_simple class None).reader method
      (method_from (program_view program) class (name_at program method) arity) (λ d. refl)
  method-read imports is_simple class (Some declared) method arity =
      method-found (writer_of program imports is_simple class (Some declared)).reader method
      (method_from (program_view program) class (name_at program method) arity) (λ d. refl)
