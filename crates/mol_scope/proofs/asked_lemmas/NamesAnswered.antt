-- What names stand for, by what is found of them.
use Rattle.std.proofs.Common.{◌≡◌, ℕ, ◌∷◌, ◌++◌, map, Option, Some, None, option_map, slice_get, refl, sym, ◌∙◌, ap}
use Rattle.std.specs.Borrow.{Bor}
use Rattle.std.proofs.lemmas.Option.{slice_get-map}
use Rattle.jav_scope.specs.Answers.{answered}
use Rattle.jav_scope.specs.declared.found.Found.TheVariants as answer
use Rattle.jav_names.proofs.CutNames.{names_cut}
use Rattle.jav_names.specs.DottedNames.{Name, Names, joined}
use Rattle.jav_names.specs.Leftmost.{Leftmost as Read, leftmost_variable}
use Rattle.jav_names.specs.LookUps.{leftmost, variable}
use Rattle.jav_names.specs.Variables.{Variable as VariableRead, local_variable, parameter_variable, field_variable}
use Rattle.jav_names.specs.Views.{Found as Result, found, outside, not_found}
use Rattle.mol_scope.proofs.asked_lemmas.PlacesRead.{place-is}
use Rattle.mol_scope.specs.asked.Answers.{names_in, with_rest}
use Rattle.mol_scope.specs.asked.Places.{IsAt, program_of, reader_of}
use Rattle.mol_scope.specs.declared.asked.place.NamePlace.{NamePlace}
use Rattle.mol_base.specs.declared.ident.Id.{Id}
use Rattle.mol_scope.specs.first_names.Readings.{file_place, IsRead, type_read}
use Rattle.mol_scope.specs.declared.first_names.reading.FirstType.{FirstType}
use Rattle.mol_scope.specs.declared.first_names.reading.Leftmost.TheVariants as read
use Rattle.mol_spell_rules.specs.references.References.{Target, field_target, local_target, outside_target, param_target}
use Rattle.mol_resolve_rules.specs.Locals.{Locals}
use Rattle.mol_resolve_rules.specs.ProgramReaders.{parameter_in}
use Rattle.mol_resolve_rules.specs.ProgramViews.{program_view}
use Rattle.mol_resolve_rules.specs.Readers.{Parameter, place_of}
use Rattle.mol_spell_rules.specs.Answers.{name_answer, variable_answer}
use Rattle.mol_values_types.specs.declared.param.Param.{Param}
use Rattle.mol_scope.specs.variables.Keys.{variable_key}
use Rattle.mol_scope.specs.declared.variables.variable.Variable.{Variable}
use Rattle.mol_scope.specs.declared.variables.variable.Variable.TheVariants as kept

-- names that follow a first one, as one text
pub joined-is : (front : Name) (rest : Option (Bor Name)) → with_rest front rest ≡ joined front (names_in rest)
joined-is front None = refl
joined-is front (Some rest) = ap (λ text. front ++ 46 ∷ text) (sym (names_cut.whole rest.now))

module _ (place : NamePlace) (locals : Locals Id) (at : IsAt place locals) where
  abbrev answer_to : VariableRead Id Id → Option Target
  answer_to read = variable_answer (reader_of place) locals read

  pub local-is : (number : ℕ) (read : VariableRead Id Id) → variable_key read ≡ kept.Local number
      → option_map (λ number. local_target number) (slice_get place.in_scope.now number) ≡ answer_to read
  local-is number (local_variable other) is =
      let same : other ≡ number = cc in
      λ i. option_map (λ number. local_target number) (slice_get (at.numbers i) (sym same i))
  local-is number (parameter_variable other) is = absurd cc
  local-is number (field_variable field) is = absurd cc

  pub param-is : (number : ℕ) (read : VariableRead Id Id) → variable_key read ≡ kept.Param number
      → option_map (λ (param : Param). param_target param.id) (slice_get place.params.now number) ≡ answer_to read
  param-is number (parameter_variable other) is =
      let same : other ≡ number = cc in
      by (slice_get place.params.now number)
      ∙ ap (option_map (λ (param : Parameter Id). param_target param.id))
      (sym (slice_get-map parameter_in place.params.now number) ∙ ap (slice_get (map parameter_in place.params.now)) (sym same)) where
        by : (o : Option Param) → option_map (λ (param : Param). param_target param.id) o
            ≡ option_map (λ (param : Parameter Id). param_target param.id) (option_map parameter_in o)
        by None = refl
        by (Some param) = refl
  param-is number (local_variable other) is = absurd cc
  param-is number (field_variable field) is = absurd cc

  pub field-is : (key : Id) (read : VariableRead Id Id) → variable_key read ≡ kept.Field key
      → Some (field_target key) ≡ answer_to read
  field-is key (field_variable field) is = let same : field.key ≡ key = cc in ap (λ k. Some (field_target k)) (sym same)
  field-is key (local_variable other) is = absurd cc
  field-is key (parameter_variable other) is = absurd cc

  -- ---- a name that stands alone

  module _ (name : Name) where
    abbrev found_as : Result (VariableRead Id Id)
    found_as = variable (program_view (program_of place)) (place_of (reader_of place) locals) name

    abbrev kept_as : Result (VariableRead Id Id)
    kept_as = variable (program_view (program_of place)) (file_place place.variables place.imports.now) name

    kept-is : kept_as ≡ found_as
    kept-is = ap (λ p. variable (program_view (program_of place)) p name) (place-is place locals at)

    abbrev alone : Result (VariableRead Id Id) → Option Target
    alone read = name_answer (reader_of place) locals name read

    pub variable-alone : (key : Variable) (o : Option Target) → answer.Found key ≡ answered variable_key kept_as
        → ((read : VariableRead Id Id) → variable_key read ≡ key → o ≡ answer_to read) → o ≡ alone found_as
    variable-alone key o is each = by kept_as is ∙ ap alone kept-is where
      by : (read : Result (VariableRead Id Id)) → answer.Found key ≡ answered variable_key read → o ≡ alone read
      by (found read) is = each read (let same : key ≡ variable_key read = cc in sym same)
      by outside is = absurd cc
      by not_found is = absurd cc

    pub outside-alone : answer.Outside ≡ answered variable_key kept_as → Some (outside_target name) ≡ alone found_as
    outside-alone is = by kept_as is ∙ ap alone kept-is where
      by : (read : Result (VariableRead Id Id)) → answer.Outside ≡ answered variable_key read → Some (outside_target name) ≡ alone read
      by (found read) is = absurd cc
      by outside is = refl
      by not_found is = absurd cc

    pub nothing-alone : answer.NotFound ≡ answered variable_key kept_as → None ≡ alone found_as
    nothing-alone is = by kept_as is ∙ ap alone kept-is where
      by : (read : Result (VariableRead Id Id)) → answer.NotFound ≡ answered variable_key read → None ≡ alone read
      by (found read) is = absurd cc
      by outside is = absurd cc
      by not_found is = refl

  -- ---- the first of several names

  module _ (first : Name) (rest : Names) where
    abbrev pub first_read : Read Id Id
    first_read = leftmost (program_view (program_of place)) (place_of (reader_of place) locals) first rest

    abbrev pub kept_first : Read Id Id
    kept_first = leftmost (program_view (program_of place)) (file_place place.variables place.imports.now) first rest

    first-is : kept_first ≡ first_read
    first-is = ap (λ p. leftmost (program_view (program_of place)) p first rest) (place-is place locals at)

    pub variable-first : (key : Variable) → IsRead (read.Variable key) kept_first
        → (variable : VariableRead Id Id) × (first_read ≡ leftmost_variable variable) × (variable_key variable ≡ key)
    variable-first key is = (is.0, sym first-is ∙ is.1, is.2)

    pub type-first : (type : FirstType) → IsRead (read.Type type) kept_first → type_read type ≡ first_read
    type-first type is = sym is ∙ first-is
