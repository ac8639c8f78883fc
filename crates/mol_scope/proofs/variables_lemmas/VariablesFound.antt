-- A local, a parameter or a field, by which of them is found.
use Rattle.std.proofs.Common.{◌≡◌, ℕ, Option, Some, None, refl, ◌∙◌, ap}
use Rattle.std.proofs.lemmas.Option.{same_Some}
use Rattle.jav_scope.specs.Answers.{answered}
use Rattle.jav_scope.specs.declared.found.Found.{Found}
use Rattle.jav_scope.specs.declared.found.Found.TheVariants as answer
use Rattle.jav_names.specs.LookUps.{field_found, local_or}
use Rattle.jav_names.specs.Views.{ViewField, Found as Result, found, outside, not_found}
use Rattle.mol_base.specs.declared.ident.Id.{Id}
use Rattle.mol_scope.specs.variables.Keys.{variable_key, in_scope}
use Rattle.mol_scope.specs.declared.variables.variable.Variable.{Variable}
use Rattle.mol_scope.specs.declared.variables.variable.Variable.TheVariants as variable

module _ (field : Result (ViewField Id Id)) where
  pub is-in-scope : (local parameter : Option ℕ) (read : Variable) → Some read ≡ in_scope local parameter
      → answer.Found read ≡ answered variable_key (local_or local parameter field)
  is-in-scope (Some place) parameter read is = ap (λ (v : Variable). answer.Found v) (same_Some read (variable.Local place) is)
  is-in-scope None (Some place) read is = ap (λ (v : Variable). answer.Found v) (same_Some read (variable.Param place) is)
  is-in-scope None None read is = absurd cc

  -- what a field is found as
  abbrev of_field : Found Id → Found Variable
  of_field (answer.Found key) = answer.Found (variable.Field key)
  of_field answer.Outside = answer.Outside
  of_field answer.NotFound = answer.NotFound

  pub is-field : (local parameter : Option ℕ) (found_as : Found Id) → None ≡ in_scope local parameter
      → found_as ≡ answered (λ (f : ViewField Id Id). f.key) field
      → of_field found_as ≡ answered variable_key (local_or local parameter field)
  is-field (Some place) parameter found_as none is = absurd cc
  is-field None (Some place) found_as none is = absurd cc
  is-field None None found_as none is = ap of_field is ∙ by field where
    by : (r : Result (ViewField Id Id)) → of_field (answered (λ (f : ViewField Id Id). f.key) r) ≡ answered variable_key (field_found r)
    by (found f) = refl
    by outside = refl
    by not_found = refl
