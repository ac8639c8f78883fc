-- A variable, or what is read otherwise.
use Rattle.std.proofs.Common.{◌≡◌, Some, None, refl, sym}
use Rattle.std.proofs.lemmas.Option.{same_Some}
use Rattle.jav_scope.specs.Answers.{answered}
use Rattle.jav_names.specs.Leftmost.{Leftmost as Read}
use Rattle.jav_names.specs.LookUps.{variable_or}
use Rattle.jav_names.specs.Variables.{Variable as VariableRead}
use Rattle.jav_names.specs.Views.{Found as Result, found, outside, not_found}
use Rattle.mol_base.specs.declared.ident.Id.{Id}
use Rattle.mol_scope.specs.first_names.Readings.{IsRead}
use Rattle.mol_scope.specs.declared.first_names.reading.Leftmost.TheVariants as answers
use Rattle.mol_scope.specs.variables.Keys.{found_in, variable_key}
use Rattle.mol_scope.specs.declared.variables.variable.Variable.{Variable}

module _ (otherwise : Read Id Id) where
  pub by-variable : (r : Result (VariableRead Id Id)) (key : Variable) → Some key ≡ found_in (answered variable_key r)
      → IsRead (answers.Variable key) (variable_or r otherwise)
  by-variable (found x) key is = (x, refl, sym (same_Some key (variable_key x) is))
  by-variable outside key is = absurd cc
  by-variable not_found key is = absurd cc

  pub by-none : (r : Result (VariableRead Id Id)) → None ≡ found_in (answered variable_key r) → variable_or r otherwise ≡ otherwise
  by-none (found x) is = absurd cc
  by-none outside is = refl
  by-none not_found is = refl
