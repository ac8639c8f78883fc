-- What a variable, or the first of several names, is found to be.
use Rattle.std.proofs.Common.{◌≡◌, ℕ, Option, Some, None, refl, ◌∙◌, ap}
use Rattle.jav_names.specs.Leftmost.{Leftmost as Read}
use Rattle.jav_names.specs.LookUps.{local_or, variable_or}
use Rattle.jav_names.specs.UnitViews.{MemberKey}
use Rattle.jav_names.specs.Variables.{Variable}
use Rattle.jav_names.specs.Views.{ViewField, Found as Result, found, outside, not_found}
use Rattle.jav_scope.specs.Answers.{answered, field_ref, variable_ref, leftmost_answered}
use Rattle.jav_scope.specs.declared.found.Found.TheVariants as answer
use Rattle.jav_scope.specs.declared.found.Leftmost.TheVariants as leftmost
use Rattle.jav_scope.specs.declared.found.MemberRef.{MemberRef}
use Rattle.jav_scope.specs.declared.found.VarRef.{VarRef}
use Rattle.jav_scope.specs.declared.found.VarRef.TheVariants as variable

-- ---- a local, a parameter or a field

module _ (local parameter : Option ℕ) (field : Result (ViewField ℕ MemberKey)) where
  pub is-local : (place : ℕ) → Some place ≡ local → answer.Found (variable.Local place)
      ≡ answered variable_ref (local_or local parameter field)
  is-local place is = ap (λ o. answered variable_ref (local_or o parameter field)) is

  pub is-parameter : (place : ℕ) → None ≡ local → Some place ≡ parameter
      → answer.Found (variable.Param place) ≡ answered variable_ref (local_or local parameter field)
  is-parameter place none is = λ i. answered variable_ref (local_or (none i) (is i) field)

  module _ (no_local : None ≡ local) (no_parameter : None ≡ parameter) where
    by_field : answered variable_ref (local_or None None field) ≡ answered variable_ref (local_or local parameter field)
    by_field = λ i. answered variable_ref (local_or (no_local i) (no_parameter i) field)

    pub is-field : (member : MemberRef) → answer.Found member ≡ answered field_ref field
        → answer.Found (variable.Member member) ≡ answered variable_ref (local_or local parameter field)
    is-field member is = by_answer field is ∙ by_field where
      by_answer : (r : Result (ViewField ℕ MemberKey)) → answer.Found member ≡ answered field_ref r
          → answer.Found (variable.Member member) ≡ answered variable_ref (local_or None None r)
      by_answer (found f) is = ap (λ m. answer.Found (variable.Member m)) (let same : member ≡ field_ref f = cc in same)
      by_answer outside is = absurd cc
      by_answer not_found is = absurd cc

    pub is-outside : answer.Outside ≡ answered field_ref field → answer.Outside ≡ answered variable_ref (local_or local parameter field)
    is-outside is = by_answer field is ∙ by_field where
      by_answer : (r : Result (ViewField ℕ MemberKey)) → answer.Outside ≡ answered field_ref r
          → answer.Outside ≡ answered variable_ref (local_or None None r)
      by_answer (found f) is = absurd cc
      by_answer outside is = refl
      by_answer not_found is = absurd cc

    pub is-nothing : answer.NotFound ≡ answered field_ref field → answer.NotFound ≡ answered variable_ref (local_or local parameter field)
    is-nothing is = by_answer field is ∙ by_field where
      by_answer : (r : Result (ViewField ℕ MemberKey)) → answer.NotFound ≡ answered field_ref r
          → answer.NotFound ≡ answered variable_ref (local_or None None r)
      by_answer (found f) is = absurd cc
      by_answer outside is = absurd cc
      by_answer not_found is = refl

-- ---- before a dot

module _ (otherwise : Read ℕ MemberKey) where
  pub first-variable : (r : Result (Variable ℕ MemberKey)) (v : VarRef) → answer.Found v ≡ answered variable_ref r
      → answer.Found (leftmost.Var v) ≡ leftmost_answered (variable_or r otherwise)
  first-variable (found x) v is = ap (λ w. answer.Found (leftmost.Var w)) (let same : v ≡ variable_ref x = cc in same)
  first-variable outside v is = absurd cc
  first-variable not_found v is = absurd cc

  pub first-outside : (r : Result (Variable ℕ MemberKey)) → answer.Outside ≡ answered variable_ref r
      → leftmost_answered otherwise ≡ leftmost_answered (variable_or r otherwise)
  first-outside (found x) is = absurd cc
  first-outside outside is = refl
  first-outside not_found is = absurd cc

  pub first-nothing : (r : Result (Variable ℕ MemberKey)) → answer.NotFound ≡ answered variable_ref r
      → leftmost_answered otherwise ≡ leftmost_answered (variable_or r otherwise)
  first-nothing (found x) is = absurd cc
  first-nothing outside is = absurd cc
  first-nothing not_found is = refl
