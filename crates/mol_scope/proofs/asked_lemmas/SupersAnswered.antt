-- What `super(..)` stands for, by what is above the class.
use Rattle.std.proofs.Common.{◌≡◌, ℕ, Option, Some, None, refl, sym, ◌∙◌, ap, codes}
use Rattle.jav_scope.specs.Answers.{answered}
use Rattle.jav_scope.specs.Climbs.{above}
use Rattle.jav_scope.specs.declared.found.Found.{Found}
use Rattle.jav_scope.specs.declared.found.Found.TheVariants as answer
use Rattle.jav_names.specs.LookUps.{class_above, constructor_from, is_outside, super_constructor}
use Rattle.jav_names.specs.Members.{Constructor}
use Rattle.jav_names.specs.Views.{View, Found as Result, found, outside, not_found}
use Rattle.mol_scope.specs.asked.Places.{program_of, reader_of}
use Rattle.mol_scope.specs.declared.asked.place.NamePlace.{NamePlace}
use Rattle.mol_base.specs.declared.ident.Id.{Id}
use Rattle.mol_scope_members.proofs.inherited_lemmas.SupersFound.{from-above, from-nothing, from-outside}
use Rattle.mol_spell_rules.specs.references.References.{Target, outside_target}
use Rattle.mol_resolve_rules.specs.ProgramViews.{program_view}
use Rattle.mol_spell_rules.specs.Answers.{constructor_answer, constructor_of}

module _ (place : NamePlace) (arity : ℕ) where
  abbrev view : View Id Id
  view = program_view (program_of place)

  abbrev class : Id
  class = place.variables.class

  abbrev pub supers : Result (Constructor Id Id)
  supers = super_constructor view class arity

  abbrev pub answer_to : Result (Constructor Id Id) → Option Target
  answer_to read = constructor_answer (reader_of place) (codes "super") read

  -- the answer, by what is found
  abbrev found_as : Found (Constructor Id Id) → Option Target
  found_as (answer.Found constructor) = Some (constructor_of (reader_of place) constructor)
  found_as answer.Outside = Some (outside_target (codes "super"))
  found_as answer.NotFound = None

  found-is : (read : Result (Constructor Id Id)) → found_as (answered (λ (c : Constructor Id Id). c) read) ≡ answer_to read
  found-is (found constructor) = refl
  found-is outside = refl
  found-is not_found = refl

  abbrev pub above_as : Found Id → Type 0
  above_as up = up ≡ answered (λ (id : Id). id) (above view class)

  pub super-above : (up : Id) → above_as (answer.Found up) → answer_to (constructor_from view up arity) ≡ answer_to supers
  super-above up is =
      sym (found-is (constructor_from view up arity))
      ∙ ap found_as (from-above (λ (c : Constructor Id Id). c) (λ c. constructor_from view c arity) (class_above view class)
      (is_outside (view.superclass class)) up is (is_outside (view.superclass class)))
      ∙ found-is supers

  pub super-outside : above_as answer.Outside → Some (outside_target (codes "super")) ≡ answer_to supers
  super-outside is =
      ap found_as (from-outside (λ (c : Constructor Id Id). c) (λ c. constructor_from view c arity) (class_above view class)
      (is_outside (view.superclass class)) is)
      ∙ found-is supers

  pub super-nothing : above_as answer.NotFound → None ≡ answer_to supers
  super-nothing is =
      ap found_as (from-nothing (λ (c : Constructor Id Id). c) (λ c. constructor_from view c arity) (class_above view class)
      (is_outside (view.superclass class)) is)
      ∙ found-is supers
