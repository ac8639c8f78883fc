-- Static members after the names of a class, and after names that spell none.
use Rattle.std.proofs.Common.{◌≡◌, ℕ, Some, None, refl, ap}
use Rattle.jav_names.specs.DottedNames.{Name}
use Rattle.mol_scope.specs.asked.Answers.{whole_class}
use Rattle.mol_scope.specs.asked.Places.{reader_of}
use Rattle.mol_scope.specs.declared.asked.place.NamePlace.{NamePlace}
use Rattle.mol_base.specs.declared.ident.Id.{Id}
use Rattle.mol_resolve_rules.specs.ReadTrees.{ClassPath, whole_path, front_path, no_path}
use Rattle.mol_spell_rules.specs.Answers.{field_through_answer, method_through_answer}

pub whole : (path : ClassPath Id) (class : Id) → Some class ≡ whole_class path → whole_path class ≡ path
whole (whole_path other) class is = ap (λ c. whole_path c) (let same : class ≡ other = cc in same)
whole front_path class is = absurd cc
whole no_path class is = absurd cc

module _ (place : NamePlace) (name : Name) where
  pub nowhere-field : (path : ClassPath Id) → None ≡ whole_class path → None ≡ field_through_answer (reader_of place) name path
  nowhere-field (whole_path class) is = absurd cc
  nowhere-field front_path is = refl
  nowhere-field no_path is = refl

  pub nowhere-method : (arity : ℕ) (path : ClassPath Id) → None ≡ whole_class path
      → None ≡ method_through_answer (reader_of place) name arity path
  nowhere-method arity (whole_path class) is = absurd cc
  nowhere-method arity front_path is = refl
  nowhere-method arity no_path is = refl
