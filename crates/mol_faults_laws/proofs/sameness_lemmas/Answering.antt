-- What a printed name asks is answered alike in views that differ in the superclasses of what is no class of them alone.
use Rattle.std.proofs.Common.{Bool, None, Option, Some, [], ap, false, length, option_map, refl, suc, true, ℕ, ◌++◌, ◌∙◌, ◌∷◌, ◌≡◌}
use Rattle.std.specs.Ordering.{is_eq}
use Rattle.std.specs.Prelude.{codes, if◌then◌else◌, nat_lt, ◌==◌}
use Rattle.jav_names.specs.DottedNames.{Dotted, Name, Names}
use Rattle.jav_names.specs.Leftmost.{Leftmost, leftmost_variable, leftmost_class, leftmost_import, leftmost_outside}
use Rattle.jav_names.specs.LookUps.{has_class, leftmost, super_constructor}
use Rattle.jav_names.specs.Types.{OwnStands}
use Rattle.jav_names.specs.Views.{View, ViewType, IsOrdered}
use Rattle.mol_base.specs.declared.ident.Id.{Id}
use Rattle.mol_resolve_rules.specs.Locals.{Locals}
use Rattle.mol_resolve_rules.specs.ReadTrees.{ClassPath, whole_path, front_path, no_path, path_by, path_of}
use Rattle.mol_resolve_rules.specs.Readers.{Reader, place_of}
use Rattle.mol_spell_rules.specs.Answers.{field_of, method_of, name_answer, before_answer, path_answer, field_through_answer, method_through_answer, on_value_answer, call_answer, super_method_answer, constructor_answer, answer}
use Rattle.mol_spell_rules.specs.Writers.{Asked, type_asked, name_asked, name_before_asked, path_asked, static_field_asked, static_method_asked, field_asked, method_asked, call_asked, super_method_asked, constructor_asked, super_constructor_asked, index_asked}
use Rattle.mol_faults_laws.proofs.sameness_lemmas.Views.{with_superclass, StandsIn, StandsValue, variables-same, leftmosts-same, leftmost-stands, fields_through-same, methods_through-same, fields_on-same, methods_on-same, methods-same, super_methods-same, super_constructors-same}

-- the class of a value whose member is asked for stands in the view
abbrev pub AsksStanding : View Id Id → Asked → Type 0
AsksStanding view (field_asked type name) = StandsValue view type
AsksStanding view (method_asked type name arity) = StandsValue view type
AsksStanding view asked = Unit {0}

-- a path that spells a class is leftmost that class
path-class : (count : ℕ) (l : Leftmost Id Id) (class : Id) → path_by count l ≡ whole_path class
    → (spelling : ℕ) × (l ≡ leftmost_class class spelling)
path-class count (leftmost_class own spelling) class is = by (spelling == count) (nat_lt count spelling) is where
  by : (a b : Bool) → (if a then whole_path own else if b then front_path else no_path) ≡ whole_path class
      → (spelled : ℕ) × ◌≡◌ {A = Leftmost Id Id} (leftmost_class own spelling) (leftmost_class class spelled)
  by true b is = (spelling, ap {A = Id} {B = Leftmost Id Id} (λ c. leftmost_class c spelling) (same own class is)) where
    same : (own class : Id) → whole_path own ≡ whole_path class → own ≡ class
    same own class is = cc
  by false true is = absurd cc
  by false false is = absurd cc
path-class count (leftmost_variable v) class is = absurd cc
path-class count (leftmost_import import) class is = absurd cc
path-class count leftmost_outside class is = absurd cc

module _ (r : Reader Id Id) (superclass : Id → Option (ViewType Id))
    (agree : (class : Id) → has_class r.view.classes class ≡ true → r.view.superclass class ≡ superclass class)
    (good : StandsIn r.view r.class) (ordered : IsOrdered r.view) (itself : (class : Id) → is_eq (r.view.classes.cmp class class) ≡ true)
    (own : OwnStands r.view.classes r.header) where
  abbrev pub raised : Reader Id Id
  raised = record {
    view = with_superclass r.view superclass;
    ids = r.ids;
    header = r.header;
    class = r.class;
    params = r.params;
    in_constructor = r.in_constructor;
  }

  path-stands : (locals : Locals Id) (names : Dotted) (follow : Names) (class : Id)
      → path_of r locals (Some names) follow ≡ whole_path class
      → StandsIn r.view class
  path-stands locals names follow class is =
      let found = path-class (suc (length names.rest)) (leftmost r.view (place_of r locals) names.first (names.rest ++ follow)) class is in
      leftmost-stands r.view superclass agree ordered itself (place_of r locals) names.first
      (names.rest ++ follow) class found.0 own found.1

  path-same : (locals : Locals Id) (names : Dotted) (follow : Names)
      → path_of r locals (Some names) follow ≡ path_of raised locals (Some names) follow
  path-same locals names follow = ap (path_by (suc (length names.rest)))
      (leftmosts-same r.view superclass agree (place_of r locals) names.first (names.rest ++ follow) good)

  field_path : (name : Name) (p : ClassPath Id) → ((class : Id) → p ≡ whole_path class → StandsIn r.view class)
      → field_through_answer r name p ≡ field_through_answer raised name p
  field_path name (whole_path class) stands = ap (option_map (field_of r))
      (fields_through-same r.view superclass agree class name (stands class refl))
  field_path name front_path stands = refl
  field_path name no_path stands = refl

  method_path : (name : Name) (arity : ℕ) (p : ClassPath Id) → ((class : Id) → p ≡ whole_path class → StandsIn r.view class)
      → method_through_answer r name arity p ≡ method_through_answer raised name arity p
  method_path name arity (whole_path class) stands =
      ap (option_map (method_of r)) (methods_through-same r.view superclass agree class name arity (stands class refl))
  method_path name arity front_path stands = refl
  method_path name arity no_path stands = refl

  super_constructor-same : (b : Bool) (arity : ℕ)
      → (if b then constructor_answer r (codes "super") (super_constructor r.view r.class arity) else None)
      ≡ (if b then constructor_answer raised (codes "super") (super_constructor raised.view r.class arity) else None)
  super_constructor-same true arity = ap (constructor_answer r (codes "super"))
      (super_constructors-same r.view superclass agree r.class arity good)
  super_constructor-same false arity = refl

  pub answer-same : (locals : Locals Id) (asked : Asked) → AsksStanding r.view asked → answer r locals asked ≡ answer raised locals asked
  answer-same locals (type_asked text) asks = refl
  answer-same locals (name_asked name) asks =
      ap (name_answer r locals name) (variables-same r.view superclass agree (place_of r locals) name good)
  answer-same locals (name_before_asked name follow) asks =
      ap (before_answer r locals name) (leftmosts-same r.view superclass agree (place_of r locals) name follow good)
  answer-same locals (path_asked names follow) asks =
      ap (path_answer r names) (leftmosts-same r.view superclass agree (place_of r locals) names.first (names.rest ++ follow) good)
  answer-same locals (static_field_asked path name follow) asks =
      field_path name (path_of r locals (Some path) (name ∷ follow)) (path-stands locals path (name ∷ follow))
      ∙ ap (field_through_answer raised name) (path-same locals path (name ∷ follow))
  answer-same locals (static_method_asked path name arity) asks =
      method_path name arity (path_of r locals (Some path) []) (path-stands locals path [])
      ∙ ap (method_through_answer raised name arity) (path-same locals path [])
  answer-same locals (field_asked type name) asks =
      ap (on_value_answer r name (field_of r)) (fields_on-same r.view superclass agree name type asks)
  answer-same locals (method_asked type name arity) asks =
      ap (on_value_answer r name (method_of r)) (methods_on-same r.view superclass agree name arity type asks)
  answer-same locals (call_asked name arity) asks = ap (call_answer r name) (methods-same r.view superclass agree r.class name arity good)
  answer-same locals (super_method_asked name arity) asks =
      ap (super_method_answer r name) (super_methods-same r.view superclass agree r.class name arity good)
  answer-same locals (constructor_asked text arity) asks = refl
  answer-same locals (super_constructor_asked arity) asks = super_constructor-same r.in_constructor arity
  answer-same locals (index_asked type) asks = refl
