-- Views that match are alike.
use Rattle.std.proofs.Common.{◌≡◌, ◌≢◌, ℕ, ◌==◌, Bool, true, false, ◌&&◌, not, option_map, find, refl, sym, ◌∙◌, ap, true≢false, eqb-true}
use Rattle.std.specs.Bool.{Decides}
use Rattle.std.specs.Ordering.{is_eq}
use Rattle.std.specs.Str.{bytes_eq}
use Rattle.std.proofs.lemmas.Bool.{and_parts}
use Rattle.std.proofs.lemmas.Slice.Eq.{bytes_eq-Decides}
use Rattle.jav_names.specs.DottedNames.{Name}
use Rattle.jav_names.specs.LookUps.{class_named, has_class, is_constructor, is_method, declares_constructor}
use Rattle.jav_names.specs.Types.{full_name}
use Rattle.jav_names.specs.Views.{DeclarationKind, instance_method, static_method, constructor, ViewDeclaration, View}
use Rattle.jav_names.proofs.Ways.{same_key}
use Rattle.jav_names_laws.specs.Alike.{ViewsAlike}
use Rattle.jav_names_laws.specs.Keys.{Keys, class_as, field_as, declaration_as}
use Rattle.jav_names_laws.specs.Laws.{MatchingAlike}
use Rattle.jav_names_laws.specs.ViewsMatch.{ViewsMatch}
use Rattle.jav_names_laws.proofs.AboveAlike.{above-is, outside-is}
use Rattle.jav_names_laws.proofs.ListsAlike.{find-alike, any-alike}

kind-constructor : (kind : DeclarationKind) → is_constructor kind ≡ true → kind ≡ constructor
kind-constructor instance_method is = absurd (true≢false (sym is))
kind-constructor static_method is = absurd (true≢false (sym is))
kind-constructor constructor is = refl

kind-method : (kind : DeclarationKind) → not (is_constructor kind) ≡ true → kind ≢ constructor
kind-method kind is same = true≢false (sym is ∙ ap (λ k. not (is_constructor k)) same)

module _ {C M D N : Type 0} (keys : Keys C M D N) (view : View C M) (other : View D N) (match : ViewsMatch keys view other) where
  tests-same : (first second : C) → is_eq (view.classes.cmp first second) ≡ is_eq (other.classes.cmp (keys.class first) (keys.class second))
  tests-same first second =
      by (is_eq (view.classes.cmp first second)) refl (is_eq (other.classes.cmp (keys.class first) (keys.class second))) refl where
        here : Decides (is_eq (view.classes.cmp first second)) (first ≡ second)
        here = same_key match.order first second

        there : Decides (is_eq (other.classes.cmp (keys.class first) (keys.class second))) (keys.class first ≡ keys.class second)
        there = same_key match.other_order (keys.class first) (keys.class second)

        by : (a : Bool) → is_eq (view.classes.cmp first second) ≡ a
            → (b : Bool) → is_eq (other.classes.cmp (keys.class first) (keys.class second)) ≡ b → a ≡ b
        by true is true are = refl
        by false is false are = refl
        by true is false are = sym (there.1 (ap keys.class (here.0 is))) ∙ are
        by false is true are = sym is ∙ here.1 (match.one_to_one first second (there.0 are))

  owner-is : (owner class : D) → is_eq (other.classes.cmp owner class) ≡ true → owner ≡ class
  owner-is owner class = (same_key match.other_order owner class).0

  classes-is : (name : Name) → option_map (class_as keys.class) (class_named view.classes name) ≡ class_named other.classes name
  classes-is name = find-alike (class_as keys.class) (λ class. bytes_eq (full_name class) name) (λ class. bytes_eq (full_name class) name)
      view.classes.items other.classes.items match.classes.there match.classes.back (λ class. refl)
      (λ first second of-first of-second is-first is-second. match.differ.classes first second of-first of-second
      ((bytes_eq-Decides (full_name first) name).0 is-first ∙ sym ((bytes_eq-Decides (full_name second) name).0 is-second)))

  has-is : (class : C) → has_class view.classes class ≡ has_class other.classes (keys.class class)
  has-is class = any-alike (class_as keys.class) (λ c. is_eq (view.classes.cmp c.key class))
      (λ c. is_eq (other.classes.cmp c.key (keys.class class))) view.classes.items other.classes.items match.classes.there
      match.classes.back (λ c. tests-same c.key class)

  fields-is : (class : C) (name : Name)
      → option_map (field_as keys) (find (λ field. bytes_eq field.name name && is_eq (view.classes.cmp field.owner class)) view.fields)
      ≡ find (λ field. bytes_eq field.name name && is_eq (other.classes.cmp field.owner (keys.class class))) other.fields
  fields-is class name = find-alike (field_as keys) (λ field. bytes_eq field.name name && is_eq (view.classes.cmp field.owner class))
      (λ field. bytes_eq field.name name && is_eq (other.classes.cmp field.owner (keys.class class))) view.fields other.fields
      match.fields.there match.fields.back
      (λ field. ap (λ b. bytes_eq field.name name && b) (tests-same field.owner class))
      (λ first second of-first of-second is-first is-second.
      let tests = and_parts (bytes_eq first.name name) _ is-first in
      let more = and_parts (bytes_eq second.name name) _ is-second in
      match.differ.fields first second of-first of-second
      (owner-is first.owner (keys.class class) tests.1 ∙ sym (owner-is second.owner (keys.class class) more.1))
      ((bytes_eq-Decides first.name name).0 tests.0 ∙ sym ((bytes_eq-Decides second.name name).0 more.0)))

  methods-is : (class : C) (name : Name) (arity : ℕ)
      → option_map (declaration_as keys)
      (find (λ declared. is_method name arity declared && is_eq (view.classes.cmp declared.owner class)) view.declarations)
      ≡ find (λ declared. is_method name arity declared && is_eq (other.classes.cmp declared.owner (keys.class class))) other.declarations
  methods-is class name arity = find-alike (declaration_as keys)
      (λ declared. is_method name arity declared && is_eq (view.classes.cmp declared.owner class))
      (λ declared. is_method name arity declared && is_eq (other.classes.cmp declared.owner (keys.class class)))
      view.declarations other.declarations match.declarations.there match.declarations.back
      (λ declared. ap (λ b. is_method name arity declared && b) (tests-same declared.owner class))
      (λ first second of-first of-second is-first is-second.
      let tests = and_parts (is_method name arity first) _ is-first in
      let more = and_parts (is_method name arity second) _ is-second in
      let of-first-name = and_parts (not (is_constructor first.kind)) _ tests.0 in
      let of-second-name = and_parts (not (is_constructor second.kind)) _ more.0 in
      let named = and_parts (bytes_eq first.name name) _ of-first-name.1 in
      let named-second = and_parts (bytes_eq second.name name) _ of-second-name.1 in
      match.differ.methods first second of-first of-second (kind-method first.kind of-first-name.0) (kind-method second.kind of-second-name.0)
      (owner-is first.owner (keys.class class) tests.1 ∙ sym (owner-is second.owner (keys.class class) more.1))
      ((bytes_eq-Decides first.name name).0 named.0 ∙ sym ((bytes_eq-Decides second.name name).0 named-second.0))
      (eqb-true first.arity arity named.1 ∙ sym (eqb-true second.arity arity named-second.1)))

  declares-is : (class : C) (declared : ViewDeclaration C M)
      → declares_constructor view class declared ≡ declares_constructor other (keys.class class) (declaration_as keys declared)
  declares-is class declared = ap (λ b. b && is_constructor declared.kind) (tests-same declared.owner class)

  constructors-is : (class : C) (arity : ℕ)
      → option_map (declaration_as keys)
      (find (λ declared. declares_constructor view class declared && declared.arity == arity) view.declarations)
      ≡ find (λ declared. declares_constructor other (keys.class class) declared && declared.arity == arity) other.declarations
  constructors-is class arity = find-alike (declaration_as keys)
      (λ declared. declares_constructor view class declared && declared.arity == arity)
      (λ declared. declares_constructor other (keys.class class) declared && declared.arity == arity)
      view.declarations other.declarations match.declarations.there match.declarations.back
      (λ declared. ap (λ b. b && declared.arity == arity) (declares-is class declared))
      (λ first second of-first of-second is-first is-second.
      let tests = and_parts (declares_constructor other (keys.class class) first) _ is-first in
      let more = and_parts (declares_constructor other (keys.class class) second) _ is-second in
      let owned = and_parts (is_eq (other.classes.cmp first.owner (keys.class class))) _ tests.0 in
      let owned-second = and_parts (is_eq (other.classes.cmp second.owner (keys.class class))) _ more.0 in
      match.differ.constructors first second of-first of-second
      (kind-constructor first.kind owned.1) (kind-constructor second.kind owned-second.1)
      (owner-is first.owner (keys.class class) owned.0 ∙ sym (owner-is second.owner (keys.class class) owned-second.0))
      (eqb-true first.arity arity tests.1 ∙ sym (eqb-true second.arity arity more.1)))

  pub views : ViewsAlike keys view other
  views = record {
    same_class = tests-same;
    as_many = match.as_many;
    classes = classes-is;
    above = above-is keys view other has-is match.superclasses;
    outside = outside-is keys view other has-is match.superclasses;
    fields = fields-is;
    methods = methods-is;
    constructors = constructors-is;
    has_constructor = λ class. any-alike (declaration_as keys) (declares_constructor view class)
        (declares_constructor other (keys.class class)) view.declarations other.declarations match.declarations.there
        match.declarations.back (declares-is class);
  }

pub matching_alike : (C M D N : Type 0) → MatchingAlike C M D N
matching_alike C M D N keys view other match = views keys view other match
