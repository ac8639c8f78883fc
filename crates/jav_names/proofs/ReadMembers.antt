-- The name of a field, a method or a constructor has exactly one reading in a class.
use Rattle.std.proofs.Common.{◌≡◌, ◌≢◌, ℕ, ◌==◌, Bool, true, false, not, ◌&&◌, ◌||◌, Option, Some, None, bytes_eq, find, Contains, refl, sym, ◌∙◌, ap, true≢false, eqb-true, eq-eqb}
use Rattle.std.specs.Bool.{Decides}
use Rattle.std.specs.List.{list_any}
use Rattle.std.specs.Ordering.{is_eq}
use Rattle.std.proofs.lemmas.Bool.{and_parts, and_from, or_right, not-true, not_from_false, false_from_ne_true}
use Rattle.std.proofs.lemmas.List.Elements.{All-contains}
use Rattle.std.proofs.lemmas.Slice.Eq.{bytes_eq-Decides}
use Rattle.jav_names.specs.Ancestors.{Extends, ExtendsOutside, HasNothingAbove, EndsOutside}
use Rattle.jav_names.specs.Choices.{IsLeast, HoldsOfNone}
use Rattle.jav_names.specs.DottedNames.{Name}
use Rattle.jav_names.specs.Laws.{IsTheAnswer}
use Rattle.jav_names.specs.LookUps.{class_above, is_outside, way, ends_outside, nearest, found_or, field_from, is_constructor, is_method, method_from, found_above, super_method, declares_constructor, constructor_or, constructor_from, super_constructor}
use Rattle.jav_names.specs.Members.{IsNearestField, HasNoField, ReadsField, is_object_method, IsMethod, IsNearestMethod, HasNoMethod, ReadsMethod, ReadsSuperMethod, IsConstructor, IsConstructorOf, IsByDefault, Constructor, ReadsConstructor, ReadsSuperConstructor}
use Rattle.jav_names.specs.Views.{ViewField, DeclarationKind, instance_method, static_method, constructor, ViewDeclaration, View, IsOrdered, Found}
use Rattle.jav_names.proofs.Lists.{All-from_each, Decides-not, Decides-fails, list_any-decides, find-none, find-holds_of_none, find-least, least-find}
use Rattle.jav_names.proofs.NearestMembers.{nearest-is, is-nearest, nearest-has_none, has_none-nearest}
use Rattle.jav_names.proofs.Ways.{same_key, class_above-is, is-class_above, is_outside-decides, ends_outside-decides}

-- ---- fields

module _ {C M : Type 0} (view : View C M) (ordered : IsOrdered view) (class : C) (name : Name) where
  abbrev field_here : Option (ViewField C M)
  field_here = nearest view (λ f. f.owner) (λ f. bytes_eq f.name name) view.fields (way view class)

  field-is : (field : ViewField C M) → field_here ≡ Some field
      → IsNearestField view class name field
  field-is = nearest-is view ordered.classes ordered.order (λ f. f.owner) (λ f. f.key) (λ f. f.name ≡ name) (λ f. bytes_eq f.name name)
      (λ f. bytes_eq-Decides f.name name) view.fields ordered.fields class

  is-field : (field : ViewField C M) → IsNearestField view class name field
      → field_here ≡ Some field
  is-field = is-nearest view ordered.classes ordered.order (λ f. f.owner) (λ f. f.key) (λ f. f.name ≡ name) (λ f. bytes_eq f.name name)
      (λ f. bytes_eq-Decides f.name name) view.fields ordered.fields class

  field-none : field_here ≡ None → HasNoField view class name
  field-none = nearest-has_none view ordered.classes ordered.order (λ f. f.owner) (λ f. f.key) (λ f. f.name ≡ name)
      (λ f. bytes_eq f.name name) (λ f. bytes_eq-Decides f.name name) view.fields ordered.fields class

  none-field : HasNoField view class name → field_here ≡ None
  none-field = has_none-nearest view ordered.classes ordered.order (λ f. f.owner) (λ f. f.key) (λ f. f.name ≡ name)
      (λ f. bytes_eq f.name name) (λ f. bytes_eq-Decides f.name name) view.fields ordered.fields class

  ends_tests : Decides (ends_outside view class) (EndsOutside view class)
  ends_tests = ends_outside-decides view ordered.classes class

  reads_field : (o : Option (ViewField C M)) → field_here ≡ o → (b : Bool) → ends_outside view class ≡ b
      → ReadsField view class name (found_or o b)
  reads_field (Some field) is b ends = ReadsField.nearest (field-is field is)
  reads_field None none true ends = ReadsField.in_outside_class (field-none none) (ends_tests.0 ends)
  reads_field None none false ends = ReadsField.not_there (field-none none) (Decides-not ends_tests ends)

  only_field : (reading : Found (ViewField C M)) → ReadsField view class name reading → reading ≡ field_from view class name
  only_field reading (ReadsField.nearest {field = field} is) = rw (is-field field is) refl
  only_field reading (ReadsField.in_outside_class none ends) = rw (none-field none, ends_tests.1 ends) refl
  only_field reading (ReadsField.not_there none ends) = rw (none-field none, Decides-fails ends_tests ends) refl

  pub field-answered : IsTheAnswer (ReadsField view class name) (field_from view class name)
  field-answered = record { holds = reads_field _ refl _ refl; only = only_field }

-- ---- methods

not_constructor : (kind : DeclarationKind) → not (is_constructor kind) ≡ true → kind ≢ constructor
not_constructor kind is same = true≢false (sym is ∙ ap (λ k. not (is_constructor k)) same)

constructor_not : (kind : DeclarationKind) → kind ≢ constructor → not (is_constructor kind) ≡ true
constructor_not instance_method differs = refl
constructor_not static_method differs = refl
constructor_not constructor differs = absurd (differs refl)

constructor_tests : (kind : DeclarationKind) → Decides (is_constructor kind) (kind ≡ constructor)
constructor_tests kind = (by_kind kind, λ same. ap is_constructor same) where
  by_kind : (k : DeclarationKind) → is_constructor k ≡ true → k ≡ constructor
  by_kind instance_method is = absurd (true≢false (sym is))
  by_kind static_method is = absurd (true≢false (sym is))
  by_kind constructor is = refl

pub method_tests : {C M : Type 0} (name : Name) (arity : ℕ) (d : ViewDeclaration C M)
    → Decides (is_method name arity d) (IsMethod name arity d)
method_tests {C} {M} name arity d = (parts, whole) where
  parts : is_method name arity d ≡ true → IsMethod name arity d
  parts is =
      let both = and_parts (not (is_constructor d.kind)) (bytes_eq d.name name && d.arity == arity) is in
      let rest = and_parts (bytes_eq d.name name) (d.arity == arity) both.1 in
      record {
        is_method = not_constructor d.kind both.0;
        named = (bytes_eq-Decides d.name name).0 rest.0;
        takes = eqb-true d.arity arity rest.1;
      }

  whole : IsMethod name arity d → is_method name arity d ≡ true
  whole is = and_from _ _ (constructor_not d.kind is.is_method)
      (and_from _ _ ((bytes_eq-Decides d.name name).1 is.named) (eq-eqb d.arity arity is.takes))

module _ {C M : Type 0} (view : View C M) (ordered : IsOrdered view) (class : C) (name : Name) (arity : ℕ) where
  abbrev method_here : Option (ViewDeclaration C M)
  method_here = nearest view (λ d. d.owner) (is_method name arity) view.declarations (way view class)

  method-is : (d : ViewDeclaration C M) → method_here ≡ Some d → IsNearestMethod view class name arity d
  method-is = nearest-is view ordered.classes ordered.order (λ d. d.owner) (λ d. d.key) (IsMethod name arity) (is_method name arity)
      (method_tests name arity) view.declarations ordered.declarations class

  is-method : (d : ViewDeclaration C M) → IsNearestMethod view class name arity d → method_here ≡ Some d
  is-method = is-nearest view ordered.classes ordered.order (λ d. d.owner) (λ d. d.key) (IsMethod name arity) (is_method name arity)
      (method_tests name arity) view.declarations ordered.declarations class

  method-none : method_here ≡ None → HasNoMethod view class name arity
  method-none = nearest-has_none view ordered.classes ordered.order (λ d. d.owner) (λ d. d.key) (IsMethod name arity) (is_method name arity)
      (method_tests name arity) view.declarations ordered.declarations class

  none-method : HasNoMethod view class name arity → method_here ≡ None
  none-method = has_none-nearest view ordered.classes ordered.order (λ d. d.owner) (λ d. d.key) (IsMethod name arity) (is_method name arity)
      (method_tests name arity) view.declarations ordered.declarations class

  past_tests : Decides (ends_outside view class) (EndsOutside view class)
  past_tests = ends_outside-decides view ordered.classes class

  reads_method : (o : Option (ViewDeclaration C M)) → method_here ≡ o → (a b : Bool) → ends_outside view class ≡ a
      → is_object_method name arity ≡ b
      → ReadsMethod view class name arity (found_or o (a || b))
  reads_method (Some d) is a b ends object = ReadsMethod.nearest (method-is d is)
  reads_method None none true b ends object = ReadsMethod.in_outside_class (method-none none) (past_tests.0 ends)
  reads_method None none false true ends object = ReadsMethod.of_object (method-none none) object
  reads_method None none false false ends object =
      ReadsMethod.not_there (method-none none) (Decides-not past_tests ends) (λ is. true≢false (sym is ∙ object))

  only_method : (reading : Found (ViewDeclaration C M)) → ReadsMethod view class name arity reading
      → reading ≡ method_from view class name arity
  only_method reading (ReadsMethod.nearest {declaration = d} is) = rw (is-method d is) refl
  only_method reading (ReadsMethod.in_outside_class none ends) = rw (none-method none, past_tests.1 ends) refl
  only_method reading (ReadsMethod.of_object none object) = rw (none-method none, object, or_right (ends_outside view class) true refl) refl
  only_method reading (ReadsMethod.not_there none ends object) =
      rw (none-method none, Decides-fails past_tests ends, false_from_ne_true (is_object_method name arity) object) refl

  pub method-answered : IsTheAnswer (ReadsMethod view class name arity) (method_from view class name arity)
  method-answered = record { holds = reads_method _ refl _ _ refl refl; only = only_method }

-- ---- the superclass

module _ {C M : Type 0} (view : View C M) (ordered : IsOrdered view) (class : C) where
  outside-not_above : ExtendsOutside view class → class_above view class ≡ None
  outside-not_above extends = rw extends.named refl

  none-above : HasNothingAbove view class → class_above view class ≡ None
  none-above none = by_above (class_above view class) refl where
    by_above : (o : Option C) → class_above view class ≡ o → o ≡ None
    by_above None is = refl
    by_above (Some above) is = absurd (none.none above (class_above-is view ordered.classes class above is))

  no_superclass : class_above view class ≡ None → is_outside (view.superclass class) ≡ false → HasNothingAbove view class
  no_superclass none not_out = record { none = no_class; not_outside = Decides-not (is_outside-decides view class) not_out } where
    no_class : (above : C) → ¬ Extends view class above
    no_class above extends =
        let some : None ≡ Some above = sym none ∙ is-class_above view ordered.classes class above extends in
        absurd (let apart : None ≡ Some above = some in cc)

  out_tests : Decides (is_outside (view.superclass class)) (ExtendsOutside view class)
  out_tests = is_outside-decides view class

module _ {C M : Type 0} (view : View C M) (ordered : IsOrdered view) (class : C) (name : Name) (arity : ℕ) where
  reads_super : (o : Option C) → class_above view class ≡ o → (a b : Bool) → is_outside (view.superclass class) ≡ a
      → is_object_method name arity ≡ b
      → ReadsSuperMethod view class name arity (found_above o (λ above. method_from view above name arity) (a || b))
  reads_super (Some above) is a b out object =
      ReadsSuperMethod.from_above (class_above-is view ordered.classes class above is) (method-answered view ordered above name arity).holds
  reads_super None none true b out object = ReadsSuperMethod.in_outside_class ((out_tests view ordered class).0 out)
  reads_super None none false true out object = ReadsSuperMethod.of_object (no_superclass view ordered class none out) object
  reads_super None none false false out object =
      ReadsSuperMethod.not_there (no_superclass view ordered class none out) (λ is. true≢false (sym is ∙ object))

  only_super : (reading : Found (ViewDeclaration C M)) → ReadsSuperMethod view class name arity reading
      → reading ≡ super_method view class name arity
  only_super reading (ReadsSuperMethod.from_above {above = above} extends reads) =
      rw (is-class_above view ordered.classes class above extends) ((method-answered view ordered above name arity).only reading reads)
  only_super reading (ReadsSuperMethod.in_outside_class extends) =
      rw (outside-not_above view ordered class extends, (out_tests view ordered class).1 extends) refl
  only_super reading (ReadsSuperMethod.of_object none object) =
      rw (none-above view ordered class none, object, or_right (is_outside (view.superclass class)) true refl) refl
  only_super reading (ReadsSuperMethod.not_there none object) =
      rw (
        none-above view ordered class none,
        Decides-fails (out_tests view ordered class) none.not_outside,
        false_from_ne_true
            (is_object_method name arity) object,
      ) refl

  pub super_method-answered : IsTheAnswer (ReadsSuperMethod view class name arity) (super_method view class name arity)
  super_method-answered = record { holds = reads_super _ refl _ _ refl refl; only = only_super }

-- ---- constructors

module _ {C M : Type 0} (view : View C M) (ordered : IsOrdered view) (class : C) where
  declares_tests : (d : ViewDeclaration C M) → Decides (declares_constructor view class d) (IsConstructor class d)
  declares_tests d = (
    parts,
    λ (is : IsConstructor class d). and_from _ _ ((same_key ordered.classes.order d.owner class).1 is.of_class)
        ((constructor_tests d.kind).1 is.is_constructor),
  ) where
    parts : declares_constructor view class d ≡ true → IsConstructor class d
    parts is =
        let both = and_parts (is_eq (view.classes.cmp d.owner class)) (is_constructor d.kind) is in
        record { of_class = (same_key ordered.classes.order d.owner class).0 both.0; is_constructor = (constructor_tests d.kind).0 both.1 }

  takes_tests : (arity : ℕ) (d : ViewDeclaration C M)
      → Decides (declares_constructor view class d && d.arity == arity) (IsConstructorOf class arity d)
  takes_tests arity d =
      (parts, λ (is : IsConstructorOf class arity d). and_from _ _ ((declares_tests d).1 is.declares) (eq-eqb d.arity arity is.takes)) where
        parts : (declares_constructor view class d && d.arity == arity) ≡ true → IsConstructorOf class arity d
        parts is =
            let both = and_parts (declares_constructor view class d) (d.arity == arity) is in
            record { declares = (declares_tests d).0 both.0; takes = eqb-true d.arity arity both.1 }

  default_tests : (arity : ℕ)
      → Decides (not (list_any (declares_constructor view class) view.declarations) && arity == 0) (IsByDefault view class arity)
  default_tests arity = (parts, whole) where
    any : Decides (list_any (declares_constructor view class) view.declarations)
        ((d : ViewDeclaration C M) × Contains view.declarations d × IsConstructor class d)
    any = list_any-decides (IsConstructor class) (declares_constructor view class) declares_tests view.declarations

    parts : (not (list_any (declares_constructor view class) view.declarations) && arity == 0) ≡ true → IsByDefault view class arity
    parts is =
        let both = and_parts (not (list_any (declares_constructor view class) view.declarations)) (arity == 0) is in
        record {
          none_declared = All-from_each (λ d. ¬ IsConstructor class d) view.declarations
              (λ d of-d declares. Decides-not any (not-true _ both.0) (d, of-d, declares));
          takes_none = eqb-true arity 0 both.1;
        }

    whole : IsByDefault view class arity → (not (list_any (declares_constructor view class) view.declarations) && arity == 0) ≡ true
    whole default = and_from _ _
        (not_from_false _ (Decides-fails any
        (λ some. All-contains (λ d. ¬ IsConstructor class d) view.declarations some.0 default.none_declared some.1 some.2)))
        (eq-eqb arity 0 default.takes_none)

module _ {C M : Type 0} (view : View C M) (ordered : IsOrdered view) (class : C) (arity : ℕ) where
  abbrev constructor_here : Option (ViewDeclaration C M)
  constructor_here = find (λ d. declares_constructor view class d && d.arity == arity) view.declarations

  abbrev is_default : Bool
  is_default = not (list_any (declares_constructor view class) view.declarations) && arity == 0

  constructor-is : (d : ViewDeclaration C M) → constructor_here ≡ Some d
      → IsLeast view.member_cmp (λ e. e.key) (IsConstructorOf class arity) view.declarations d
  constructor-is d is =
      find-least view.member_cmp (λ e. e.key) ordered.order (IsConstructorOf class arity)
      (λ e. declares_constructor view class e && e.arity == arity) (takes_tests view ordered class arity)
      view.declarations d ordered.declarations is

  is-constructor : (d : ViewDeclaration C M) → IsLeast view.member_cmp (λ e. e.key) (IsConstructorOf class arity) view.declarations d
      → constructor_here ≡ Some d
  is-constructor d is =
      least-find view.member_cmp (λ e. e.key) ordered.order (IsConstructorOf class arity)
      (λ e. declares_constructor view class e && e.arity == arity) (takes_tests view ordered class arity)
      view.declarations d ordered.declarations is

  constructor-none : constructor_here ≡ None → HoldsOfNone (IsConstructorOf class arity) view.declarations
  constructor-none = find-none (IsConstructorOf class arity) (λ e. declares_constructor view class e && e.arity == arity)
      (takes_tests view ordered class arity) view.declarations

  none-constructor : HoldsOfNone (IsConstructorOf class arity) view.declarations → constructor_here ≡ None
  none-constructor = find-holds_of_none (IsConstructorOf class arity) (λ e. declares_constructor view class e && e.arity == arity)
      (takes_tests view ordered class arity) view.declarations

  -- what a default constructor excludes
  default-none : IsByDefault view class arity → HoldsOfNone (IsConstructorOf class arity) view.declarations
  default-none default = All-from_each (λ d. ¬ IsConstructorOf class arity d) view.declarations
      (λ d of-d is. All-contains (λ e. ¬ IsConstructor class e) view.declarations d default.none_declared of-d is.declares)

  reads_constructor : (o : Option (ViewDeclaration C M)) → constructor_here ≡ o → (b : Bool) → is_default ≡ b
      → ReadsConstructor view class arity (constructor_or class o b)
  reads_constructor (Some d) is b default = ReadsConstructor.declared (constructor-is d is)
  reads_constructor None none true default = ReadsConstructor.by_default ((default_tests view ordered class arity).0 default)
  reads_constructor None none false default =
      ReadsConstructor.not_there (constructor-none none) (Decides-not (default_tests view ordered class arity) default)

  only_constructor : (reading : Found (Constructor C M)) → ReadsConstructor view class arity reading
      → reading ≡ constructor_from view class arity
  only_constructor reading (ReadsConstructor.declared {declaration = d} is) = rw (is-constructor d is) refl
  only_constructor reading (ReadsConstructor.by_default default) =
      rw (none-constructor (default-none default), (default_tests view ordered class arity).1 default) refl
  only_constructor reading (ReadsConstructor.not_there none default) =
      rw (none-constructor none, Decides-fails (default_tests view ordered class arity) default) refl

  pub constructor-answered : IsTheAnswer (ReadsConstructor view class arity) (constructor_from view class arity)
  constructor-answered = record { holds = reads_constructor _ refl _ refl; only = only_constructor }

module _ {C M : Type 0} (view : View C M) (ordered : IsOrdered view) (class : C) (arity : ℕ) where
  reads_above : (o : Option C) → class_above view class ≡ o → (b : Bool) → is_outside (view.superclass class) ≡ b
      → ReadsSuperConstructor view class arity (found_above o (λ above. constructor_from view above arity) b)
  reads_above (Some above) is b out =
      ReadsSuperConstructor.from_above (class_above-is view ordered.classes class above is)
      (constructor-answered view ordered above arity).holds
  reads_above None none true out = ReadsSuperConstructor.in_outside_class ((out_tests view ordered class).0 out)
  reads_above None none false out = ReadsSuperConstructor.not_there (no_superclass view ordered class none out)

  only_above : (reading : Found (Constructor C M)) → ReadsSuperConstructor view class arity reading
      → reading ≡ super_constructor view class arity
  only_above reading (ReadsSuperConstructor.from_above {above = above} extends reads) =
      rw (is-class_above view ordered.classes class above extends) ((constructor-answered view ordered above arity).only reading reads)
  only_above reading (ReadsSuperConstructor.in_outside_class extends) =
      rw (outside-not_above view ordered class extends, (out_tests view ordered class).1 extends) refl
  only_above reading (ReadsSuperConstructor.not_there none) =
      rw (none-above view ordered class none, Decides-fails (out_tests view ordered class) none.not_outside) refl

  pub super_constructor-answered : IsTheAnswer (ReadsSuperConstructor view class arity) (super_constructor view class arity)
  super_constructor-answered = record { holds = reads_above _ refl _ refl; only = only_above }
