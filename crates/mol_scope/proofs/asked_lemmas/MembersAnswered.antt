-- What members stand for, by what is found of them.
use Rattle.std.proofs.Common.{◌≡◌, ℕ, Bool, true, false, cond, Option, Some, None, option_map, refl, sym, ◌∙◌, ap}
use Rattle.std.specs.FinMap.{get}
use Rattle.jav_scope.specs.Answers.{answered}
use Rattle.jav_scope.specs.declared.found.Found.{Found}
use Rattle.jav_scope.specs.declared.found.Found.TheVariants as answer
use Rattle.jav_names.specs.DottedNames.{Name}
use Rattle.jav_names.specs.LookUps.{constructor_from, field_from, method_from, on_instance, static_of}
use Rattle.jav_names.specs.Members.{Constructor, declared_constructor, default_constructor}
use Rattle.jav_names.specs.OnValues.{OnValue, is_static_kind, missing_member, outside_member}
use Rattle.jav_names.specs.Views.{View, ViewDeclaration, ViewField, Found as Result, found, outside, not_found}
use Rattle.mol_scope.proofs.asked_lemmas.FoundMembers.{declaration-kind, default-own, field-stands, field-static, is_static_field, method-stands}
use Rattle.mol_scope.specs.asked.Places.{IsFoundIn, program_of, reader_of}
use Rattle.mol_scope.specs.declared.asked.place.NamePlace.{NamePlace}
use Rattle.mol_base.specs.declared.ident.Id.{Id}
use Rattle.mol_scope_members.specs.declaring.Indexed.{constructor_id}
use Rattle.mol_spell_rules.specs.references.References.{Target, default_target, field_target, method_target, outside_target}
use Rattle.mol_resolve_rules.specs.ProgramViews.{kind_in, method_at, program_view}
use Rattle.mol_resolve_rules.specs.Readers.{Reader}
use Rattle.mol_resolve_rules.specs.ReadTrees.{whole_path}
use Rattle.mol_spell_rules.specs.Answers.{call_answer, constructor_answer, field_of, field_through_answer, method_of, method_through_answer, on_value_answer, super_method_answer}
use Rattle.mol_table_rules.specs.Program.{Program}

-- a member of an array: outside, or missing
pub array-member : {X : Type 0} (reader : Reader Id Id) (name : Name) (target : X → Target) (b : Bool)
    → cond b (Some (outside_target name)) None ≡ on_value_answer reader name target (cond b outside_member missing_member)
array-member reader name target true = refl
array-member reader name target false = refl

module _ (place : NamePlace) where
  abbrev program : Program
  program = program_of place

  abbrev view : View Id Id
  view = program_view program

  abbrev reader : Reader Id Id
  reader = reader_of place

  -- ---- fields

  abbrev pub field_key : Result (ViewField Id Id) → Found Id
  field_key = answered (λ (field : ViewField Id Id). field.key)

  module _ (class : Id) (name : Name) where
    abbrev fields : Result (ViewField Id Id)
    fields = field_from view class name

    static-is : (field : ViewField Id Id) → fields ≡ found field → is_static_field program field.key ≡ field.is_static
    static-is field there = sym (field-static program field (field-stands program class name field there))

    abbrev pub field_through_as : Found Id → Option Target
    field_through_as (answer.Found key) = cond (is_static_field program key) (Some (field_target key)) None
    field_through_as answer.Outside = None
    field_through_as answer.NotFound = None

    pub field-through : (found_as : Found Id) → found_as ≡ field_key fields
        → field_through_as found_as ≡ field_through_answer reader name (whole_path class)
    field-through found_as is = ap field_through_as is ∙ by fields refl where
      chosen : (field : ViewField Id Id) (b : Bool) → cond b (Some (field_target field.key)) None
          ≡ option_map (field_of reader) (cond b (Some field) None)
      chosen field true = refl
      chosen field false = refl

      by : (read : Result (ViewField Id Id)) → fields ≡ read → field_through_as (field_key read)
          ≡ option_map (field_of reader) (static_of (λ (field : ViewField Id Id). field.is_static) read)
      by (found field) there = ap (λ b. cond b (Some (field_target field.key)) None) (static-is field there) ∙ chosen field field.is_static
      by outside there = refl
      by not_found there = refl

    abbrev pub field_on_as : Found Id → Option Target
    field_on_as (answer.Found key) = cond (is_static_field program key) None (Some (field_target key))
    field_on_as answer.Outside = Some (outside_target name)
    field_on_as answer.NotFound = None

    pub field-on : (found_as : Found Id) → found_as ≡ field_key fields → field_on_as found_as
        ≡ on_value_answer reader name (field_of reader) (on_instance (λ (field : ViewField Id Id). field.is_static) fields)
    field-on found_as is = ap field_on_as is ∙ by fields refl where
      chosen : (field : ViewField Id Id) (b : Bool) → cond b None (Some (field_target field.key))
          ≡ on_value_answer reader name (field_of reader) (cond b (OnValue.static_member field) (OnValue.member field))
      chosen field true = refl
      chosen field false = refl

      by : (read : Result (ViewField Id Id)) → fields ≡ read → field_on_as (field_key read)
          ≡ on_value_answer reader name (field_of reader) (on_instance (λ (field : ViewField Id Id). field.is_static) read)
      by (found field) there = ap (λ b. cond b None (Some (field_target field.key))) (static-is field there) ∙ chosen field field.is_static
      by outside there = refl
      by not_found there = refl

  -- ---- methods

  abbrev pub declaration_key : Result (ViewDeclaration Id Id) → Found Id
  declaration_key = answered (λ (declared : ViewDeclaration Id Id). declared.key)

  abbrev pub is_static_method : Id → Bool
  is_static_method method = is_static_kind (kind_in (get program.known method))

  kind-is : (read : Result (ViewDeclaration Id Id)) → IsFoundIn program read → (declared : ViewDeclaration Id Id) → read ≡ found declared
      → is_static_method (method_at program declared.key) ≡ is_static_kind declared.kind
  kind-is read stands declared there = ap is_static_kind (sym (declaration-kind program declared (stands declared there)))

  module _ (name : Name) where
    -- without anything before it
    abbrev pub call_as : Found Id → Option Target
    call_as (answer.Found key) = Some (method_target (method_at program key))
    call_as answer.Outside = Some (outside_target name)
    call_as answer.NotFound = None

    pub call-is : (read : Result (ViewDeclaration Id Id)) (found_as : Found Id) → found_as ≡ declaration_key read
        → call_as found_as ≡ call_answer reader name read
    call-is read found_as is = ap call_as is ∙ by read where
      by : (read : Result (ViewDeclaration Id Id)) → call_as (declaration_key read) ≡ call_answer reader name read
      by (found declared) = refl
      by outside = refl
      by not_found = refl

    -- no static one
    abbrev pub instance_as : Found Id → Option Target
    instance_as (answer.Found key) =
        cond (is_static_method (method_at program key)) None (Some (method_target (method_at program key)))
    instance_as answer.Outside = Some (outside_target name)
    instance_as answer.NotFound = None

    pub instance-is : (read : Result (ViewDeclaration Id Id)) → IsFoundIn program read → (found_as : Found Id)
        → found_as ≡ declaration_key read → instance_as found_as ≡ super_method_answer reader name read
    instance-is read stands found_as is = ap instance_as is ∙ by read refl where
      by : (other : Result (ViewDeclaration Id Id)) → read ≡ other
          → instance_as (declaration_key other) ≡ super_method_answer reader name other
      by (found declared) there = ap (λ b. cond b None (Some (method_target (method_at program declared.key))))
          (kind-is read stands declared there)
      by outside there = refl
      by not_found there = refl

    -- of a value it is what it is after `super.`
    pub method-on : (read : Result (ViewDeclaration Id Id)) → super_method_answer reader name read
        ≡ on_value_answer reader name (method_of reader)
        (on_instance (λ (declared : ViewDeclaration Id Id). is_static_kind declared.kind) read)
    method-on (found declared) = by (is_static_kind declared.kind) where
      by : (b : Bool) → cond b None (Some (method_of reader declared))
          ≡ on_value_answer reader name (method_of reader) (cond b (OnValue.static_member declared) (OnValue.member declared))
      by true = refl
      by false = refl
    method-on outside = refl
    method-on not_found = refl

    -- through the name of a class
    abbrev pub method_through_as : Found Id → Option Target
    method_through_as (answer.Found key) =
        cond (is_static_method (method_at program key)) (Some (method_target (method_at program key))) None
    method_through_as answer.Outside = None
    method_through_as answer.NotFound = None

    pub method-through : (class : Id) (arity : ℕ) (found_as : Found Id) → found_as ≡ declaration_key (method_from view class name arity)
        → method_through_as found_as ≡ method_through_answer reader name arity (whole_path class)
    method-through class arity found_as is = ap method_through_as is ∙ by (method_from view class name arity) refl where
      chosen : (declared : ViewDeclaration Id Id) (b : Bool) → cond b (Some (method_of reader declared)) None
          ≡ option_map (method_of reader) (cond b (Some declared) None)
      chosen declared true = refl
      chosen declared false = refl

      by : (other : Result (ViewDeclaration Id Id)) → method_from view class name arity ≡ other → method_through_as (declaration_key other)
          ≡ option_map (method_of reader) (static_of (λ (declared : ViewDeclaration Id Id). is_static_kind declared.kind) other)
      by (found declared) there =
          ap (λ b. cond b (Some (method_of reader declared)) None)
          (kind-is (method_from view class name arity) (method-stands program class name arity) declared there)
          ∙ chosen declared (is_static_kind declared.kind)
      by outside there = refl
      by not_found there = refl

    -- ---- constructors

    abbrev pub constructor_as : Id → Found (Option Id) → Option Target
    constructor_as class (answer.Found (Some key)) = Some (method_target (method_at program key))
    constructor_as class (answer.Found None) = Some (default_target class)
    constructor_as class answer.Outside = Some (outside_target name)
    constructor_as class answer.NotFound = None

    pub constructor-is : (class : Id) (arity : ℕ) (found_as : Found (Option Id))
        → found_as ≡ answered constructor_id (constructor_from view class arity)
        → constructor_as class found_as ≡ constructor_answer reader name (constructor_from view class arity)
    constructor-is class arity found_as is = ap (constructor_as class) is ∙ by (constructor_from view class arity) refl where
      by : (other : Result (Constructor Id Id)) → constructor_from view class arity ≡ other
          → constructor_as class (answered constructor_id other) ≡ constructor_answer reader name other
      by (found (declared_constructor declared)) there = refl
      by (found (default_constructor of_class)) there =
          ap (λ c. Some (default_target c)) (sym (default-own program class arity of_class there))
      by outside there = refl
      by not_found there = refl
