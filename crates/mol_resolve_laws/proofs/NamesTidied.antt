-- What a name, a member, a call or a creation reads as stays as it is when it is tidied.
use Rattle.std.proofs.Common.{◌≡◌, inl, ℕ, Bool, true, false, if◌then◌else◌, List, length, Option, Some, None, slice_get, Contains, refl, sym, ◌∙◌}
use Rattle.mol_base.specs.declared.ident.Id.{Id}
use Rattle.jav_names.proofs.FoundNames.{names_stand}
use Rattle.jav_names.proofs.NamesAnswered.{names_answered}
use Rattle.jav_names.specs.Ancestors.{HasClass}
use Rattle.jav_names.specs.DottedNames.{Name}
use Rattle.jav_names.specs.Leftmost.{Leftmost, leftmost_variable, leftmost_class, leftmost_import, leftmost_outside}
use Rattle.jav_names.specs.LookUps.{variable, leftmost, method_from, super_method, constructor_from, method_on, method_through}
use Rattle.jav_names.specs.Members.{Constructor, declared_constructor, default_constructor}
use Rattle.jav_names.specs.OnValues.{StaticType, outside_value, OnValue, member, static_member, outside_member, missing_member, has_no_members, unread_member, OnIndex, indexed, not_indexed, unread_index, is_static_kind}
use Rattle.jav_names.specs.Standing.{IsConstructorIn}
use Rattle.jav_names.specs.StaticTypes.{of_type}
use Rattle.jav_names.specs.Variables.{Variable, local_variable, parameter_variable, field_variable}
use Rattle.jav_names.specs.Views.{ViewType, primitive_type, void_type, class_type, outside_type, array_type, unread_type, ViewField, ViewDeclaration, Found, found, outside, not_found}
use Rattle.mol_resolve_rules.specs.FaultKinds.{unknown_name, unknown_member, static_by_instance, receiver_type}
use Rattle.mol_resolve_rules.specs.Locals.{Locals}
use Rattle.mol_resolve_rules.specs.Outcomes.{refused, given}
use Rattle.mol_resolve_rules.specs.Readers.{Parameter, Reader, place_of}
use Rattle.mol_resolve_rules.specs.ReadTrees.{Meant, Mode, with_params, meant, valued, local_meant, param_meant, field_word, variable_meant, name_alone, name_before, name_meant, static_field_meant, front_meant, field_on_word, field_meant, arguments_of, static_call, own_call, call_here, call_through, call_on, super_call, class_created, created, index_meant}
use Rattle.mol_resolve_rules.specs.ReadTypes.{ReadType}
use Rattle.mol_values_types.specs.declared.iexpr.IExpr.{IExpr}
use Rattle.mol_values_types.specs.declared.iexpr.IExpr.TheVariants as exprs
use Rattle.mol_values_types.specs.declared.param.Param.{Param}
use Rattle.mol_resolve_laws.proofs.Gives.{Gives, gives-fine, gives-refused, gives-silent, gives-given}
use Rattle.mol_resolve_laws.proofs.NamesRight.{answered}
use Rattle.mol_resolve_laws.proofs.Right.{ReadsRightly}
use Rattle.mol_resolve_laws.proofs.TreesTidied.{IsTidied, AreTidied, AreFound, tidied-Local, tidied-Param, tidied-Own, tidied-StaticField, tidied-Field, tidied-OutsideName, tidied-OutsideClass, tidied-OutsideField, tidied-Index, tidied-Call, tidied-StaticCall, tidied-SuperCall, tidied-New, tidied-CallOn, tidied-NewDefault, tidied-OutsideCall, tidied-OutsideSuperCall, tidied-OutsideCallOn, tidied-NewOutside}

-- In a place where trees are read, what is found for a call takes the parameters that its method has, and a class that is created by
-- default has no constructor without parameters.
pub record ReadsTidily {C M : Type 0} (present : Id → List Param) (bare : Id → Option Id) (reader : Reader C M)
    : Type 0 where
  pub rightly : ReadsRightly (λ mention. true) reader
  pub calls : (declared : ViewDeclaration C M) → Contains reader.view.declarations declared → (es : List IExpr)
      → length es ≡ declared.arity
      → AreFound present bare (reader.ids.method_id declared) (with_params (reader.ids.param_ids declared) es)
  pub defaults : (class : C) (arity : ℕ) → IsConstructorIn reader.view class arity (default_constructor class)
      → bare (reader.ids.class_id class) ≡ None

module _ {C M : Type 0} (present : Id → List Param) (bare : Id → Option Id) (reader : Reader C M)
    (tidy : ReadsTidily present bare reader) where
  abbrev pub Tidied : Meant C → Type 0
  Tidied value = IsTidied present bare value.tree

  -- so many values
  pub record Listed (count : ℕ) (es : List IExpr) : Type 0 where
    pub each : AreTidied present bare es
    pub as_many : length es ≡ count

  pub gives-valued : (tree : IExpr) (type : StaticType C) → IsTidied present bare tree → Gives Tidied (valued reader tree type)
  gives-valued tree type is = gives-fine Tidied (meant reader tree type) is

  -- ---- variables

  gives-local : (locals : Locals C) (number : Option ℕ) → Gives Tidied (local_meant reader locals number)
  gives-local locals None = gives-silent Tidied
  gives-local locals (Some number) = gives-valued (exprs.Local number) _ (tidied-Local present bare number)

  gives-param : (param : Option (Parameter C)) → Gives Tidied (param_meant reader param)
  gives-param None = gives-silent Tidied
  gives-param (Some param) = gives-valued (exprs.Param param.id) _ (tidied-Param present bare param.id)

  tidied-word : (is_static : Bool) (id : Id) → IsTidied present bare (field_word reader is_static id)
  tidied-word true id = tidied-StaticField present bare id
  tidied-word false id = tidied-Own present bare id

  gives-variable : (locals : Locals C) (v : Variable C M) → Gives Tidied (variable_meant reader locals v)
  gives-variable locals (local_variable place) = gives-local locals (slice_get locals.in_scope place)
  gives-variable locals (parameter_variable place) = gives-param (slice_get reader.params place)
  gives-variable locals (field_variable field) = gives-valued (field_word reader field.is_static (reader.ids.member_id field.key)) _
      (tidied-word field.is_static (reader.ids.member_id field.key))

  gives-alone : (at : ℕ) (name : Name) (locals : Locals C) (f : Found (Variable C M)) → Gives Tidied (name_alone reader at name locals f)
  gives-alone at name locals (found v) = gives-variable locals v
  gives-alone at name locals outside = gives-valued (exprs.OutsideName name) _ (tidied-OutsideName present bare name)
  gives-alone at name locals not_found = gives-refused Tidied unknown_name at

  gives-before : (name : Name) (locals : Locals C) (l : Leftmost C M) → Gives Tidied (name_before reader name locals l)
  gives-before name locals (leftmost_variable v) = gives-variable locals v
  gives-before name locals (leftmost_class class spelling) = gives-silent Tidied
  gives-before name locals (leftmost_import import) = gives-valued (exprs.OutsideClass import) _ (tidied-OutsideClass present bare import)
  gives-before name locals leftmost_outside = gives-valued (exprs.OutsideName name) _ (tidied-OutsideName present bare name)

  pub gives-name : (at : ℕ) (name : Name) (locals : Locals C) (mode : Mode) → Gives Tidied (name_meant reader at name locals mode)
  gives-name at name locals None = gives-alone at name locals (variable reader.view (place_of reader locals) name)
  gives-name at name locals (Some follow) = gives-before name locals (leftmost reader.view (place_of reader locals) name follow)

  -- ---- fields

  pub gives-static_field : (at : ℕ) (o : Option (ViewField C M)) → Gives Tidied (static_field_meant reader at o)
  gives-static_field at None = gives-refused Tidied unknown_member at
  gives-static_field at (Some field) = gives-valued (exprs.StaticField (reader.ids.member_id field.key)) _
      (tidied-StaticField present bare (reader.ids.member_id field.key))

  pub gives-front : (at : ℕ) (mode : Mode) → Gives Tidied (front_meant reader at mode)
  gives-front at None = gives-refused Tidied unknown_member at
  gives-front at (Some follow) = gives-silent Tidied

  module _ (value : Meant C) (is : Tidied value) where
    tidied-on : (is_this : Bool) (id : Id) → IsTidied present bare (if is_this then exprs.Own id else exprs.Field id value.tree)
    tidied-on true id = tidied-Own present bare id
    tidied-on false id = tidied-Field present bare id value.tree is

    pub gives-field_on : (at : ℕ) (name : Name) (o : OnValue (ViewField C M)) → Gives Tidied (field_meant reader at name value o)
    gives-field_on at name (member field) = gives-valued (field_on_word reader value (reader.ids.member_id field.key)) _
        (tidied-on value.is_this (reader.ids.member_id field.key))
    gives-field_on at name (static_member field) = gives-refused Tidied static_by_instance at
    gives-field_on at name outside_member = gives-valued (exprs.OutsideField name value.tree) _
        (tidied-OutsideField present bare name value.tree is)
    gives-field_on at name missing_member = gives-refused Tidied unknown_member at
    gives-field_on at name has_no_members = gives-refused Tidied receiver_type at
    gives-field_on at name unread_member = gives-silent Tidied

    pub gives-index : (at : ℕ) (index : Option (Meant C)) → ((i : Meant C) → index ≡ Some i → Tidied i) → (o : OnIndex)
        → Gives Tidied (index_meant reader at value index o)
    gives-index at index is-index indexed = gives-given Tidied Tidied index _ is-index
        (λ i of. gives-valued (exprs.Index value.tree i.tree) _ (tidied-Index present bare value.tree i.tree is of))
    gives-index at index is-index not_indexed = gives-refused Tidied receiver_type at
    gives-index at index is-index unread_index = gives-silent Tidied

  -- ---- calls

  module _ (declared : ViewDeclaration C M) (stands : Contains reader.view.declarations declared) (es : List IExpr)
      (are : Listed declared.arity es) where
    abbrev method : Id
    method = reader.ids.method_id declared

    abbrev param_ids : List Id
    param_ids = reader.ids.param_ids declared

    pub called : AreFound present bare method (with_params param_ids es)
    called = tidy.calls declared stands es are.as_many

    gives-static_call : Gives Tidied (static_call reader declared es)
    gives-static_call = gives-valued _ _ (tidied-StaticCall present bare es are.each method param_ids called)

    gives-own_call : Gives Tidied (own_call reader declared es)
    gives-own_call = gives-valued _ _ (tidied-Call present bare es are.each method param_ids called)

    gives-either_call : (static : Bool) → Gives Tidied (if static then static_call reader declared es else own_call reader declared es)
    gives-either_call true = gives-static_call
    gives-either_call false = gives-own_call

    gives-call_of : (value : Meant C) → Tidied value → (is_this : Bool) → Gives Tidied (if is_this then own_call reader declared es
        else valued reader (exprs.CallOn method value.tree (arguments_of reader declared es)) (of_type declared.result))
    gives-call_of value is true = gives-own_call
    gives-call_of value is false = gives-valued _ _ (tidied-CallOn present bare es are.each method param_ids called value.tree is)

    gives-super : Gives Tidied (valued reader (exprs.SuperCall method (arguments_of reader declared es)) (of_type declared.result))
    gives-super = gives-valued _ _ (tidied-SuperCall present bare es are.each method param_ids called)

    gives-new : (type : StaticType C) → Gives Tidied (valued reader (exprs.New method (arguments_of reader declared es)) type)
    gives-new type = gives-valued _ _ (tidied-New present bare es are.each method param_ids called)

  -- as many as a declaration takes
  takes : {count : ℕ} {es : List IExpr} (declared : ViewDeclaration C M) → declared.arity ≡ count → Listed count es
      → Listed declared.arity es
  takes declared same are = record { each = are.each; as_many = are.as_many ∙ sym same }

  module _ (arity : ℕ) (args : Option (List IExpr)) (given-right : (es : List IExpr) → args ≡ Some es → Listed arity es) where
    pub gives-call_here : (at : ℕ) (name : Name) (class : C)
        → Gives Tidied (call_here reader at name args (method_from reader.view class name arity))
    gives-call_here at name class = by (method_from reader.view class name arity) refl where
      by : (f : Found (ViewDeclaration C M)) → method_from reader.view class name arity ≡ f
          → Gives Tidied (call_here reader at name args f)
      by (found declared) is =
          let stands = (names_stand C M).methods reader.view class name arity declared
          (answered ((names_answered C M).methods reader.view class name arity tidy.rightly.ordered) (found declared) is) in
          gives-given (Listed arity) Tidied args _ given-right (λ es are. gives-either_call declared stands.stands es
          (takes declared stands.is_method.takes are) (is_static_kind declared.kind))
      by outside is = gives-given (Listed arity) Tidied args _ given-right
          (λ es are. gives-valued (exprs.OutsideCall name es) _ (tidied-OutsideCall present bare es are.each name))
      by not_found is = gives-refused Tidied unknown_member at

    pub gives-call_through : (at : ℕ) (name : Name) (class : C)
        → Gives Tidied (call_through reader at args (method_through reader.view class name arity))
    gives-call_through at name class = by (method_through reader.view class name arity) refl where
      by : (o : Option (ViewDeclaration C M)) → method_through reader.view class name arity ≡ o
          → Gives Tidied (call_through reader at args o)
      by None is = gives-refused Tidied unknown_member at
      by (Some declared) is =
          let stands = (names_stand C M).static_methods reader.view class name arity declared
          (answered ((names_answered C M).static_methods reader.view class name arity tidy.rightly.ordered) (Some declared) is) in
          gives-given (Listed arity) Tidied args _ given-right
          (λ es are. gives-static_call declared stands.stands es (takes declared stands.is_method.takes are))

    pub gives-call_on : (at : ℕ) (name : Name) (value : Meant C) → Tidied value
        → Gives Tidied (call_on reader at name value args (method_on reader.view name arity value.static_type))
    gives-call_on at name value is-value = by (method_on reader.view name arity value.static_type) refl where
      by : (o : OnValue (ViewDeclaration C M)) → method_on reader.view name arity value.static_type ≡ o
          → Gives Tidied (call_on reader at name value args o)
      by (member declared) is =
          let stands = (names_stand C M).methods_on reader.view name arity value.static_type declared
          (inl (answered ((names_answered C M).methods_on reader.view name arity value.static_type tidy.rightly.ordered)
          (member declared) is)) in
          gives-given (Listed arity) Tidied args _ given-right (λ es are. gives-call_of declared stands.2.stands es
          (takes declared stands.2.is_method.takes are) value is-value value.is_this)
      by (static_member declared) is = gives-refused Tidied static_by_instance at
      by outside_member is = gives-given (Listed arity) Tidied args _ given-right
          (λ es are. gives-valued (exprs.OutsideCallOn name value.tree es) _
          (tidied-OutsideCallOn present bare es are.each name value.tree is-value))
      by missing_member is = gives-refused Tidied unknown_member at
      by has_no_members is = gives-refused Tidied receiver_type at
      by unread_member is = gives-silent Tidied

    pub gives-super_call : (at : ℕ) (name : Name) (class : C)
        → Gives Tidied (super_call reader at name args (super_method reader.view class name arity))
    gives-super_call at name class = by (super_method reader.view class name arity) refl where
      with-kind : (declared : ViewDeclaration C M) → Contains reader.view.declarations declared → declared.arity ≡ arity → (static : Bool)
          → Gives Tidied (if static then refused static_by_instance at else given args (λ (es : List IExpr).
          valued reader (exprs.SuperCall (reader.ids.method_id declared) (arguments_of reader declared es)) (of_type declared.result)))
      with-kind declared stands same true = gives-refused Tidied static_by_instance at
      with-kind declared stands same false = gives-given (Listed arity) Tidied args _ given-right
          (λ es are. gives-super declared stands es (takes declared same are))

      by : (f : Found (ViewDeclaration C M)) → super_method reader.view class name arity ≡ f
          → Gives Tidied (super_call reader at name args f)
      by (found declared) is =
          let stands = (names_stand C M).super_methods reader.view class name arity declared
          (answered ((names_answered C M).super_methods reader.view class name arity tidy.rightly.ordered) (found declared) is) in
          with-kind declared stands.2.stands stands.2.is_method.takes (is_static_kind declared.kind)
      by outside is = gives-given (Listed arity) Tidied args _ given-right
          (λ es are. gives-valued (exprs.OutsideSuperCall name es) _ (tidied-OutsideSuperCall present bare es are.each name))
      by not_found is = gives-refused Tidied unknown_member at

    -- ---- creations

    gives-class_created : (at : ℕ) (class : C) → HasClass reader.view.classes class
        → Gives Tidied (class_created reader at class args (constructor_from reader.view class arity))
    gives-class_created at class has = by (constructor_from reader.view class arity) refl where
      stands-in : (c : Constructor C M) → constructor_from reader.view class arity ≡ found c → IsConstructorIn reader.view class arity c
      stands-in c is = (names_stand C M).constructors reader.view class arity c has
          (answered ((names_answered C M).constructors reader.view class arity tidy.rightly.ordered) (found c) is)

      declares : (declared : ViewDeclaration C M) → IsConstructorIn reader.view class arity (declared_constructor declared)
          → Contains reader.view.declarations declared × (declared.arity ≡ arity)
      declares declared (IsConstructorIn.is_declared stands of) = (stands, of.takes)

      default : (created : C) → IsConstructorIn reader.view class arity (default_constructor created)
          → bare (reader.ids.class_id created) ≡ None
      default created (IsConstructorIn.is_default stands by_default) =
          tidy.defaults created arity (IsConstructorIn.is_default stands by_default)

      by : (f : Found (Constructor C M)) → constructor_from reader.view class arity ≡ f
          → Gives Tidied (class_created reader at class args f)
      by (found (declared_constructor declared)) is =
          let of = declares declared (stands-in (declared_constructor declared) is) in
          gives-given (Listed arity) Tidied args _ given-right (λ es are. gives-new declared of.0 es (takes declared of.1 are) _)
      by (found (default_constructor created)) is = gives-valued (exprs.NewDefault (reader.ids.class_id created)) _
          (tidied-NewDefault present bare (reader.ids.class_id created)
          (default created (stands-in (default_constructor created) is)))
      by outside is = gives-silent Tidied
      by not_found is = gives-refused Tidied unknown_member at

    gives-outside : (type : ReadType C)
        → Gives Tidied (given args (λ (es : List IExpr). valued reader (exprs.NewOutside type.tree es) outside_value))
    gives-outside type = gives-given (Listed arity) Tidied args _ given-right
        (λ es are. gives-valued (exprs.NewOutside type.tree es) _ (tidied-NewOutside present bare es are.each type.tree))

    pub gives-created : (at : ℕ) (type : ReadType C) (seen : ViewType C)
        → ((class : C) → seen ≡ class_type class → HasClass reader.view.classes class)
        → Gives Tidied (created reader at arity type args seen)
    gives-created at type (class_type class) has = gives-class_created at class (has class refl)
    gives-created at type (primitive_type name) has = gives-outside type
    gives-created at type void_type has = gives-outside type
    gives-created at type (outside_type text) has = gives-outside type
    gives-created at type (array_type item) has = gives-outside type
    gives-created at type unread_type has = gives-outside type
