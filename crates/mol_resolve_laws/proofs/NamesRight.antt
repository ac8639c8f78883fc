-- What a name, a member, a call or a creation reads as has the form of its text, and mentions what stands in the view.
use Rattle.std.proofs.Common.{◌≡◌, ◌≢◌, ◌⊎◌, inl, inr, ℕ, ◌≤◌, Bool, true, false, if◌then◌else◌, List, [], ◌++◌, map, length, Option, Some, None, slice_get, Contains, refl, sym, subst, true≢false}
use Rattle.std.proofs.lemmas.Bool.{and_from}
use Rattle.std.specs.List.{list_all}
use Rattle.mol_base.specs.Limits.{max_items}
use Rattle.mol_base.specs.declared.ident.Id.{Id}
use Rattle.jav_tree.specs.PrintableExpressions.{ExprUses, target_where, effect_where}
use Rattle.jav_names.proofs.FoundNames.{names_stand}
use Rattle.jav_names.proofs.NamesAnswered.{names_answered}
use Rattle.jav_names.specs.Ancestors.{HasClass}
use Rattle.jav_names.specs.DottedNames.{Name, Names}
use Rattle.jav_names.specs.Laws.{IsTheAnswer}
use Rattle.jav_names.specs.Leftmost.{Leftmost, leftmost_variable, leftmost_class, leftmost_import, leftmost_outside, ReadsLeftmost}
use Rattle.jav_names.specs.LookUps.{variable, leftmost, method_from, super_method, constructor_from, field_on, method_on, field_through, method_through}
use Rattle.jav_names.specs.Members.{Constructor, declared_constructor, default_constructor, ReadsMethod}
use Rattle.jav_names.specs.OnValues.{StaticType, outside_value, OnValue, member, static_member, outside_member, missing_member, has_no_members, unread_member, Through, OnIndex, indexed, not_indexed, unread_index, is_static_kind}
use Rattle.jav_names.specs.StaticTypes.{of_type}
use Rattle.jav_names.specs.Standing.{IsVariableAt, IsConstructorIn}
use Rattle.jav_names.specs.Types.{imported, ReadsSimple}
use Rattle.jav_names.specs.Variables.{Variable}
use Rattle.jav_names.specs.Views.{ViewType, primitive_type, void_type, class_type, outside_type, array_type, unread_type, ViewField, DeclarationKind, instance_method, static_method, constructor, ViewDeclaration, Found, found, outside, not_found}
use Rattle.mol_resolve_rules.specs.FaultKinds.{unknown_name, unknown_member, static_by_instance, receiver_type}
use Rattle.mol_resolve_rules.specs.Locals.{Locals}
use Rattle.mol_resolve_rules.specs.Outcomes.{refused, given}
use Rattle.mol_resolve_rules.specs.Readers.{Parameter, Reader, place_of}
use Rattle.mol_resolve_rules.specs.ReadTrees.{Meant, Mode, with_params, meant, valued, local_meant, param_meant, field_word, variable_meant, name_alone, name_before, name_meant, static_field_meant, front_meant, field_on_word, field_meant, arguments_of, static_call, own_call, call_here, call_through, call_on, super_call, class_created, created, index_meant}
use Rattle.mol_resolve_rules.specs.ReadTypes.{ReadType}
use Rattle.mol_table_rules.specs.Mentions.{Mention, a_class, a_field, a_called_method, a_static_method, a_constructor, a_param, named, joined, expr_mentions, type_mentions}
use Rattle.mol_values_types.specs.TokenForms.{is_name, is_dotted}
use Rattle.mol_table_rules.specs.TypeForms.{is_outside_class}
use Rattle.mol_values_types.specs.declared.iexpr.IExpr.{IExpr}
use Rattle.mol_values_types.specs.declared.iexpr.IExpr.TheOpen.{IExpr-F}
use Rattle.mol_values_types.specs.declared.iexpr.IExpr.TheVariants as exprs
use Rattle.mol_resolve_rules.proofs.Stands.{in_place}
use Rattle.mol_resolve_laws.proofs.Gives.{Gives, gives-fine, gives-refused, gives-silent, gives-given}
use Rattle.mol_resolve_laws.proofs.Right.{Passes, Takes, ReadsRightly, passes-both, passes-named}
use Rattle.mol_resolve_laws.proofs.TreesRight.{right-target, right-effect, argument_mentions, ExprRight, made, ListRight, argument-mentions, right-arguments, right-outside}

-- what a rule reads, of what its function finds
pub answered : {A : Type 0} {Reads : A → Type 0} {answer : A} → IsTheAnswer Reads answer → (reading : A) → answer ≡ reading → Reads reading
answered {A} {Reads} is reading same = subst Reads same is.holds

static-kind : (kind : DeclarationKind) → is_static_kind kind ≡ true → kind ≡ static_method
static-kind instance_method is = absurd (true≢false (sym is))
static-kind static_method is = refl
static-kind constructor is = absurd (true≢false (sym is))

module _ {C M : Type 0} (test : Mention → Bool) (reader : Reader C M) (right : ReadsRightly test reader) where
  abbrev pub MeantRight : ExprUses → Meant C → Type 0
  MeantRight uses value = ExprRight test uses value.tree

  pub gives-valued : (uses : ExprUses) (tree : IExpr) (type : StaticType C) → ExprRight test uses tree
      → Gives (MeantRight uses) (valued reader tree type)
  gives-valued uses tree type is = gives-fine (MeantRight uses) (meant reader tree type) is

  -- ---- variables

  right-Local : (a : Bool) (number : ℕ) → ExprRight test (target_where a) (exprs.Local number)
  right-Local a number = subst (ExprRight test (target_where a)) (exprs.rolls-Local number)
      (made test (target_where a) (IExpr-F.Local number) (right-target a true (λ is. refl)) refl)

  right-Param : (a : Bool) (id : Id) → ExprRight test (target_where a) (exprs.Param id)
  right-Param a id = subst (ExprRight test (target_where a)) (exprs.rolls-Param id)
      (made test (target_where a) (IExpr-F.Param id) (right-target a true (λ is. refl)) (passes-named test a_param id (right.params id)))

  right-Own : (a : Bool) (id : Id) → Takes test a_field id → ExprRight test (target_where a) (exprs.Own id)
  right-Own a id takes = subst (ExprRight test (target_where a)) (exprs.rolls-Own id)
      (made test (target_where a) (IExpr-F.Own id) (right-target a true (λ is. refl)) (passes-named test a_field id takes))

  right-StaticField : (a : Bool) (id : Id) → Takes test a_field id → ExprRight test (target_where a) (exprs.StaticField id)
  right-StaticField a id takes = subst (ExprRight test (target_where a)) (exprs.rolls-StaticField id)
      (made test (target_where a) (IExpr-F.StaticField id) (right-target a true (λ is. refl)) (passes-named test a_field id takes))

  right-Field : (a : Bool) (id : Id) (uses : ExprUses) (e : IExpr) → Takes test a_field id → ExprRight test uses e
      → (a ≡ true → uses.is_value ≡ true) → ExprRight test (target_where a) (exprs.Field id e)
  right-Field a id uses e takes r of-value = subst (ExprRight test (target_where a)) (exprs.rolls-Field id e)
      (made test (target_where a) (IExpr-F.Field id e) (right-target a _ (λ is. r.shape.value (of-value is)))
      (passes-both test (named a_field id) (expr_mentions e) (passes-named test a_field id takes) r.mentions))

  right-OutsideName : (a : Bool) (name : Name) → (a ≡ true → is_name name ≡ true) → ExprRight test (target_where a) (exprs.OutsideName name)
  right-OutsideName a name is-name = subst (ExprRight test (target_where a)) (exprs.rolls-OutsideName name)
      (made test (target_where a) (IExpr-F.OutsideName name) (right-target a _ is-name) refl)

  right-OutsideClass : (a : Bool) (full : Name) → is_dotted full ≡ true → ExprRight test (target_where a) (exprs.OutsideClass full)
  right-OutsideClass a full dotted = subst (ExprRight test (target_where a)) (exprs.rolls-OutsideClass full)
      (made test (target_where a) (IExpr-F.OutsideClass full) (right-target a _ (λ is. dotted)) refl)

  right-OutsideField : (a : Bool) (name : Name) (uses : ExprUses) (e : IExpr) → ExprRight test uses e
      → (a ≡ true → uses.is_value ≡ true) → (a ≡ true → is_name name ≡ true) → ExprRight test (target_where a) (exprs.OutsideField name e)
  right-OutsideField a name uses e r of-value is-name = subst (ExprRight test (target_where a)) (exprs.rolls-OutsideField name e)
      (made test (target_where a) (IExpr-F.OutsideField name e)
      (right-target a _ (λ is. and_from _ _ (is-name is) (r.shape.value (of-value is)))) r.mentions)

  gives-local : (a : Bool) (locals : Locals C) (number : Option ℕ) → Gives (MeantRight (target_where a)) (local_meant reader locals number)
  gives-local a locals None = gives-silent (MeantRight (target_where a))
  gives-local a locals (Some number) = gives-valued (target_where a) (exprs.Local number) _ (right-Local a number)

  gives-param : (a : Bool) (param : Option (Parameter C)) → Gives (MeantRight (target_where a)) (param_meant reader param)
  gives-param a None = gives-silent (MeantRight (target_where a))
  gives-param a (Some param) = gives-valued (target_where a) (exprs.Param param.id) _ (right-Param a param.id)

  right-field_word : (a is_static : Bool) (id : Id) → Takes test a_field id
      → ExprRight test (target_where a) (field_word reader is_static id)
  right-field_word a true id takes = right-StaticField a id takes
  right-field_word a false id takes = right-Own a id takes

  gives-variable : (a : Bool) (locals : Locals C) (name : Name) (v : Variable C M)
      → IsVariableAt reader.view (place_of reader locals) name v
      → Gives (MeantRight (target_where a)) (variable_meant reader locals v)
  gives-variable a locals name v (IsVariableAt.is_local {number = place} is) = gives-local a locals (slice_get locals.in_scope place)
  gives-variable a locals name v (IsVariableAt.is_parameter {number = place} is) = gives-param a (slice_get reader.params place)
  gives-variable a locals name v (IsVariableAt.is_field {field = field} is) =
      gives-valued (target_where a) (field_word reader field.is_static (reader.ids.member_id field.key)) _
      (right-field_word a field.is_static (reader.ids.member_id field.key) (right.fields field is.stands))

  -- ---- names

  module _ (a : Bool) (name : Name) (is-name : a ≡ true → is_name name ≡ true) (locals : Locals C) where
    gives-name_alone : (at : ℕ)
        → Gives (MeantRight (target_where a)) (name_alone reader at name locals (variable reader.view (place_of reader locals) name))
    gives-name_alone at = by (variable reader.view (place_of reader locals) name) refl where
      by : (f : Found (Variable C M)) → variable reader.view (place_of reader locals) name ≡ f
          → Gives (MeantRight (target_where a)) (name_alone reader at name locals f)
      by (found v) is = gives-variable a locals name v ((names_stand C M).variables reader.view (place_of reader locals) name v
          (answered ((names_answered C M).variables reader.view (place_of reader locals) name right.ordered) (found v) is))
      by outside is = gives-valued (target_where a) (exprs.OutsideName name) _ (right-OutsideName a name is-name)
      by not_found is = gives-refused (MeantRight (target_where a)) unknown_name at

    leftmost-reads : (rest : Names) (l : Leftmost C M) → leftmost reader.view (place_of reader locals) name rest ≡ l
        → ReadsLeftmost reader.view (place_of reader locals) name rest l
    leftmost-reads rest l is =
        answered ((names_answered C M).leftmost reader.view (place_of reader locals) name rest right.ordered) l is

    -- what is imported stands among the imports
    simple-import : (first import more : Name) → ReadsSimple reader.view.classes reader.header first (imported import more)
        → Contains reader.header.imports import
    simple-import first import more (ReadsSimple.import_outside {place = place} at none) =
        in_place reader.header.imports place import at.here

    import-stands : (rest : Names) (import : Name)
        → ReadsLeftmost reader.view (place_of reader locals) name rest (leftmost_import import) → Contains reader.header.imports import
    import-stands rest import (ReadsLeftmost.by_import none reads) = simple-import name import [] reads

    gives-name_before : (follow : Names)
        → Gives (MeantRight (target_where a)) (name_before reader name locals (leftmost reader.view (place_of reader locals) name follow))
    gives-name_before follow = by (leftmost reader.view (place_of reader locals) name follow) refl where
      by : (l : Leftmost C M) → leftmost reader.view (place_of reader locals) name follow ≡ l
          → Gives (MeantRight (target_where a)) (name_before reader name locals l)
      by (leftmost_variable v) is = gives-variable a locals name v ((names_stand C M).leftmost_variables reader.view
          (place_of reader locals) name follow v (leftmost-reads follow (leftmost_variable v) is))
      by (leftmost_class class spelling) is = gives-silent (MeantRight (target_where a))
      by (leftmost_import import) is = gives-valued (target_where a) (exprs.OutsideClass import) _
          (right-OutsideClass a import (right.imports import (import-stands follow import
          (leftmost-reads follow (leftmost_import import) is))))
      by leftmost_outside is = gives-valued (target_where a) (exprs.OutsideName name) _ (right-OutsideName a name is-name)

    pub gives-name : (at : ℕ) (mode : Mode) → Gives (MeantRight (target_where a)) (name_meant reader at name locals mode)
    gives-name at None = gives-name_alone at
    gives-name at (Some follow) = gives-name_before follow

  -- ---- fields

  pub gives-static_field : (a : Bool) (at : ℕ) (name : Name) (class : C)
      → Gives (MeantRight (target_where a)) (static_field_meant reader at (field_through reader.view class name))
  gives-static_field a at name class = by (field_through reader.view class name) refl where
    by : (o : Option (ViewField C M)) → field_through reader.view class name ≡ o
        → Gives (MeantRight (target_where a)) (static_field_meant reader at o)
    by None is = gives-refused (MeantRight (target_where a)) unknown_member at
    by (Some field) is = gives-valued (target_where a) (exprs.StaticField (reader.ids.member_id field.key)) _
        (right-StaticField a (reader.ids.member_id field.key) (right.fields field
        ((names_stand C M).static_fields reader.view class name field
        (answered ((names_answered C M).static_fields reader.view class name right.ordered) (Some field) is)).stands))

  pub gives-front : (uses : ExprUses) (at : ℕ) (mode : Mode) → Gives (MeantRight uses) (front_meant reader at mode)
  gives-front uses at None = gives-refused (MeantRight uses) unknown_member at
  gives-front uses at (Some follow) = gives-silent (MeantRight uses)

  pub gives-field_on : (a : Bool) (at : ℕ) (name : Name) (uses : ExprUses) (value : Meant C) → MeantRight uses value
      → (a ≡ true → uses.is_value ≡ true) → (a ≡ true → is_name name ≡ true)
      → Gives (MeantRight (target_where a)) (field_meant reader at name value (field_on reader.view name value.static_type))
  gives-field_on a at name uses value r of-value is-name = by (field_on reader.view name value.static_type) refl where
    word : (is_this : Bool) (id : Id) → Takes test a_field id
        → ExprRight test (target_where a) (if is_this then exprs.Own id else exprs.Field id value.tree)
    word true id takes = right-Own a id takes
    word false id takes = right-Field a id uses value.tree takes r of-value

    by : (o : OnValue (ViewField C M)) → field_on reader.view name value.static_type ≡ o
        → Gives (MeantRight (target_where a)) (field_meant reader at name value o)
    by (member field) is =
        let stands = (names_stand C M).fields_on reader.view name value.static_type field
        (inl (answered ((names_answered C M).fields_on reader.view name value.static_type right.ordered) (member field) is)) in
        gives-valued (target_where a) (field_on_word reader value (reader.ids.member_id field.key)) _
        (word value.is_this (reader.ids.member_id field.key) (right.fields field stands.2.stands))
    by (static_member field) is = gives-refused (MeantRight (target_where a)) static_by_instance at
    by outside_member is = gives-valued (target_where a) (exprs.OutsideField name value.tree) _
        (right-OutsideField a name uses value.tree r of-value is-name)
    by missing_member is = gives-refused (MeantRight (target_where a)) unknown_member at
    by has_no_members is = gives-refused (MeantRight (target_where a)) receiver_type at
    by unread_member is = gives-silent (MeantRight (target_where a))

  -- ---- calls and creations, with these arguments

  pub gives-index : (a : Bool) (at : ℕ) (uses of_index : ExprUses) (array : Meant C) (index : Option (Meant C)) → MeantRight uses array
      → ((value : Meant C) → index ≡ Some value → MeantRight of_index value) → (a ≡ true → uses.is_value ≡ true)
      → (a ≡ true → of_index.is_value ≡ true) → (o : OnIndex) → Gives (MeantRight (target_where a)) (index_meant reader at array index o)
  gives-index a at uses of_index array index r i of-value of-index indexed =
      gives-given (MeantRight of_index) (MeantRight (target_where a)) index _ i (λ value is.
      gives-valued (target_where a) (exprs.Index array.tree value.tree) _
      (subst (ExprRight test (target_where a)) (exprs.rolls-Index array.tree value.tree)
      (made test (target_where a) (IExpr-F.Index array.tree value.tree)
      (right-target a _ (λ holds. and_from _ _ (r.shape.value (of-value holds)) (is.shape.value (of-index holds))))
      (passes-both test (expr_mentions array.tree) (expr_mentions value.tree) r.mentions is.mentions))))
  gives-index a at uses of_index array index r i of-value of-index not_indexed =
      gives-refused (MeantRight (target_where a)) receiver_type at
  gives-index a at uses of_index array index r i of-value of-index unread_index = gives-silent (MeantRight (target_where a))

  module _ (a : Bool) (uses : List ExprUses) (few : length uses ≤ max_items)
      (are : a ≡ true → list_all (λ (e : ExprUses). e.is_value) uses ≡ true) where
    abbrev pub ArgumentsRight : Option (List IExpr) → Type 0
    ArgumentsRight args = (es : List IExpr) → args ≡ Some es → ListRight test uses es

    abbrev Right : Meant C → Type 0
    Right = MeantRight (effect_where a)

    abbrev Listed : List IExpr → Type 0
    Listed = ListRight test uses

    right-Call : (id : Id) (ids : List Id) (es : List IExpr) → Takes test a_called_method id → Listed es
        → ExprRight test (effect_where a) (exprs.Call id (with_params ids es))
    right-Call id ids es takes r = subst (ExprRight test (effect_where a)) (exprs.rolls-Call id (with_params ids es))
        (made test (effect_where a) (IExpr-F.Call id (with_params ids es))
        (right-effect a _ (λ is. right-arguments test uses es r few (are is) ids))
        (passes-both test (named a_called_method id) (joined (map argument_mentions (with_params ids es)))
        (passes-named test a_called_method id takes) (argument-mentions test ids es r.mentions)))

    right-StaticCall : (id : Id) (ids : List Id) (es : List IExpr) → Takes test a_static_method id → Listed es
        → ExprRight test (effect_where a) (exprs.StaticCall id (with_params ids es))
    right-StaticCall id ids es takes r = subst (ExprRight test (effect_where a)) (exprs.rolls-StaticCall id (with_params ids es))
        (made test (effect_where a) (IExpr-F.StaticCall id (with_params ids es))
        (right-effect a _ (λ is. right-arguments test uses es r few (are is) ids))
        (passes-both test (named a_static_method id) (joined (map argument_mentions (with_params ids es)))
        (passes-named test a_static_method id takes) (argument-mentions test ids es r.mentions)))

    right-SuperCall : (id : Id) (ids : List Id) (es : List IExpr) → Takes test a_called_method id → Listed es
        → ExprRight test (effect_where a) (exprs.SuperCall id (with_params ids es))
    right-SuperCall id ids es takes r = subst (ExprRight test (effect_where a)) (exprs.rolls-SuperCall id (with_params ids es))
        (made test (effect_where a) (IExpr-F.SuperCall id (with_params ids es))
        (right-effect a _ (λ is. right-arguments test uses es r few (are is) ids))
        (passes-both test (named a_called_method id) (joined (map argument_mentions (with_params ids es)))
        (passes-named test a_called_method id takes) (argument-mentions test ids es r.mentions)))

    right-New : (id : Id) (ids : List Id) (es : List IExpr) → Takes test a_constructor id → Listed es
        → ExprRight test (effect_where a) (exprs.New id (with_params ids es))
    right-New id ids es takes r = subst (ExprRight test (effect_where a)) (exprs.rolls-New id (with_params ids es))
        (made test (effect_where a) (IExpr-F.New id (with_params ids es))
        (right-effect a _ (λ is. right-arguments test uses es r few (are is) ids))
        (passes-both test (named a_constructor id) (joined (map argument_mentions (with_params ids es)))
        (passes-named test a_constructor id takes) (argument-mentions test ids es r.mentions)))

    right-CallOn : (id : Id) (of : ExprUses) (e : IExpr) (ids : List Id) (es : List IExpr) → Takes test a_called_method id
        → ExprRight test of e → (a ≡ true → of.is_value ≡ true) → Listed es
        → ExprRight test (effect_where a) (exprs.CallOn id e (with_params ids es))
    right-CallOn id of e ids es takes value of-value r = subst (ExprRight test (effect_where a))
        (exprs.rolls-CallOn id e (with_params ids es))
        (made test (effect_where a) (IExpr-F.CallOn id e (with_params ids es))
        (right-effect a _ (λ is. and_from _ _ (value.shape.value (of-value is)) (right-arguments test uses es r few (are is) ids)))
        (passes-both test (named a_called_method id ++ expr_mentions e) (joined (map argument_mentions (with_params ids es)))
        (passes-both test (named a_called_method id) (expr_mentions e) (passes-named test a_called_method id takes) value.mentions)
        (argument-mentions test ids es r.mentions)))

    pub right-NewDefault : (id : Id) → Takes test a_class id → ExprRight test (effect_where a) (exprs.NewDefault id)
    right-NewDefault id takes = subst (ExprRight test (effect_where a)) (exprs.rolls-NewDefault id)
        (made test (effect_where a) (IExpr-F.NewDefault id) (right-effect a true (λ is. refl)) (passes-named test a_class id takes))

    right-OutsideCall : (name : Name) (es : List IExpr) → (a ≡ true → is_name name ≡ true) → Listed es
        → ExprRight test (effect_where a) (exprs.OutsideCall name es)
    right-OutsideCall name es is-name r = subst (ExprRight test (effect_where a)) (exprs.rolls-OutsideCall name es)
        (made test (effect_where a) (IExpr-F.OutsideCall name es)
        (right-effect a _ (λ is. and_from _ _ (is-name is) (right-outside test uses es r few (are is)))) r.mentions)

    right-OutsideSuperCall : (name : Name) (es : List IExpr) → (a ≡ true → is_name name ≡ true) → Listed es
        → ExprRight test (effect_where a) (exprs.OutsideSuperCall name es)
    right-OutsideSuperCall name es is-name r = subst (ExprRight test (effect_where a)) (exprs.rolls-OutsideSuperCall name es)
        (made test (effect_where a) (IExpr-F.OutsideSuperCall name es)
        (right-effect a _ (λ is. and_from _ _ (is-name is) (right-outside test uses es r few (are is)))) r.mentions)

    right-OutsideCallOn : (name : Name) (of : ExprUses) (e : IExpr) (es : List IExpr) → (a ≡ true → is_name name ≡ true)
        → ExprRight test of e → (a ≡ true → of.is_value ≡ true) → Listed es
        → ExprRight test (effect_where a) (exprs.OutsideCallOn name e es)
    right-OutsideCallOn name of e es is-name value of-value r = subst (ExprRight test (effect_where a))
        (exprs.rolls-OutsideCallOn name e es)
        (made test (effect_where a) (IExpr-F.OutsideCallOn name e es)
        (right-effect a _ (λ is. and_from _ _ (and_from _ _ (is-name is) (value.shape.value (of-value is)))
        (right-outside test uses es r few (are is))))
        (passes-both test (expr_mentions e) (joined (map expr_mentions es)) value.mentions r.mentions))

    right-NewOutside : (type : ReadType C) (es : List IExpr) → (a ≡ true → is_outside_class type.tree ≡ true)
        → Passes test (type_mentions type.tree) → Listed es → ExprRight test (effect_where a) (exprs.NewOutside type.tree es)
    right-NewOutside type es is-outside passes r = subst (ExprRight test (effect_where a)) (exprs.rolls-NewOutside type.tree es)
        (made test (effect_where a) (IExpr-F.NewOutside type.tree es)
        (right-effect a _ (λ is. and_from _ _ (is-outside is) (right-outside test uses es r few (are is))))
        (passes-both test (type_mentions type.tree) (joined (map expr_mentions es)) passes r.mentions))

    gives-static_call : (declared : ViewDeclaration C M) → Contains reader.view.declarations declared
        → is_static_kind declared.kind ≡ true → (es : List IExpr) → Listed es → Gives Right (static_call reader declared es)
    gives-static_call declared stands static es r = gives-valued (effect_where a) _ _
        (right-StaticCall (reader.ids.method_id declared) (reader.ids.param_ids declared) es
        (right.static_methods declared stands (static-kind declared.kind static)) r)

    gives-own_call : (declared : ViewDeclaration C M) → Contains reader.view.declarations declared → declared.kind ≢ constructor
        → (es : List IExpr) → Listed es → Gives Right (own_call reader declared es)
    gives-own_call declared stands method es r = gives-valued (effect_where a) _ _
        (right-Call (reader.ids.method_id declared) (reader.ids.param_ids declared) es (right.methods declared stands method) r)

    module _ (args : Option (List IExpr)) (given-right : ArgumentsRight args) where
      pub gives-call_here : (at : ℕ) (name : Name) → (a ≡ true → is_name name ≡ true) → (class : C) (arity : ℕ)
          → Gives Right (call_here reader at name args (method_from reader.view class name arity))
      gives-call_here at name is-name class arity = by (method_from reader.view class name arity) refl where
        called : (declared : ViewDeclaration C M) → Contains reader.view.declarations declared → declared.kind ≢ constructor
            → (static : Bool)
            → is_static_kind declared.kind ≡ static → (es : List IExpr) → Listed es
            → Gives Right (if static then static_call reader declared es else own_call reader declared es)
        called declared stands method true static es r = gives-static_call declared stands static es r
        called declared stands method false static es r = gives-own_call declared stands method es r

        by : (f : Found (ViewDeclaration C M)) → method_from reader.view class name arity ≡ f
            → Gives Right (call_here reader at name args f)
        by (found declared) is =
            let stands = (names_stand C M).methods reader.view class name arity declared
            (answered ((names_answered C M).methods reader.view class name arity right.ordered) (found declared) is) in
            gives-given Listed Right args _ given-right
            (λ es r. called declared stands.stands stands.is_method.is_method (is_static_kind declared.kind) refl es r)
        by outside is = gives-given Listed Right args _ given-right
            (λ es r. gives-valued (effect_where a) _ _ (right-OutsideCall name es is-name r))
        by not_found is = gives-refused Right unknown_member at

      pub gives-call_through : (at : ℕ) (name : Name) (class : C) (arity : ℕ)
          → Gives Right (call_through reader at args (method_through reader.view class name arity))
      gives-call_through at name class arity = by (method_through reader.view class name arity) refl where
        static : (declared : ViewDeclaration C M) → Through (ReadsMethod reader.view class name arity)
            (λ (d : ViewDeclaration C M). is_static_kind d.kind)
            (Some declared)
            → is_static_kind declared.kind ≡ true
        static declared (Through.static_found reads is) = is

        by : (o : Option (ViewDeclaration C M)) → method_through reader.view class name arity ≡ o
            → Gives Right (call_through reader at args o)
        by None is = gives-refused Right unknown_member at
        by (Some declared) is =
            let reads = answered ((names_answered C M).static_methods reader.view class name arity right.ordered) (Some declared) is in
            gives-given Listed Right args _ given-right (λ es r. gives-static_call declared
            ((names_stand C M).static_methods reader.view class name arity declared reads).stands (static declared reads) es r)

      pub gives-call_on : (at : ℕ) (name : Name) → (a ≡ true → is_name name ≡ true) → (of : ExprUses) (value : Meant C)
          → MeantRight of value
          → (a ≡ true → of.is_value ≡ true) → (arity : ℕ)
          → Gives Right (call_on reader at name value args (method_on reader.view name arity value.static_type))
      gives-call_on at name is-name of value r-value of-value arity = by (method_on reader.view name arity value.static_type) refl where
        called : (declared : ViewDeclaration C M) → Contains reader.view.declarations declared → declared.kind ≢ constructor
            → (is_this : Bool) (es : List IExpr) → Listed es
            → Gives Right (if is_this then own_call reader declared es
            else valued reader (exprs.CallOn (reader.ids.method_id declared) value.tree (arguments_of reader declared es))
            (of_type declared.result))
        called declared stands method true es r = gives-own_call declared stands method es r
        called declared stands method false es r = gives-valued (effect_where a) _ _
            (right-CallOn (reader.ids.method_id declared) of value.tree (reader.ids.param_ids declared) es
            (right.methods declared stands method) r-value of-value r)

        by : (o : OnValue (ViewDeclaration C M)) → method_on reader.view name arity value.static_type ≡ o
            → Gives Right (call_on reader at name value args o)
        by (member declared) is =
            let stands = (names_stand C M).methods_on reader.view name arity value.static_type declared
            (inl (answered ((names_answered C M).methods_on reader.view name arity value.static_type right.ordered)
            (member declared) is)) in
            gives-given Listed Right args _ given-right
            (λ es r. called declared stands.2.stands stands.2.is_method.is_method value.is_this es r)
        by (static_member declared) is = gives-refused Right static_by_instance at
        by outside_member is = gives-given Listed Right args _ given-right
            (λ es r. gives-valued (effect_where a) _ _ (right-OutsideCallOn name of value.tree es is-name r-value of-value r))
        by missing_member is = gives-refused Right unknown_member at
        by has_no_members is = gives-refused Right receiver_type at
        by unread_member is = gives-silent Right

      pub gives-super_call : (at : ℕ) (name : Name) → (a ≡ true → is_name name ≡ true) → (class : C) (arity : ℕ)
          → Gives Right (super_call reader at name args (super_method reader.view class name arity))
      gives-super_call at name is-name class arity = by (super_method reader.view class name arity) refl where
        called : (declared : ViewDeclaration C M) → Contains reader.view.declarations declared → declared.kind ≢ constructor
            → (static : Bool)
            → Gives Right (if static then refused static_by_instance at else given args (λ (es : List IExpr).
            valued reader (exprs.SuperCall (reader.ids.method_id declared) (arguments_of reader declared es)) (of_type declared.result)))
        called declared stands method true = gives-refused Right static_by_instance at
        called declared stands method false = gives-given Listed Right args _ given-right
            (λ es r. gives-valued (effect_where a) _ _ (right-SuperCall (reader.ids.method_id declared) (reader.ids.param_ids declared) es
            (right.methods declared stands method) r))

        by : (f : Found (ViewDeclaration C M)) → super_method reader.view class name arity ≡ f
            → Gives Right (super_call reader at name args f)
        by (found declared) is =
            let stands = (names_stand C M).super_methods reader.view class name arity declared
            (answered ((names_answered C M).super_methods reader.view class name arity right.ordered) (found declared) is) in
            called declared stands.2.stands stands.2.is_method.is_method (is_static_kind declared.kind)
        by outside is = gives-given Listed Right args _ given-right
            (λ es r. gives-valued (effect_where a) _ _ (right-OutsideSuperCall name es is-name r))
        by not_found is = gives-refused Right unknown_member at

      -- a constructor that a class has, or its default one
      gives-class_created : (at : ℕ) (class : C) → HasClass reader.view.classes class → (arity : ℕ)
          → Gives Right (class_created reader at class args (constructor_from reader.view class arity))
      gives-class_created at class has arity = by (constructor_from reader.view class arity) refl where
        declared-right : (declared : ViewDeclaration C M)
            → IsConstructorIn reader.view class arity (declared_constructor declared)
            → Takes test a_constructor (reader.ids.method_id declared)
        declared-right declared (IsConstructorIn.is_declared stands of) =
            right.constructors declared stands of.declares.is_constructor

        default-right : (created : C) → IsConstructorIn reader.view class arity (default_constructor created)
            → Takes test a_class (reader.ids.class_id created)
        default-right created (IsConstructorIn.is_default stands default) = right.classes created stands

        stands-in : (c : Constructor C M) → constructor_from reader.view class arity ≡ found c → IsConstructorIn reader.view class arity c
        stands-in c is = (names_stand C M).constructors reader.view class arity c has
            (answered ((names_answered C M).constructors reader.view class arity right.ordered) (found c) is)

        by : (f : Found (Constructor C M)) → constructor_from reader.view class arity ≡ f
            → Gives Right (class_created reader at class args f)
        by (found (declared_constructor declared)) is = gives-given Listed Right args _ given-right
            (λ es r. gives-valued (effect_where a) _ _ (right-New (reader.ids.method_id declared) (reader.ids.param_ids declared) es
            (declared-right declared (stands-in (declared_constructor declared) is)) r))
        by (found (default_constructor created)) is = gives-valued (effect_where a) _ _
            (right-NewDefault (reader.ids.class_id created) (default-right created (stands-in (default_constructor created) is)))
        by outside is = gives-silent Right
        by not_found is = gives-refused Right unknown_member at

      -- a creation of what is no class of the view
      gives-outside : (type : ReadType C) (seen : ViewType C) → ((class : C) → ¬ (seen ≡ class_type class))
          → (a ≡ true → (is_outside_class type.tree ≡ true) ⊎ ((class : C) × (seen ≡ class_type class)))
          → Passes test (type_mentions type.tree)
          → Gives Right (given args (λ (es : List IExpr). valued reader (exprs.NewOutside type.tree es) outside_value))
      gives-outside type seen no-class is-outside passes = gives-given Listed Right args _ given-right
          (λ es r. gives-valued (effect_where a) _ _ (right-NewOutside type es (λ is. outside-only (is-outside is)) passes r)) where
            outside-only : (is_outside_class type.tree ≡ true) ⊎ ((class : C) × (seen ≡ class_type class))
                → is_outside_class type.tree ≡ true
            outside-only (inl is) = is
            outside-only (inr of) = absurd (no-class of.0 of.1)

      pub gives-created : (at arity : ℕ) (type : ReadType C) (seen : ViewType C)
          → ((class : C) → seen ≡ class_type class → HasClass reader.view.classes class)
          → (a ≡ true → (is_outside_class type.tree ≡ true) ⊎ ((class : C) × (seen ≡ class_type class)))
          → Passes test (type_mentions type.tree) → Gives Right (created reader at arity type args seen)
      gives-created at arity type (class_type class) has is-outside passes = gives-class_created at class (has class refl) arity
      gives-created at arity type (primitive_type name) has is-outside passes =
          gives-outside type (primitive_type name) (λ class no. cc) is-outside passes
      gives-created at arity type void_type has is-outside passes = gives-outside type void_type (λ class no. cc) is-outside passes
      gives-created at arity type (outside_type text) has is-outside passes =
          gives-outside type (outside_type text) (λ class no. cc) is-outside passes
      gives-created at arity type (array_type item) has is-outside passes =
          gives-outside type (array_type item) (λ class no. cc) is-outside passes
      gives-created at arity type unread_type has is-outside passes = gives-outside type unread_type (λ class no. cc) is-outside passes
