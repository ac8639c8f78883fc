-- Readers that are alike read alike fields, calls, creations and indexes.
use Rattle.std.proofs.Common.{◌≡◌, ℕ, Bool, true, false, cond, List, [], ◌∷◌, map, length, Option, Some, None, option_map, suc, refl, sym, ◌∙◌, ap, subst}
use Rattle.mol_base.specs.declared.ident.Id.{Id}
use Rattle.jav_names.specs.Ancestors.{HasClass}
use Rattle.jav_names.specs.DottedNames.{Name}
use Rattle.jav_names.specs.LookUps.{constructor_from, index_on}
use Rattle.jav_names.specs.Members.{Constructor, declared_constructor, default_constructor}
use Rattle.jav_names.specs.OnValues.{StaticType, outside_value, class_value, OnValue, member, static_member, outside_member, missing_member, has_no_members, unread_member, OnIndex, indexed, not_indexed, unread_index, is_static_kind}
use Rattle.jav_names.specs.StaticTypes.{of_type, item, outside_field, outside_call}
use Rattle.jav_names.specs.Views.{ViewType, primitive_type, void_type, class_type, outside_type, array_type, unread_type, ViewField, ViewDeclaration, Found, found, outside, not_found}
use Rattle.jav_names_laws.specs.Keys.{Keys, found_as, on_value_as, type_as, static_as, field_as, declaration_as, constructor_as}
use Rattle.mol_resolve_keys.specs.Alike.{ReadersAlike}
use Rattle.mol_resolve_rules.specs.FaultKinds.{unknown_member, static_by_instance, receiver_type}
use Rattle.mol_resolve_rules.specs.Outcomes.{Outcome, given}
use Rattle.mol_resolve_rules.specs.Readers.{Reader}
use Rattle.mol_resolve_rules.specs.ReadTrees.{Meant, with_params, static_field_meant, field_on_word, field_meant, arguments_of, static_call, own_call, call_here, call_through, call_on, super_call, class_created, created, index_meant}
use Rattle.mol_resolve_rules.specs.ReadTrees as reads
use Rattle.mol_resolve_rules.specs.ReadTypes.{ReadType}
use Rattle.mol_values_types.specs.Renamed.{rename_type, rename_expr, rename_argument}
use Rattle.mol_values_types.specs.declared.iexpr.IExpr.{IExpr}
use Rattle.mol_values_types.specs.declared.iexpr.IExpr.TheVariants as exprs
use Rattle.mol_resolve_keys.proofs.FoundStands.{OfFound, OfOption, OnFound, FieldStands, DeclarationStands, ConstructorStands, constructor-stands}
use Rattle.mol_resolve_keys.proofs.NamesAlike.{MeantAlike, SameTrees, valued-alike, of_type-alike, item-alike, outside_field-alike, outside_call-alike}
use Rattle.mol_resolve_keys.proofs.OutcomesAlike.{SameOption, OutcomesAlike, alike-silent, alike-refused, alike-given}
use Rattle.mol_resolve_keys.proofs.RenamedTrees as renamed
use Rattle.mol_resolve_keys.proofs.TypesAlike.{TypesAlike}

-- ---- arguments

module _ (name : Id → Id) where
  params-renamed : (ids : List Id) (values : List IExpr)
      → with_params (map name ids) (map (rename_expr name) values) ≡ map (rename_argument name) (with_params ids values)
  params-renamed [] values = refl
  params-renamed (id ∷ ids) [] = refl
  params-renamed (id ∷ ids) (value ∷ values) =
      λ i. sym (renamed.renamed-argument name id value) i ∷ params-renamed ids values i

  pub params-alike : (ids others : List Id) (values trees : List IExpr) → ids ≡ map name others → values ≡ map (rename_expr name) trees
      → with_params ids values ≡ map (rename_argument name) (with_params others trees)
  params-alike ids others values trees same are = (λ i. with_params (same i) (are i)) ∙ params-renamed others trees

  length-alike : (values trees : List IExpr) → values ≡ map (rename_expr name) trees → length values ≡ length trees
  length-alike values trees same = ap length same ∙ by trees where
    by : (trees : List IExpr) → length (map (rename_expr name) trees) ≡ length trees
    by [] = refl
    by (tree ∷ trees) = ap suc (by trees)

module _ {C M D N : Type 0} (keys : Keys C M D N) (name : Id → Id) (first : Reader C M) (second : Reader D N)
    (alike : ReadersAlike keys name first second) where
  abbrev IsMeantAlike : Meant C → Meant D → Type 0
  IsMeantAlike = MeantAlike keys name first second alike

  abbrev AreSameTrees : List IExpr → List IExpr → Type 0
  AreSameTrees = SameTrees keys name first second alike

  valued : (tree other : IExpr) (type : StaticType C) (seen : StaticType D) → tree ≡ rename_expr name other
      → static_as keys.class type ≡ seen → OutcomesAlike IsMeantAlike (reads.valued first tree type) (reads.valued second other seen)
  valued = valued-alike keys name first second alike

  -- ---- fields

  pub static_field-alike : (at : ℕ) (field : Option (ViewField C M)) → OfOption (FieldStands first.view alike.ordered) field
      → OutcomesAlike IsMeantAlike (static_field_meant first at field) (static_field_meant second at (option_map (field_as keys) field))
  static_field-alike at None stands = alike-refused IsMeantAlike unknown_member at
  static_field-alike at (Some field) stands = valued _ _ _ _
      (ap (λ (id : Id). exprs.StaticField id) (alike.ids.fields field stands)
      ∙ sym (renamed.renamed-StaticField name (second.ids.member_id (keys.member field.key))))
      (of_type-alike keys.class field.type)

  -- a word that stands for `this`, and one for any other value
  own-or : (b : Bool) (own own_as other other_as : IExpr) → own ≡ rename_expr name own_as → other ≡ rename_expr name other_as
      → cond b own other ≡ rename_expr name (cond b own_as other_as)
  own-or true own own_as other other_as same are = same
  own-or false own own_as other other_as same are = are

  field_word-alike : (value : Meant C) (meant : Meant D) → IsMeantAlike value meant → (field : Id)
      → field_on_word first value (name field) ≡ rename_expr name (field_on_word second meant field)
  field_word-alike value meant same field =
      ap (λ b. cond b (exprs.Own (name field)) (exprs.Field (name field) value.tree)) same.is_this
      ∙ own-or meant.is_this _ _ _ _ (sym (renamed.renamed-Own name field))
      (ap (exprs.Field (name field)) same.tree ∙ sym (renamed.renamed-Field name field meant.tree))

  pub field_meant-alike : (at : ℕ) (text : Name) (value : Meant C) (meant : Meant D) → IsMeantAlike value meant
      → (o : OnValue (ViewField C M)) → OnFound (FieldStands first.view alike.ordered) o
      → OutcomesAlike IsMeantAlike (field_meant first at text value o) (field_meant second at text meant (on_value_as (field_as keys) o))
  field_meant-alike at text value meant same (member field) stands = valued _ _ _ _
      (ap (field_on_word first value) (alike.ids.fields field stands)
      ∙ field_word-alike value meant same (second.ids.member_id (keys.member field.key)))
      (of_type-alike keys.class field.type)
  field_meant-alike at text value meant same (static_member field) stands = alike-refused IsMeantAlike static_by_instance at
  field_meant-alike at text value meant same outside_member stands = valued _ _ _ _
      (ap (exprs.OutsideField text) same.tree ∙ sym (renamed.renamed-OutsideField name text meant.tree))
      (outside_field-alike keys.class value.static_type text ∙ ap (λ (t : StaticType D). outside_field t text) same.static_type)
  field_meant-alike at text value meant same missing_member stands = alike-refused IsMeantAlike unknown_member at
  field_meant-alike at text value meant same has_no_members stands = alike-refused IsMeantAlike receiver_type at
  field_meant-alike at text value meant same unread_member stands = alike-silent IsMeantAlike

  -- ---- calls

  arguments-alike : (declared : ViewDeclaration C M) → DeclarationStands first.view alike.ordered declared → (values trees : List IExpr)
      → AreSameTrees values trees
      → arguments_of first declared values ≡ map (rename_argument name) (arguments_of second (declaration_as keys declared) trees)
  arguments-alike declared stands values trees same =
      params-alike name (first.ids.param_ids declared) (second.ids.param_ids (declaration_as keys declared)) values trees
      (alike.ids.params declared stands) same

  static_call-alike : (declared : ViewDeclaration C M) → DeclarationStands first.view alike.ordered declared → (values trees : List IExpr)
      → AreSameTrees values trees
      → OutcomesAlike IsMeantAlike (static_call first declared values) (static_call second (declaration_as keys declared) trees)
  static_call-alike declared stands values trees same = valued _ _ _ _
      ((λ i. exprs.StaticCall (alike.ids.methods declared stands i) (arguments-alike declared stands values trees same i))
      ∙ sym (renamed.renamed-StaticCall name (second.ids.method_id (declaration_as keys declared))
      (arguments_of second (declaration_as keys declared) trees)))
      (of_type-alike keys.class declared.result)

  own_call-alike : (declared : ViewDeclaration C M) → DeclarationStands first.view alike.ordered declared → (values trees : List IExpr)
      → AreSameTrees values trees
      → OutcomesAlike IsMeantAlike (own_call first declared values) (own_call second (declaration_as keys declared) trees)
  own_call-alike declared stands values trees same = valued _ _ _ _
      ((λ i. exprs.Call (alike.ids.methods declared stands i) (arguments-alike declared stands values trees same i))
      ∙ sym (renamed.renamed-Call name (second.ids.method_id (declaration_as keys declared))
      (arguments_of second (declaration_as keys declared) trees)))
      (of_type-alike keys.class declared.result)

  -- one of two outcomes, by a test
  either-alike : (b : Bool) (o p : Outcome (Meant C)) (q r : Outcome (Meant D)) → OutcomesAlike IsMeantAlike o q
      → OutcomesAlike IsMeantAlike p r → OutcomesAlike IsMeantAlike (cond b o p) (cond b q r)
  either-alike true o p q r alike also = alike
  either-alike false o p q r alike also = also

  either-by : (b c : Bool) → b ≡ c → (o p : Outcome (Meant C)) (q r : Outcome (Meant D)) → OutcomesAlike IsMeantAlike o q
      → OutcomesAlike IsMeantAlike p r → OutcomesAlike IsMeantAlike (cond b o p) (cond c q r)
  either-by b c same o p q r alike also =
      subst (λ (c : Bool). OutcomesAlike IsMeantAlike (cond b o p) (cond c q r)) same (either-alike b o p q r alike also)

  module _ (values : Option (List IExpr)) (trees : Option (List IExpr)) (same : SameOption AreSameTrees values trees) where
    abbrev Given : (List IExpr → Outcome (Meant C)) → (List IExpr → Outcome (Meant D)) → Type 0
    Given make made = ((args others : List IExpr) → AreSameTrees args others → OutcomesAlike IsMeantAlike (make args) (made others))
        → OutcomesAlike IsMeantAlike (given values make) (given trees made)

    given-alike : (make : List IExpr → Outcome (Meant C)) (made : List IExpr → Outcome (Meant D)) → Given make made
    given-alike make made each = alike-given AreSameTrees IsMeantAlike make made values trees same each

    pub call_here-alike : (at : ℕ) (text : Name) (f : Found (ViewDeclaration C M)) → OfFound (DeclarationStands first.view alike.ordered) f
        → OutcomesAlike IsMeantAlike (call_here first at text values f) (call_here second at text trees (found_as (declaration_as keys) f))
    call_here-alike at text (found declared) stands = given-alike
        (λ args. cond (is_static_kind declared.kind) (static_call first declared args) (own_call first declared args))
        (λ args. cond (is_static_kind declared.kind) (static_call second (declaration_as keys declared) args)
        (own_call second (declaration_as keys declared) args)) (λ args others are.
        either-alike (is_static_kind declared.kind) _ _ _ _ (static_call-alike declared stands args others are)
        (own_call-alike declared stands args others are))
    call_here-alike at text outside stands = given-alike (λ args. reads.valued first (exprs.OutsideCall text args) outside_value)
        (λ args. reads.valued second (exprs.OutsideCall text args) outside_value) (λ args others are. valued _ _ _ _
        (ap (exprs.OutsideCall text) are ∙ sym (renamed.renamed-OutsideCall name text others)) refl)
    call_here-alike at text not_found stands = alike-refused IsMeantAlike unknown_member at

    pub call_through-alike : (at : ℕ) (o : Option (ViewDeclaration C M)) → OfOption (DeclarationStands first.view alike.ordered) o
        → OutcomesAlike IsMeantAlike (call_through first at values o) (call_through second at trees (option_map (declaration_as keys) o))
    call_through-alike at None stands = alike-refused IsMeantAlike unknown_member at
    call_through-alike at (Some declared) stands =
        given-alike (static_call first declared) (static_call second (declaration_as keys declared))
        (λ args others are. static_call-alike declared stands args others are)

    pub call_on-alike : (at : ℕ) (text : Name) (value : Meant C) (meant : Meant D) → IsMeantAlike value meant
        → (o : OnValue (ViewDeclaration C M)) → OnFound (DeclarationStands first.view alike.ordered) o
        → OutcomesAlike IsMeantAlike (call_on first at text value values o)
        (call_on second at text meant trees (on_value_as (declaration_as keys) o))
    call_on-alike at text value meant are_alike (member declared) stands = given-alike
        (λ args. cond value.is_this (own_call first declared args)
        (reads.valued first (exprs.CallOn (first.ids.method_id declared) value.tree (arguments_of first declared args))
        (of_type declared.result)))
        (λ args. cond meant.is_this (own_call second (declaration_as keys declared) args)
        (reads.valued second (exprs.CallOn (second.ids.method_id (declaration_as keys declared)) meant.tree
        (arguments_of second (declaration_as keys declared) args)) (of_type (type_as keys.class declared.result))))
        (λ args others are. either-by value.is_this meant.is_this are_alike.is_this _ _ _ _
        (own_call-alike declared stands args others are) (valued _ _ _ _
        ((λ i. exprs.CallOn (alike.ids.methods declared stands i) (are_alike.tree i) (arguments-alike declared stands args others are i))
        ∙ sym (renamed.renamed-CallOn name (second.ids.method_id (declaration_as keys declared)) meant.tree
        (arguments_of second (declaration_as keys declared) others)))
        (of_type-alike keys.class declared.result)))
    call_on-alike at text value meant are_alike (static_member declared) stands = alike-refused IsMeantAlike static_by_instance at
    call_on-alike at text value meant are_alike outside_member stands = given-alike
        (λ args. reads.valued first (exprs.OutsideCallOn text value.tree args) (outside_call value.static_type text (length args)))
        (λ args. reads.valued second (exprs.OutsideCallOn text meant.tree args) (outside_call meant.static_type text (length args)))
        (λ args others are. valued _ _ _ _
        ((λ i. exprs.OutsideCallOn text (are_alike.tree i) (are i)) ∙ sym (renamed.renamed-OutsideCallOn name text meant.tree others))
        (outside_call-alike keys.class value.static_type text (length args)
        ∙ (λ i. outside_call (are_alike.static_type i) text (length-alike name args others are i))))
    call_on-alike at text value meant are_alike missing_member stands = alike-refused IsMeantAlike unknown_member at
    call_on-alike at text value meant are_alike has_no_members stands = alike-refused IsMeantAlike receiver_type at
    call_on-alike at text value meant are_alike unread_member stands = alike-silent IsMeantAlike

    pub super_call-alike : (at : ℕ) (text : Name) (f : Found (ViewDeclaration C M)) → OfFound (DeclarationStands first.view alike.ordered) f
        → OutcomesAlike IsMeantAlike (super_call first at text values f)
        (super_call second at text trees (found_as (declaration_as keys) f))
    super_call-alike at text (found declared) stands = either-alike (is_static_kind declared.kind) _ _ _ _
        (alike-refused IsMeantAlike static_by_instance at)
        (given-alike
        (λ args. reads.valued first (exprs.SuperCall (first.ids.method_id declared) (arguments_of first declared args))
        (of_type declared.result))
        (λ args. reads.valued second (exprs.SuperCall (second.ids.method_id (declaration_as keys declared))
        (arguments_of second (declaration_as keys declared) args)) (of_type (type_as keys.class declared.result)))
        (λ args others are. valued _ _ _ _
        ((λ i. exprs.SuperCall (alike.ids.methods declared stands i) (arguments-alike declared stands args others are i))
        ∙ sym (renamed.renamed-SuperCall name (second.ids.method_id (declaration_as keys declared))
        (arguments_of second (declaration_as keys declared) others)))
        (of_type-alike keys.class declared.result)))
    super_call-alike at text outside stands = given-alike (λ args. reads.valued first (exprs.OutsideSuperCall text args) outside_value)
        (λ args. reads.valued second (exprs.OutsideSuperCall text args) outside_value) (λ args others are. valued _ _ _ _
        (ap (exprs.OutsideSuperCall text) are ∙ sym (renamed.renamed-OutsideSuperCall name text others)) refl)
    super_call-alike at text not_found stands = alike-refused IsMeantAlike unknown_member at

    -- ---- creations

    class_created-alike : (at : ℕ) (class : C) (f : Found (Constructor C M)) → OfFound (ConstructorStands first.view alike.ordered) f
        → OutcomesAlike IsMeantAlike (class_created first at class values f)
        (class_created second at (keys.class class) trees (found_as (constructor_as keys) f))
    class_created-alike at class (found (declared_constructor declared)) stands = given-alike
        (λ args. reads.valued first (exprs.New (first.ids.method_id declared) (arguments_of first declared args)) (class_value class))
        (λ args. reads.valued second (exprs.New (second.ids.method_id (declaration_as keys declared))
        (arguments_of second (declaration_as keys declared) args)) (class_value (keys.class class)))
        (λ args others are. valued _ _ _ _
        ((λ i. exprs.New (alike.ids.methods declared stands i) (arguments-alike declared stands args others are i))
        ∙ sym (renamed.renamed-New name (second.ids.method_id (declaration_as keys declared))
        (arguments_of second (declaration_as keys declared) others))) refl)
    class_created-alike at class (found (default_constructor made)) stands = valued _ _ _ _
        (ap (λ (id : Id). exprs.NewDefault id) (alike.ids.classes made stands)
        ∙ sym (renamed.renamed-NewDefault name (second.ids.class_id (keys.class made)))) refl
    class_created-alike at class outside stands = alike-silent IsMeantAlike
    class_created-alike at class not_found stands = alike-refused IsMeantAlike unknown_member at

    outside-created : (read : ReadType C) (other : ReadType D) → read.tree ≡ rename_type name other.tree
        → OutcomesAlike IsMeantAlike (given values (λ args. reads.valued first (exprs.NewOutside read.tree args) outside_value))
        (given trees (λ args. reads.valued second (exprs.NewOutside other.tree args) outside_value))
    outside-created read other is = given-alike (λ args. reads.valued first (exprs.NewOutside read.tree args) outside_value)
        (λ args. reads.valued second (exprs.NewOutside other.tree args) outside_value) (λ args others are. valued _ _ _ _
        ((λ i. exprs.NewOutside (is i) (are i)) ∙ sym (renamed.renamed-NewOutside name other.tree others)) refl)

    pub created-alike : (at arity : ℕ) (read : ReadType C) (other : ReadType D) → TypesAlike keys name first second alike read other
        → OutcomesAlike IsMeantAlike (created first at arity read values read.type) (created second at arity other trees other.type)
    created-alike at arity read other is =
        subst (λ t. OutcomesAlike IsMeantAlike (created first at arity read values read.type)
        (created second at arity other trees t)) is.type
        (by read.type is.stands) where
          by : (type : ViewType C) → ((class : C) → type ≡ class_type class → HasClass first.view.classes class)
              → OutcomesAlike IsMeantAlike (created first at arity read values type)
              (created second at arity other trees (type_as keys.class type))
          by (class_type class) stands =
              subst (λ f. OutcomesAlike IsMeantAlike (class_created first at class values (constructor_from first.view class arity))
              (class_created second at (keys.class class) trees f)) (alike.looks.constructors class arity)
              (class_created-alike at class (constructor_from first.view class arity)
              (constructor-stands first.view alike.ordered class arity (stands class refl)))
          by (primitive_type text) stands = outside-created read other is.tree
          by void_type stands = outside-created read other is.tree
          by (outside_type text) stands = outside-created read other is.tree
          by (array_type item) stands = outside-created read other is.tree
          by unread_type stands = outside-created read other is.tree

  -- ---- indexes

  index-by : (at : ℕ) (array : Meant C) (seen : Meant D) → IsMeantAlike array seen → (index : Option (Meant C)) (other : Option (Meant D))
      → SameOption IsMeantAlike index other → (on : OnIndex)
      → OutcomesAlike IsMeantAlike (index_meant first at array index on) (index_meant second at seen other on)
  index-by at array seen same index other are indexed = alike-given IsMeantAlike IsMeantAlike
      (λ (index : Meant C). reads.valued first (exprs.Index array.tree index.tree) (item array.static_type))
      (λ (index : Meant D). reads.valued second (exprs.Index seen.tree index.tree) (item seen.static_type))
      index other are (λ i j also. valued _ _ _ _
      ((λ k. exprs.Index (same.tree k) (also.tree k)) ∙ sym (renamed.renamed-Index name seen.tree j.tree))
      (item-alike keys.class array.static_type ∙ ap (λ (t : StaticType D). item t) same.static_type))
  index-by at array seen same index other are not_indexed = alike-refused IsMeantAlike receiver_type at
  index-by at array seen same index other are unread_index = alike-silent IsMeantAlike

  pub index-alike : (at : ℕ) (array : Meant C) (seen : Meant D) → IsMeantAlike array seen
      → (index : Option (Meant C)) (other : Option (Meant D))
      → SameOption IsMeantAlike index other
      → OutcomesAlike IsMeantAlike (index_meant first at array index (index_on array.static_type))
      (index_meant second at seen other (index_on seen.static_type))
  index-alike at array seen same index other are =
      subst (λ (on : OnIndex). OutcomesAlike IsMeantAlike (index_meant first at array index (index_on array.static_type))
      (index_meant second at seen other on))
      (alike.looks.indexes_on array.static_type ∙ ap (λ (t : StaticType D). index_on t) same.static_type)
      (index-by at array seen same index other are (index_on array.static_type))
