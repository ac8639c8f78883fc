-- What a name, a member or a call reads as has a value where it has no fault, in a place where all types are read.
use Rattle.std.proofs.Common.{◌≡◌, ◌≢◌, ◌⊎◌, inl, inr, ℕ, suc, ◌<◌, ◌≤◌, ◌==◌, nat_lt, Bool, true, false, List, [], ◌∷◌, ◌++◌, length, Option, Some, None, option_map, slice_get, Contains, if◌then◌else◌, refl, sym, ◌∙◌, ap, subst, arith, true≢false}
use Rattle.std.specs.Option.{option_map_or}
use Rattle.std.proofs.lemmas.Bool.{cases_lt, ltb-true, ltb-false, eqb-false}
use Rattle.std.proofs.lemmas.List.{append_assoc, length-append}
use Rattle.std.proofs.lemmas.Option.{slice_get-map}
use Rattle.jav_names.specs.DottedNames.{Name, Names, Dotted}
use Rattle.jav_names.specs.Laws.{IsTheAnswer}
use Rattle.jav_names.specs.Leftmost.{Leftmost, leftmost_variable, leftmost_class, leftmost_import, leftmost_outside, ReadsLeftmost}
use Rattle.jav_names.specs.LookUps.{variable, leftmost, method_from, super_method, constructor_from, field_on, method_on, index_on, field_through, method_through}
use Rattle.jav_names.specs.Members.{Constructor, declared_constructor, default_constructor, ReadsConstructor}
use Rattle.jav_names.specs.OnValues.{StaticType, primitive_value, null_value, void_value, mixed_value, outside_value, class_value, array_value, unread_value, OnValue, member, static_member, outside_member, missing_member, has_no_members, unread_member, ReadsOn, ReadsFieldOn, ReadsMethodOn, indexed, is_static_kind}
use Rattle.jav_names.specs.Standing.{IsVariableAt}
use Rattle.jav_names.specs.StaticTypes.{of_type, is_unread, item, outside_field, outside_call}
use Rattle.jav_names.specs.Variables.{Variable}
use Rattle.jav_names.specs.Views.{ViewType, primitive_type, void_type, class_type, outside_type, array_type, unread_type, ViewField, ViewDeclaration, IsOrdered, Found, found, outside, not_found}
use Rattle.jav_names.proofs.FoundNames.{names_stand}
use Rattle.jav_names.proofs.NamesAnswered.{names_answered}
use Rattle.mol_resolve_rules.specs.FaultKinds.{unknown_name, unknown_member, static_by_instance, receiver_type}
use Rattle.mol_resolve_rules.specs.Locals.{Local, Locals, local_name, names_in_scope}
use Rattle.mol_resolve_rules.specs.Outcomes.{Outcome, refused, over}
use Rattle.mol_resolve_rules.specs.Readers.{Parameter, Reader, param_names, place_of}
use Rattle.mol_resolve_rules.specs.ReadTrees.{Meant, longer, whole_path, front_path, no_path, path_by, path_of, valued, meant, local_meant, param_meant, field_word, variable_meant, name_alone, name_before, static_field_meant, field_on_word, field_meant, arguments_of, static_call, own_call, call_here, call_through, call_on, super_call, class_created, created, index_meant}
use Rattle.mol_resolve_rules.specs.ReadTypes.{ReadType}
use Rattle.mol_values_types.specs.declared.iexpr.IExpr.{IExpr}
use Rattle.mol_values_types.specs.declared.iexpr.IExpr.TheVariants as exprs
use Rattle.mol_resolve_rules.proofs.KnownTypes.{has_unread, known-of_type, known-outside_field, known-outside_call, known-item}
use Rattle.mol_resolve_rules.proofs.Stands.{in_place}
use Rattle.mol_resolve_rules.proofs.Whole.{IsWhole, whole-fine, whole-refused}

-- The types of all members, parameters and locals are read.
pub record ReadsKnown {C M : Type 0} (reader : Reader C M) : Type 0 where
  pub ordered : IsOrdered reader.view
  pub fields : (field : ViewField C M) → Contains reader.view.fields field → is_unread field.type ≡ false
  pub results : (declared : ViewDeclaration C M) → Contains reader.view.declarations declared → is_unread declared.result ≡ false
  pub params : (param : Parameter C) → Contains reader.params param → is_unread param.type ≡ false

abbrev pub KnownLocals : {C : Type 0} → Locals C → Type 0
KnownLocals {C} locals = (local : Local C) → Contains locals.declared local → is_unread local.type ≡ false

-- what a rule reads, of what its function finds
answered : {A : Type 0} {Reads : A → Type 0} {answer : A} → IsTheAnswer Reads answer → (reading : A) → answer ≡ reading → Reads reading
answered {A} {Reads} is reading same = subst Reads same is.holds

-- ---- spelled classes

if-none : {C : Type 0} (whole front : Bool) (class : C)
    → (if whole then whole_path class else if front then front_path else no_path) ≡ no_path
    → (whole ≡ false) × (front ≡ false)
if-none true front class is = absurd cc
if-none false true class is = absurd cc
if-none false false class is = (refl, refl)

if-front : {C : Type 0} (whole front : Bool) (class : C)
    → (if whole then whole_path class else if front then front_path else no_path) ≡ front_path → front ≡ true
if-front true front class is = absurd cc
if-front false true class is = refl
if-front false false class is = absurd cc

lesser : (a b : ℕ) → a ≤ b → a ≢ b → a < b
lesser a b upper differs = by (cases_lt a b) where
  by : (a < b) ⊎ (b ≤ a) → a < b
  by (inl less) = less
  by (inr over) = absurd (differs (omega (arith, upper, over)))

-- neither as many as spell the class nor fewer: more
path-none : (C M : Type 0) (count : ℕ) (class : C) (spelling : ℕ) → path_by {C = C} {M = M} count (leftmost_class class spelling) ≡ no_path
    → spelling < count
path-none C M count class spelling is = let apart = if-none (spelling == count) (nat_lt count spelling) class is in
    let upper : spelling ≤ count = ltb-false count spelling apart.1 in
    lesser spelling count upper (eqb-false spelling count apart.0)

record Spells {C M : Type 0} (count : ℕ) (first : Leftmost C M) : Type 0 where
  class : C
  spelling : ℕ
  is : first ≡ leftmost_class class spelling
  fewer : count < spelling

path-front : {C M : Type 0} (count : ℕ) (first : Leftmost C M) → path_by count first ≡ front_path → Spells count first
path-front count (leftmost_class class spelling) is =
    record {
      class = class;
      spelling = spelling;
      is = refl;
      fewer = ltb-true count spelling
          (if-front (spelling == count) (nat_lt count spelling) class is);
    }
path-front count (leftmost_variable v) is = absurd cc
path-front count (leftmost_import import) is = absurd cc
path-front count leftmost_outside is = absurd cc

module _ {C M : Type 0} (reader : Reader C M) (known : ReadsKnown reader) where
  -- its static type is known
  abbrev pub IsKnown : Meant C → Type 0
  IsKnown value = has_unread value.static_type ≡ false

  pub whole-valued : (tree : IExpr) (type : StaticType C) → has_unread type ≡ false → IsWhole IsKnown (valued reader tree type)
  whole-valued tree type is = whole-fine IsKnown (meant reader tree type) is

  -- ---- variables

  local-known : (locals : Locals C) → KnownLocals locals → (number : ℕ)
      → has_unread (option_map_or (λ (local : Local C). of_type local.type) (slice_get locals.declared number) mixed_value) ≡ false
  local-known locals all number = by (slice_get locals.declared number) refl where
    by : (o : Option (Local C)) → slice_get locals.declared number ≡ o
        → has_unread (option_map_or (λ (local : Local C). of_type local.type) o mixed_value) ≡ false
    by None is = refl
    by (Some local) is = known-of_type local.type (all local (in_place locals.declared number local is))

  got-before : {X Y : Type 0} (make : X → Y) (o : Option X) (y : Y) → option_map make o ≡ Some y → (x : X) × (o ≡ Some x)
  got-before make None y is = absurd cc
  got-before make (Some x) y is = (x, refl)

  whole-local : (locals : Locals C) → KnownLocals locals → (place : ℕ) (name : Name)
      → slice_get (names_in_scope locals) place ≡ Some name → IsWhole IsKnown (local_meant reader locals (slice_get locals.in_scope place))
  whole-local locals all place name is =
      let number = got-before (local_name locals) (slice_get locals.in_scope place) name
      (sym (slice_get-map (local_name locals) locals.in_scope place) ∙ is) in
      subst (λ (o : Option ℕ). IsWhole IsKnown (local_meant reader locals o)) (sym number.1)
      (whole-valued (exprs.Local number.0) _ (local-known locals all number.0))

  whole-param : (place : ℕ) (name : Name) → slice_get (param_names reader) place ≡ Some name
      → IsWhole IsKnown (param_meant reader (slice_get reader.params place))
  whole-param place name is =
      let param = got-before (λ (param : Parameter C). param.name) (slice_get reader.params place) name
      (sym (slice_get-map (λ (param : Parameter C). param.name) reader.params place) ∙ is) in
      subst (λ (o : Option (Parameter C)). IsWhole IsKnown (param_meant reader o)) (sym param.1)
      (whole-valued (exprs.Param param.0.id) (of_type param.0.type)
      (known-of_type param.0.type (known.params param.0 (in_place reader.params place param.0 param.1))))

  module _ (locals : Locals C) (all : KnownLocals locals) where
    whole-variable : (name : Name) (v : Variable C M) → IsVariableAt reader.view (place_of reader locals) name v
        → IsWhole IsKnown (variable_meant reader locals v)
    whole-variable name v (IsVariableAt.is_local {number = place} is) = whole-local locals all place name is
    whole-variable name v (IsVariableAt.is_parameter {number = place} is) = whole-param place name is
    whole-variable name v (IsVariableAt.is_field {field = field} is) =
        whole-valued (field_word reader field.is_static (reader.ids.member_id field.key)) (of_type field.type)
        (known-of_type field.type (known.fields field is.stands))

    pub whole-name_alone : (at : ℕ) (name : Name) → IsWhole IsKnown (name_alone reader at name locals
        (variable reader.view (place_of reader locals) name))
    whole-name_alone at name = by (variable reader.view (place_of reader locals) name) refl where
      by : (f : Found (Variable C M)) → variable reader.view (place_of reader locals) name ≡ f
          → IsWhole IsKnown (name_alone reader at name locals f)
      by (found v) is = whole-variable name v ((names_stand C M).variables reader.view (place_of reader locals) name v
          (answered ((names_answered C M).variables reader.view (place_of reader locals) name known.ordered) (found v) is))
      by outside is = whole-valued (exprs.OutsideName name) outside_value refl
      by not_found is = whole-refused IsKnown unknown_name at

    -- the first of several names, by the rule
    leftmost-reads : (first : Name) (rest : Names) (l : Leftmost C M) → leftmost reader.view (place_of reader locals) first rest ≡ l
        → ReadsLeftmost reader.view (place_of reader locals) first rest l
    leftmost-reads first rest l is =
        answered ((names_answered C M).leftmost reader.view (place_of reader locals) first rest known.ordered) l is

    counted : (first : Name) (rest : Names) (class : C) (spelling : ℕ)
        → leftmost reader.view (place_of reader locals) first rest ≡ leftmost_class class spelling
        → (0 < spelling) × (spelling ≤ suc (length rest))
    counted first rest class spelling is = (names_stand C M).leftmost_counts reader.view (place_of reader locals) first rest class spelling
        (leftmost-reads first rest (leftmost_class class spelling) is)

    pub whole-name_before : (name : Name) (follow : Names)
        → path_of reader locals (Some (record { first = name; rest = [] })) follow ≡ no_path
        → IsWhole IsKnown (name_before reader name locals (leftmost reader.view (place_of reader locals) name follow))
    whole-name_before name follow none = by (leftmost reader.view (place_of reader locals) name follow) refl none where
      by : (l : Leftmost C M) → leftmost reader.view (place_of reader locals) name follow ≡ l → path_by 1 l ≡ no_path
          → IsWhole IsKnown (name_before reader name locals l)
      by (leftmost_variable v) is none = whole-variable name v ((names_stand C M).leftmost_variables reader.view (place_of reader locals)
          name follow v (leftmost-reads name follow (leftmost_variable v) is))
      by (leftmost_class class spelling) is none =
          let fewer = path-none C M 1 class spelling none in
          let some = counted name follow class spelling is in
          absurd (omega (arith, fewer, some.0))
      by (leftmost_import import) is none = whole-valued (exprs.OutsideClass import) outside_value refl
      by leftmost_outside is none = whole-valued (exprs.OutsideName name) outside_value refl

    -- where names with one more are no front of a class's full name, and no class themselves, they are no front of one without it
    pub never_front : (names : Option Dotted) (name : Name) (follow : Names) → path_of reader locals names (name ∷ follow) ≡ front_path
        → path_of reader locals (longer name names) follow ≢ no_path
    never_front None name follow front none = absurd cc
    never_front (Some dotted) name follow front none =
        let spells = path-front (suc (length dotted.rest)) (leftmost reader.view (place_of reader locals) dotted.first
        (dotted.rest ++ (name ∷ follow))) front in
        let same : leftmost reader.view (place_of reader locals) dotted.first ((dotted.rest ++ name ∷ []) ++ follow)
        ≡ leftmost_class spells.class spells.spelling
        = ap (leftmost reader.view (place_of reader locals) dotted.first) (append_assoc dotted.rest (name ∷ []) follow) ∙ spells.is in
        let fewer = path-none C M (suc (length (dotted.rest ++ name ∷ []))) spells.class spells.spelling
        (ap (path_by (suc (length (dotted.rest ++ name ∷ [])))) (sym same) ∙ none) in
        omega (arith, spells.fewer, fewer, length-append dotted.rest (name ∷ []))

    -- the names before the last name of a call are no front of a class's full name
    pub never_front_of_call : (names : Option Dotted) → path_of reader locals names [] ≢ front_path
    never_front_of_call None front = absurd cc
    never_front_of_call (Some dotted) front =
        let spells = path-front (suc (length dotted.rest)) (leftmost reader.view (place_of reader locals) dotted.first
        (dotted.rest ++ [])) front in
        let there = counted dotted.first (dotted.rest ++ []) spells.class spells.spelling spells.is in
        omega (arith, spells.fewer, there.1, length-append dotted.rest [])

  -- ---- fields

  pub whole-static_field : (at : ℕ) (name : Name) (class : C)
      → IsWhole IsKnown (static_field_meant reader at (field_through reader.view class name))
  whole-static_field at name class = by (field_through reader.view class name) refl where
    by : (o : Option (ViewField C M)) → field_through reader.view class name ≡ o → IsWhole IsKnown (static_field_meant reader at o)
    by None is = whole-refused IsKnown unknown_member at
    by (Some field) is =
        let stands = (names_stand C M).static_fields reader.view class name field
        (answered ((names_answered C M).static_fields reader.view class name known.ordered) (Some field) is) in
        whole-valued (exprs.StaticField (reader.ids.member_id field.key)) (of_type field.type)
        (known-of_type field.type (known.fields field stands.stands))

  -- a value whose type is read is not unread
  never_unread : {X : Type 0} {Reads : C → Found X → Type 0} {is_static : X → Bool} {arrays_have : Bool} (type : StaticType C)
      → ReadsOn Reads is_static arrays_have type unread_member → has_unread type ≡ true
  never_unread type (ReadsOn.of_class reads on) = elim on [ ]
  never_unread type ReadsOn.of_unread = refl

  pub whole-field_on : (at : ℕ) (name : Name) (value : Meant C) → IsKnown value
      → IsWhole IsKnown (field_meant reader at name value (field_on reader.view name value.static_type))
  whole-field_on at name value is_known = by (field_on reader.view name value.static_type) refl where
    reads : (o : OnValue (ViewField C M)) → field_on reader.view name value.static_type ≡ o
        → ReadsFieldOn reader.view name value.static_type o
    reads o is = answered ((names_answered C M).fields_on reader.view name value.static_type known.ordered) o is

    by : (o : OnValue (ViewField C M)) → field_on reader.view name value.static_type ≡ o
        → IsWhole IsKnown (field_meant reader at name value o)
    by (member field) is =
        let stands = (names_stand C M).fields_on reader.view name value.static_type field (inl (reads (member field) is)) in
        whole-valued (field_on_word reader value (reader.ids.member_id field.key)) (of_type field.type)
        (known-of_type field.type (known.fields field stands.2.stands))
    by (static_member field) is = whole-refused IsKnown static_by_instance at
    by outside_member is =
        whole-valued (exprs.OutsideField name value.tree) (outside_field value.static_type name)
        (known-outside_field value.static_type name)
    by missing_member is = whole-refused IsKnown unknown_member at
    by has_no_members is = whole-refused IsKnown receiver_type at
    by unread_member is = absurd (true≢false (sym (never_unread value.static_type (reads unread_member is)) ∙ is_known))

  -- ---- calls

  module _ (declared : ViewDeclaration C M) (stands : Contains reader.view.declarations declared) (args : List IExpr) where
    result-known : has_unread (of_type declared.result) ≡ false
    result-known = known-of_type declared.result (known.results declared stands)

    whole-static_call : IsWhole IsKnown (static_call reader declared args)
    whole-static_call = whole-valued (exprs.StaticCall (reader.ids.method_id declared) (arguments_of reader declared args))
        (of_type declared.result)
        result-known

    whole-own_call : IsWhole IsKnown (own_call reader declared args)
    whole-own_call = whole-valued (exprs.Call (reader.ids.method_id declared) (arguments_of reader declared args)) (of_type declared.result)
        result-known

  whole-if : {A : Type 0} (P : A → Type 0) (b : Bool) (first second : Outcome A) → IsWhole P first → IsWhole P second
      → IsWhole P (if b then first else second)
  whole-if P true first second whole more = whole
  whole-if P false first second whole more = more

  pub whole-call_here : (at : ℕ) (name : Name) (args : List IExpr) (class : C) (arity : ℕ)
      → IsWhole IsKnown (call_here reader at name (Some args) (method_from reader.view class name arity))
  whole-call_here at name args class arity = by (method_from reader.view class name arity) refl where
    by : (f : Found (ViewDeclaration C M)) → method_from reader.view class name arity ≡ f
        → IsWhole IsKnown (call_here reader at name (Some args) f)
    by (found declared) is =
        let stands = (names_stand C M).methods reader.view class name arity declared
        (answered ((names_answered C M).methods reader.view class name arity known.ordered) (found declared) is) in
        whole-if IsKnown (is_static_kind declared.kind) (static_call reader declared args) (own_call reader declared args)
        (whole-static_call declared stands.stands args) (whole-own_call declared stands.stands args)
    by outside is = whole-valued (exprs.OutsideCall name args) outside_value refl
    by not_found is = whole-refused IsKnown unknown_member at

  pub whole-call_through : (at : ℕ) (name : Name) (args : List IExpr) (class : C) (arity : ℕ)
      → IsWhole IsKnown (call_through reader at (Some args) (method_through reader.view class name arity))
  whole-call_through at name args class arity = by (method_through reader.view class name arity) refl where
    by : (o : Option (ViewDeclaration C M)) → method_through reader.view class name arity ≡ o
        → IsWhole IsKnown (call_through reader at (Some args) o)
    by None is = whole-refused IsKnown unknown_member at
    by (Some declared) is = whole-static_call declared ((names_stand C M).static_methods reader.view class name arity declared
        (answered ((names_answered C M).static_methods reader.view class name arity known.ordered) (Some declared) is)).stands args

  pub whole-call_on : (at : ℕ) (name : Name) (value : Meant C) → IsKnown value → (args : List IExpr) (arity : ℕ)
      → IsWhole IsKnown (call_on reader at name value (Some args) (method_on reader.view name arity value.static_type))
  whole-call_on at name value is_known args arity = by (method_on reader.view name arity value.static_type) refl where
    reads : (o : OnValue (ViewDeclaration C M)) → method_on reader.view name arity value.static_type ≡ o
        → ReadsMethodOn reader.view name arity value.static_type o
    reads o is = answered ((names_answered C M).methods_on reader.view name arity value.static_type known.ordered) o is

    by : (o : OnValue (ViewDeclaration C M)) → method_on reader.view name arity value.static_type ≡ o
        → IsWhole IsKnown (call_on reader at name value (Some args) o)
    by (member declared) is =
        let stands = (names_stand C M).methods_on reader.view name arity value.static_type declared (inl (reads (member declared) is)) in
        whole-if IsKnown value.is_this (own_call reader declared args) _ (whole-own_call declared stands.2.stands args)
        (whole-valued (exprs.CallOn (reader.ids.method_id declared) value.tree (arguments_of reader declared args))
        (of_type declared.result)
        (result-known declared stands.2.stands args))
    by (static_member declared) is = whole-refused IsKnown static_by_instance at
    by outside_member is = whole-valued (exprs.OutsideCallOn name value.tree args) (outside_call value.static_type name (length args))
        (known-outside_call value.static_type name (length args) is_known)
    by missing_member is = whole-refused IsKnown unknown_member at
    by has_no_members is = whole-refused IsKnown receiver_type at
    by unread_member is = absurd (true≢false (sym (never_unread value.static_type (reads unread_member is)) ∙ is_known))

  pub whole-super_call : (at : ℕ) (name : Name) (args : List IExpr) (class : C) (arity : ℕ)
      → IsWhole IsKnown (super_call reader at name (Some args) (super_method reader.view class name arity))
  whole-super_call at name args class arity = by (super_method reader.view class name arity) refl where
    by : (f : Found (ViewDeclaration C M)) → super_method reader.view class name arity ≡ f
        → IsWhole IsKnown (super_call reader at name (Some args) f)
    by (found declared) is =
        let stands = (names_stand C M).super_methods reader.view class name arity declared
        (answered ((names_answered C M).super_methods reader.view class name arity known.ordered) (found declared) is) in
        whole-if IsKnown (is_static_kind declared.kind) (refused static_by_instance at) _ (whole-refused IsKnown static_by_instance at)
        (whole-valued (exprs.SuperCall (reader.ids.method_id declared) (arguments_of reader declared args)) (of_type declared.result)
        (result-known declared stands.2.stands args))
    by outside is = whole-valued (exprs.OutsideSuperCall name args) outside_value refl
    by not_found is = whole-refused IsKnown unknown_member at

  -- ---- creations, indexes

  never_outside : (class : C) (arity : ℕ) → ¬ ReadsConstructor reader.view class arity outside
  never_outside class arity reads = elim reads [ ]

  whole-class_created : (at : ℕ) (class : C) (args : List IExpr) (arity : ℕ)
      → IsWhole IsKnown (class_created reader at class (Some args) (constructor_from reader.view class arity))
  whole-class_created at class args arity = by (constructor_from reader.view class arity) refl where
    by : (f : Found (Constructor C M)) → constructor_from reader.view class arity ≡ f
        → IsWhole IsKnown (class_created reader at class (Some args) f)
    by (found (declared_constructor declared)) is =
        whole-valued (exprs.New (reader.ids.method_id declared) (arguments_of reader declared args)) (class_value class) refl
    by (found (default_constructor created)) is = whole-valued (exprs.NewDefault (reader.ids.class_id created)) (class_value class) refl
    by outside is = absurd (never_outside class arity
        (answered ((names_answered C M).constructors reader.view class arity known.ordered) outside is))
    by not_found is = whole-refused IsKnown unknown_member at

  pub whole-created : (at arity : ℕ) (type : ReadType C) (args : List IExpr) (seen : ViewType C)
      → IsWhole IsKnown (created reader at arity type (Some args) seen)
  whole-created at arity type args (class_type class) = whole-class_created at class args arity
  whole-created at arity type args (primitive_type name) = whole-valued (exprs.NewOutside type.tree args) outside_value refl
  whole-created at arity type args void_type = whole-valued (exprs.NewOutside type.tree args) outside_value refl
  whole-created at arity type args (outside_type text) = whole-valued (exprs.NewOutside type.tree args) outside_value refl
  whole-created at arity type args (array_type element) = whole-valued (exprs.NewOutside type.tree args) outside_value refl
  whole-created at arity type args unread_type = whole-valued (exprs.NewOutside type.tree args) outside_value refl

  pub whole-index : (at : ℕ) (array index : Meant C) → IsKnown array
      → IsWhole IsKnown (index_meant reader at array (Some index) (index_on array.static_type))
  whole-index at array index is_known = by array.static_type refl where
    given : (s : StaticType C) → array.static_type ≡ s → IsWhole IsKnown (index_meant reader at array (Some index) indexed)
    given s is = whole-valued (exprs.Index array.tree index.tree) (item array.static_type) (known-item array.static_type is_known)

    by : (s : StaticType C) → array.static_type ≡ s → IsWhole IsKnown (index_meant reader at array (Some index) (index_on s))
    by (array_value type) is = given (array_value type) is
    by outside_value is = given outside_value is
    by (class_value class) is = whole-refused IsKnown receiver_type at
    by primitive_value is = whole-refused IsKnown receiver_type at
    by null_value is = whole-refused IsKnown receiver_type at
    by void_value is = whole-refused IsKnown receiver_type at
    by mixed_value is = whole-refused IsKnown receiver_type at
    by unread_value is = absurd (true≢false (sym (ap has_unread is) ∙ is_known))
