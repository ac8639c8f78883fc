-- A printed name that reads as its target is read as a word that says it.
use Rattle.std.proofs.Common.{◌≡◌, ℕ, Bool, true, false, List, [], map, Option, Some, None, option_map, slice_get, Contains, refl, sym, ◌∙◌, ap, subst, true≢false}
use Rattle.std.specs.Prelude.{IsTrue, ⊤}
use Rattle.std.specs.Option.{option_map_or}
use Rattle.std.proofs.lemmas.Option.{slice_get-map}
use Rattle.jav_names.specs.DottedNames.{Name, Names, cut}
use Rattle.jav_names.specs.Laws.{IsTheAnswer}
use Rattle.jav_names.specs.Leftmost.{Leftmost, leftmost_variable, leftmost_class, leftmost_import, leftmost_outside}
use Rattle.jav_names.specs.LookUps.{variable, leftmost}
use Rattle.jav_names.specs.OnValues.{StaticType, mixed_value, outside_value}
use Rattle.jav_names.specs.Standing.{IsVariableAt}
use Rattle.jav_names.specs.StaticTypes.{of_type}
use Rattle.jav_names.specs.Variables.{Variable, local_variable, parameter_variable, field_variable}
use Rattle.jav_names.specs.Views.{ViewType, ViewField, Found, found, outside, not_found, IsOrdered}
use Rattle.jav_names.proofs.FoundNames.{names_stand}
use Rattle.jav_names.proofs.NamesAnswered.{names_answered}
use Rattle.mol_base.specs.declared.ident.Id.{Id}
use Rattle.mol_spell_rules.specs.references.References.{Target, class_target, field_target, method_target, param_target, default_target, local_target, outside_target}
use Rattle.mol_resolve_rules.proofs.ProgramsViewed.{programs_viewed}
use Rattle.mol_resolve_rules.proofs.ReadEquations.{reads-Name}
use Rattle.mol_resolve_rules.specs.Locals.{Local, Locals}
use Rattle.mol_resolve_rules.specs.Outcomes.{Outcome, fine}
use Rattle.mol_resolve_rules.specs.Readers.{Parameter, Reader, place_of}
use Rattle.mol_resolve_rules.specs.ReadTrees.{Meant, Mode, Reading, local_meant, param_meant, field_word, variable_meant, name_alone, name_before, reading}
use Rattle.mol_resolve_rules.specs.Says.{OutsideText, in_full, of_import, no_more, expr_text, expr_text_step, argument_text_step, NamesField, as_own, as_static, Says, equal_expr, one_field, text_of_expr}
use Rattle.mol_resolve_rules.specs.StaticTypes.{field_value, param_value}
use Rattle.mol_values_types.specs.declared.iexpr.IExpr.{IExpr}
use Rattle.mol_values_types.specs.declared.iexpr.IExpr.TheFolds.{fold-roll-IExpr}
use Rattle.mol_values_types.specs.declared.iexpr.IExpr.TheOpen.{IExpr-F}
use Rattle.mol_values_types.specs.declared.iexpr.IExpr.TheVariants as exprs
use Rattle.mol_spell_rules.specs.Answers.{answer, field_of, variable_answer, name_answer, before_answer, path_answer}
use Rattle.mol_spell_rules.specs.ReadBack.{SeesProgram}
use Rattle.mol_spell_rules.specs.SpelledExpressions.{name_tree, asks_name}
use Rattle.mol_spell_rules.specs.Writers.{Writer}

-- ---- texts outside

text-OutsideName : (name : Name) → expr_text (exprs.OutsideName name) ≡ in_full name
text-OutsideName name = ap expr_text (sym (exprs.rolls-OutsideName name))
    ∙ fold-roll-IExpr OutsideText OutsideText expr_text_step argument_text_step (IExpr-F.OutsideName name)

text-OutsideClass : (full : Name) → expr_text (exprs.OutsideClass full) ≡ of_import full []
text-OutsideClass full = ap expr_text (sym (exprs.rolls-OutsideClass full))
    ∙ fold-roll-IExpr OutsideText OutsideText expr_text_step argument_text_step (IExpr-F.OutsideClass full)

pub text-of-name : (name : Name) → (expr_text (exprs.OutsideName name)).text ≡ Some name
text-of-name name = ap (λ (of : OutsideText). of.text) (text-OutsideName name)

-- a name outside says what has its text
says-name : (name : Name) (e : IExpr) → (expr_text e).text ≡ Some name → Says (exprs.OutsideName name) e
says-name name e is = text_of_expr (record {
  text = name;
  first_is = ap (λ (of : OutsideText). of.text) (text-OutsideName name);
  second_is = is;
  full = ap (λ (of : OutsideText). of.is_in_full) (text-OutsideName name);
})

-- so does an import of one part
says-import : (full : Name) (e : IExpr) → (expr_text e).text ≡ Some full → no_more (cut full).rest ≡ true → Says (exprs.OutsideClass full) e
says-import full e is one_part = text_of_expr (record {
  text = full;
  first_is = ap (λ (of : OutsideText). of.text) (text-OutsideClass full);
  second_is = is;
  full = ap (λ (of : OutsideText). of.is_in_full) (text-OutsideClass full) ∙ one_part;
})

-- what a rule reads, of what its function finds
pub answered-by : {A : Type 0} {Reads : A → Type 0} {answer : A} → IsTheAnswer Reads answer → (reading : A) → answer ≡ reading
    → Reads reading
answered-by {A} {Reads} is reading same = subst Reads same is.holds

-- the view ascends by its keys
pub view-ordered : (writer : Writer) → SeesProgram writer → IsOrdered writer.reader.view
view-ordered writer sees = subst IsOrdered (sym sees.view) (programs_viewed.ordered writer.program)

pub never-this : {P : Type 0} → IsTrue false → P
never-this is = absurd (true≢false (sym is))

module _ (writer : Writer) (sees : SeesProgram writer) (locals : Locals Id) where
  abbrev reader : Reader Id Id
  reader = writer.reader

  -- ---- what reading comes to

  abbrev pub value_of : IExpr → Bool → StaticType Id → Meant Id
  value_of tree is_this type = record { tree = tree; is_this = is_this; static_type = type }

  -- It comes to a value that says this, of this static type; and if that is `this`, both are.
  abbrev pub IsBack : Outcome (Meant Id) → Bool → StaticType Id → IExpr → Type 0
  IsBack outcome is_this type e = (said : IExpr) × (outcome ≡ fine (value_of said is_this type)) × Says said e
      × (IsTrue is_this → (said ≡ exprs.This) × (e ≡ exprs.This))

  abbrev types : List (ViewType Id)
  types = map (λ (local : Local Id). local.type) locals.declared

  abbrev local_type : ℕ → StaticType Id
  local_type number = option_map_or of_type (slice_get types number) mixed_value

  local-types : (number : ℕ)
      → option_map_or (λ (local : Local Id). of_type local.type) (slice_get locals.declared number) mixed_value ≡ local_type number
  local-types number = by (slice_get locals.declared number)
      ∙ ap (λ (o : Option (ViewType Id)). option_map_or of_type o mixed_value)
      (sym (slice_get-map (λ (local : Local Id). local.type) locals.declared number)) where
        by : (o : Option (Local Id)) → option_map_or (λ (local : Local Id). of_type local.type) o mixed_value
            ≡ option_map_or of_type (option_map (λ (local : Local Id). local.type) o) mixed_value
        by None = refl
        by (Some local) = refl

  -- An expression is a name of this target, and has this static type.
  abbrev pub NamesTarget : Target → IExpr → StaticType Id → Type 0
  NamesTarget (local_target number) e type = (e ≡ exprs.Local number) × (type ≡ local_type number)
  NamesTarget (param_target id) e type = (e ≡ exprs.Param id) × (type ≡ param_value writer.program id)
  NamesTarget (field_target field) e type = NamesField field e × (type ≡ field_value writer.program field)
  NamesTarget (outside_target text) e type = ((expr_text e).text ≡ Some text) × (type ≡ outside_value)
  NamesTarget (class_target class) e type = ⊥
  NamesTarget (method_target method) e type = ⊥
  NamesTarget (default_target class) e type = ⊥

  -- ---- variables

  field-back : (field : ViewField Id Id) → Contains reader.view.fields field → (e : IExpr) (type : StaticType Id)
      → NamesTarget (field_of reader field) e type
      → IsBack (fine (value_of (field_word reader field.is_static (reader.ids.member_id field.key)) false (of_type field.type)))
      false type e
  field-back field stands e type names = by field.is_static where
    same : of_type field.type ≡ type
    same = sees.fields field stands ∙ sym names.1

    by : (b : Bool)
        → IsBack (fine (value_of (field_word reader b (reader.ids.member_id field.key)) false (of_type field.type))) false type e
    by true = (
      exprs.StaticField (reader.ids.member_id field.key),
      ap (λ type. fine (value_of (exprs.StaticField (reader.ids.member_id field.key)) false type)) same,
      one_field as_static names.0,
      never-this,
    )
    by false = (
      exprs.Own (reader.ids.member_id field.key),
      ap (λ type. fine (value_of (exprs.Own (reader.ids.member_id field.key)) false type)) same,
      one_field as_own names.0,
      never-this,
    )

  local-back : (o : Option ℕ) (t : Target) (e : IExpr) (type : StaticType Id)
      → option_map (λ number. local_target number) o ≡ Some t → NamesTarget t e type → IsBack (local_meant reader locals o) false type e
  local-back None t e type is names = absurd cc
  local-back (Some number) t e type is names =
      let same : local_target number ≡ t = cc in
      let named = subst (λ t. NamesTarget t e type) (sym same) names in (
        exprs.Local number,
        ap (λ type. fine (value_of (exprs.Local number) false type)) (local-types number ∙ sym named.1),
        subst (Says (exprs.Local number)) (sym named.0) equal_expr,
        never-this,
      )

  param-back : (place : ℕ) (o : Option (Parameter Id)) → slice_get reader.params place ≡ o → (t : Target) (e : IExpr) (type : StaticType Id)
      → option_map (λ (param : Parameter Id). param_target param.id) o ≡ Some t → NamesTarget t e type
      → IsBack (param_meant reader o) false type e
  param-back place None at t e type is names = absurd cc
  param-back place (Some param) at t e type is names =
      let same : param_target param.id ≡ t = cc in
      let named = subst (λ t. NamesTarget t e type) (sym same) names in (
        exprs.Param param.id,
        ap (λ type. fine (value_of (exprs.Param param.id) false type)) (sees.params place param at ∙ sym named.1),
        subst (Says (exprs.Param param.id)) (sym named.0) equal_expr,
        never-this,
      )

  variable-back : (v : Variable Id Id) → ((field : ViewField Id Id) → v ≡ field_variable field → Contains reader.view.fields field)
      → (t : Target) (e : IExpr) (type : StaticType Id) → variable_answer reader locals v ≡ Some t → NamesTarget t e type
      → IsBack (variable_meant reader locals v) false type e
  variable-back (local_variable place) stands t e type is names = local-back (slice_get locals.in_scope place) t e type is names
  variable-back (parameter_variable place) stands t e type is names =
      param-back place (slice_get reader.params place) refl t e type is names
  variable-back (field_variable field) stands t e type is names =
      let same : field_of reader field ≡ t = cc in
      field-back field (stands field refl) e type (subst (λ t. NamesTarget t e type) (sym same) names)

  -- a field that is found stands in the view
  field-stands : (name : Name) (v : Variable Id Id) → IsVariableAt reader.view (place_of reader locals) name v
      → (field : ViewField Id Id) → v ≡ field_variable field → Contains reader.view.fields field
  field-stands name v (IsVariableAt.is_local is) field same = absurd cc
  field-stands name v (IsVariableAt.is_parameter is) field same = absurd cc
  field-stands name v (IsVariableAt.is_field {field = here} is) field same =
      let fields : here ≡ field = cc in subst (Contains reader.view.fields) fields is.stands

  alone-back : (name : Name) (t : Target) (e : IExpr) (type : StaticType Id)
      → name_answer reader locals name (variable reader.view (place_of reader locals) name) ≡ Some t → NamesTarget t e type
      → IsBack (name_alone reader 0 name locals (variable reader.view (place_of reader locals) name)) false type e
  alone-back name t e type is names = by (variable reader.view (place_of reader locals) name) refl is where
    by : (f : Found (Variable Id Id)) → variable reader.view (place_of reader locals) name ≡ f → name_answer reader locals name f ≡ Some t
        → IsBack (name_alone reader 0 name locals f) false type e
    by (found v) at is = variable-back v (field-stands name v ((names_stand Id Id).variables reader.view (place_of reader locals) name v
        (answered-by ((names_answered Id Id).variables reader.view (place_of reader locals) name (view-ordered writer sees)) (found v) at)))
        t e type is names
    by outside at is =
        let same : outside_target name ≡ t = cc in
        let named = subst (λ t. NamesTarget t e type) (sym same) names in (
          exprs.OutsideName name,
          ap (λ type. fine (value_of (exprs.OutsideName name) false type)) (sym named.1),
          says-name name e named.0,
          never-this,
        )
    by not_found at is = absurd cc

  -- a text has one part, if the target is a text
  abbrev pub HasOnePart : Target → Type 0
  HasOnePart (outside_target text) = no_more (cut text).rest ≡ true
  HasOnePart t = ⊤

  leftmost-stands : (name : Name) (follow : Names) (v : Variable Id Id)
      → leftmost reader.view (place_of reader locals) name follow ≡ leftmost_variable v
      → (field : ViewField Id Id) → v ≡ field_variable field → Contains reader.view.fields field
  leftmost-stands name follow v at = field-stands name v ((names_stand Id Id).leftmost_variables reader.view (place_of reader locals)
      name follow v
      (answered-by ((names_answered Id Id).leftmost reader.view (place_of reader locals) name follow (view-ordered writer sees))
      (leftmost_variable v) at))

  outside-back : (name : Name) (e : IExpr) (type : StaticType Id) → NamesTarget (outside_target name) e type
      → IsBack (fine (value_of (exprs.OutsideName name) false outside_value)) false type e
  outside-back name e type named = (
    exprs.OutsideName name,
    ap (λ type. fine (value_of (exprs.OutsideName name) false type)) (sym named.1),
    says-name name e named.0,
    never-this,
  )

  before-back : (name : Name) (follow : Names) (t : Target) (e : IExpr) (type : StaticType Id)
      → before_answer reader locals name (leftmost reader.view (place_of reader locals) name follow) ≡ Some t → NamesTarget t e type
      → HasOnePart t
      → IsBack (name_before reader name locals (leftmost reader.view (place_of reader locals) name follow)) false type e
  before-back name follow t e type is names one_part = by (leftmost reader.view (place_of reader locals) name follow) refl is where
    by : (l : Leftmost Id Id) → leftmost reader.view (place_of reader locals) name follow ≡ l → before_answer reader locals name l ≡ Some t
        → IsBack (name_before reader name locals l) false type e
    by (leftmost_variable v) at is = variable-back v (leftmost-stands name follow v at) t e type is names
    by (leftmost_class class count) at is =
        let same : class_target (reader.ids.class_id class) ≡ t = cc in
        absurd (subst (λ t. NamesTarget t e type) (sym same) names)
    by (leftmost_import import) at is =
        let same : outside_target import ≡ t = cc in
        let named = subst (λ t. NamesTarget t e type) (sym same) names in (
          exprs.OutsideClass import,
          ap (λ type. fine (value_of (exprs.OutsideClass import) false type)) (sym named.1),
          says-import import e named.0 (subst HasOnePart (sym same) one_part),
          never-this,
        )
    by leftmost_outside at is =
        let same : outside_target name ≡ t = cc in
        outside-back name e type (subst (λ t. NamesTarget t e type) (sym same) names)

  -- an outside class that is written by one name, before a dot
  path-back : (name : Name) (follow : Names) (full : Name) (e : IExpr) → e ≡ exprs.OutsideClass full
      → path_answer reader (record { first = name; rest = [] }) (leftmost reader.view (place_of reader locals) name follow)
      ≡ Some (outside_target full)
      → IsBack (name_before reader name locals (leftmost reader.view (place_of reader locals) name follow)) false outside_value e
  path-back name follow full e of is = by (leftmost reader.view (place_of reader locals) name follow) is where
    by : (l : Leftmost Id Id) → path_answer reader (record { first = name; rest = [] }) l ≡ Some (outside_target full)
        → IsBack (name_before reader name locals l) false outside_value e
    by (leftmost_variable v) is = absurd cc
    by (leftmost_class class count) is = absurd cc
    by (leftmost_import import) is =
        let same : import ≡ full = cc in (
          exprs.OutsideClass import,
          refl,
          subst (Says (exprs.OutsideClass import)) (ap (λ full. exprs.OutsideClass full) same ∙ sym of) equal_expr,
          never-this,
        )
    by leftmost_outside is =
        let same : name ≡ full = cc in (
          exprs.OutsideName name,
          refl,
          says-name name e (ap (λ e. (expr_text e).text) of ∙ ap (λ (of : OutsideText). of.text) (text-OutsideClass full)
              ∙ ap (λ t. Some t) (sym same)),
          never-this,
        )

  -- ---- names

  -- a name, however it stands
  pub name-back : (name : Name) (mode : Mode) (t : Target) (e : IExpr) (type : StaticType Id)
      → answer reader locals (asks_name writer locals name mode) ≡ Some t → NamesTarget t e type → HasOnePart t
      → IsBack ((reading reader (name_tree name)).means locals mode) false type e
  name-back name None t e type is names one_part =
      subst (λ (r : Reading Id). IsBack (r.means locals None) false type e) (sym (reads-Name reader 0 name))
      (alone-back name t e type is names)
  name-back name (Some follow) t e type is names one_part =
      subst (λ (r : Reading Id). IsBack (r.means locals (Some follow)) false type e) (sym (reads-Name reader 0 name))
      (before-back name follow t e type is names one_part)

  pub class-alone-back : (name : Name) (full : Name) (e : IExpr) → e ≡ exprs.OutsideClass full
      → name_answer reader locals name (variable reader.view (place_of reader locals) name) ≡ Some (outside_target full)
      → IsBack ((reading reader (name_tree name)).means locals None) false outside_value e
  class-alone-back name full e of is =
      subst (λ (r : Reading Id). IsBack (r.means locals None) false outside_value e) (sym (reads-Name reader 0 name))
      (alone-back name (outside_target full) e outside_value is
      (ap (λ e. (expr_text e).text) of ∙ ap (λ (of : OutsideText). of.text) (text-OutsideClass full), refl))

  pub class-before-back : (name : Name) (follow : Names) (full : Name) (e : IExpr) → e ≡ exprs.OutsideClass full
      → path_answer reader (record { first = name; rest = [] }) (leftmost reader.view (place_of reader locals) name follow)
      ≡ Some (outside_target full)
      → IsBack ((reading reader (name_tree name)).means locals (Some follow)) false outside_value e
  class-before-back name follow full e of is =
      subst (λ (r : Reading Id). IsBack (r.means locals (Some follow)) false outside_value e) (sym (reads-Name reader 0 name))
      (path-back name follow full e of is)
