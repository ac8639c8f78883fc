-- Several names are read as values say it: each name after the one before.
use Rattle.std.proofs.Common.{◌≡◌, ◌⊎◌, inl, inr, ℕ, suc, Bool, true, false, cond, arith, [], ◌∷◌, ◌++◌, length, Option, Some, None, option_map, Contains, slice_get, refl, sym, ◌∙◌, ap, subst}
use Rattle.std.proofs.lemmas.List.{append_assoc, length-append}
use Rattle.std.specs.FinMap.{entries}
use Rattle.jav_tree.specs.declared.expr.Expr.{Expr}
use Rattle.jav_names.proofs.FoundNames.{names_stand}
use Rattle.jav_names.proofs.NamesAnswered.{names_answered}
use Rattle.jav_names.specs.DottedNames.{Name, Names, Dotted}
use Rattle.jav_names.specs.Leftmost.{Leftmost, leftmost_variable, leftmost_class, leftmost_import, leftmost_outside}
use Rattle.jav_names.specs.LookUps.{leftmost, field_on, field_through}
use Rattle.jav_names.specs.OnValues.{StaticType, unread_value, mixed_value, OnValue, member, static_member, outside_member, missing_member, has_no_members, unread_member}
use Rattle.jav_names.specs.Standing.{IsVariableAt, is_local, is_parameter, is_field}
use Rattle.jav_names.specs.StaticTypes.{of_type, outside_field}
use Rattle.jav_names.specs.Variables.{Variable, local_variable, parameter_variable, field_variable}
use Rattle.jav_names.specs.Views.{IsOrdered, ViewField}
use Rattle.mol_scope.specs.asked.Places.{program_of, reader_of}
use Rattle.mol_scope.specs.declared.asked.place.NamePlace.{NamePlace}
use Rattle.mol_base.specs.declared.ident.Id.{Id}
use Rattle.mol_faults_names.proofs.Words.{word-Local, word-Param, word-StaticField, word-OutsideName, word-OutsideClass, word-OutsideField, word-variable, word-on}
use Rattle.mol_faults_names.specs.Reads.{Reads, field_read, first_read, local_read, member_read, names_read, next_read, outside_read, param_read, reads_on}
use Rattle.mol_spell_rules.specs.references.References.{field_target}
use Rattle.mol_resolve_rules.proofs.ProgramsViewed.{programs_viewed}
use Rattle.mol_resolve_rules.proofs.ReadEquations.{reads-Dot, reads-Name}
use Rattle.mol_resolve_rules.proofs.Stands.{from_some}
use Rattle.mol_resolve_rules.specs.Locals.{Locals}
use Rattle.mol_resolve_rules.specs.Outcomes.{Outcome, over, over_value}
use Rattle.mol_resolve_rules.specs.ProgramViews.{field_of, field_type_at, field_type_in, living_field}
use Rattle.mol_resolve_rules.specs.Readers.{Parameter, Reader, place_of}
use Rattle.mol_resolve_rules.specs.ReadTrees.{ClassPath, whole_path, front_path, no_path, path_by, path_of, Meant, Mode, Reading, dot_meant, field_meant, field_on_word, front_meant, local_meant, longer, meant, name_before, param_meant, reading, static_field_meant}
use Rattle.mol_resolve_rules.specs.StaticTypes.{field_value, field_value_in}
use Rattle.mol_spell_rules.proofs.NamesBack.{answered-by}
use Rattle.mol_spell_rules.specs.ReadInstead.{word_target}
use Rattle.mol_spell_rules.specs.SpelledExpressions.{dot_tree, dots_tree, name_tree, names_tree}
use Rattle.mol_table_rules.specs.Program.{Program, living_at, owner_at, value_at}
use Rattle.mol_values_types.specs.declared.cell.Slot.TheVariants as slots
use Rattle.mol_values_types.specs.declared.iexpr.IExpr.{IExpr}
use Rattle.mol_values_types.specs.declared.iexpr.IExpr.TheVariants as exprs
use Rattle.mol_values_types.specs.declared.known.Known.{Known}
use Rattle.mol_values_types.specs.declared.known.Known.TheVariants as knowns
use Rattle.mol_values_types.specs.declared.value.Value.{Value}
use Rattle.mol_values_types.specs.declared.value.Value.TheVariants as values

-- Two static types are one; or neither has members, where a field has no type.
abbrev pub Alike : StaticType Id → StaticType Id → Type 0
Alike first second = (first ≡ second) ⊎ ((first ≡ unread_value) × (second ≡ mixed_value))

-- A value is read so.
pub data Says : Option (Meant Id) → Option Reads → Type 0 where
  nothing : Says None None
  value : (meant : Meant Id) (read : Reads) → word_target meant.tree ≡ Some read.target → Alike meant.static_type read.type
      → Says (Some meant) (Some read)

-- ---- the types of fields

alike-in : (o : Option Value) → Alike (of_type (field_type_in o)) (field_value_in o)
alike-in None = inr (refl, refl)
alike-in (Some (values.Value type init)) = inl refl
alike-in (Some (values.Live live)) = inr (refl, refl)
alike-in (Some (values.Package name)) = inr (refl, refl)
alike-in (Some (values.Owner owner)) = inr (refl, refl)
alike-in (Some (values.Method method)) = inr (refl, refl)
alike-in (Some (values.Name name)) = inr (refl, refl)
alike-in (Some (values.Super parent)) = inr (refl, refl)
alike-in (Some (values.Result type)) = inr (refl, refl)
alike-in (Some (values.Params params)) = inr (refl, refl)
alike-in (Some (values.Kind kind)) = inr (refl, refl)
alike-in (Some (values.Fixed fixed)) = inr (refl, refl)
alike-in (Some (values.Words words)) = inr (refl, refl)
alike-in (Some (values.Notes notes)) = inr (refl, refl)
alike-in (Some (values.Body body)) = inr (refl, refl)

module _ (place : NamePlace) where
  abbrev program : Program
  program = program_of place

  abbrev reader : Reader Id Id
  reader = reader_of place

  ordered : IsOrdered reader.view
  ordered = programs_viewed.ordered program

  typed-made : (entry : Id × Known) (field : ViewField Id Id) → living_field program entry ≡ Some field
      → field.type ≡ field_type_at program field.key
  typed-made (id, knowns.Field) field is = by (living_at program id) (owner_at program id) is where
    by : (lives : Bool) (owner : Option Id) → cond lives (option_map (field_of program id) owner) None ≡ Some field
        → field.type ≡ field_type_at program field.key
    by true (Some owner) is =
        let same : field_of program id owner ≡ field = cc in
        subst (λ (f : ViewField Id Id). f.type ≡ field_type_at program f.key) same refl
    by true None is = absurd cc
    by false owner is = absurd cc
  typed-made (id, knowns.Class) field is = absurd cc
  typed-made (id, knowns.Method kind) field is = absurd cc
  typed-made (id, knowns.Decl method) field is = absurd cc
  typed-made (id, knowns.Param method) field is = absurd cc

  field-alike : (field : ViewField Id Id) → Contains reader.view.fields field
      → Alike (of_type field.type) (field_value program field.key)
  field-alike field stands =
      let made = from_some (living_field program) (entries program.known) field stands in
      subst (λ type. Alike (of_type type) (field_value program field.key)) (sym (typed-made made.0 field made.2))
      (alike-in (value_at program field.key slots.Value))

  -- a word for a field
  field-says : (tree : IExpr) (field : ViewField Id Id) → Contains reader.view.fields field
      → word_target tree ≡ Some (field_target field.key)
      → Says (Some (meant reader tree (of_type field.type))) (Some (field_read program reader field))
  field-says tree field stands word = value (meant reader tree (of_type field.type)) (field_read program reader field) word
      (field-alike field stands)

  -- ---- one more name

  through-stands : (class : Id) (name : Name) (field : ViewField Id Id) → field_through reader.view class name ≡ Some field
      → Contains reader.view.fields field
  through-stands class name field found = ((names_stand Id Id).static_fields reader.view class name field
      (answered-by ((names_answered Id Id).static_fields reader.view class name ordered) (Some field) found)).stands

  on-stands : (name : Name) (type : StaticType Id) (field : ViewField Id Id) → field_on reader.view name type ≡ member field
      → Contains reader.view.fields field
  on-stands name type field found = ((names_stand Id Id).fields_on reader.view name type field
      (inl (answered-by ((names_answered Id Id).fields_on reader.view name type ordered) (member field) found))).2.stands

  static-says : (class : Id) (name : Name) (o : Option (ViewField Id Id)) → field_through reader.view class name ≡ o
      → Says (static_field_meant reader 0 o).value (option_map (field_read program reader) o)
  static-says class name None found = nothing
  static-says class name (Some field) found = field-says (exprs.StaticField field.key) field (through-stands class name field found)
      (word-StaticField field.key)

  front-says : (mode : Mode) → Says (front_meant reader 0 mode).value None
  front-says None = nothing
  front-says (Some follow) = nothing

  member-says : (name : Name) (m : Meant Id) (type : StaticType Id) → m.static_type ≡ type → (o : OnValue (ViewField Id Id))
      → field_on reader.view name type ≡ o → Says (field_meant reader 0 name m o).value (member_read program reader name type o)
  member-says name m type same (member field) found =
      field-says (field_on_word reader m field.key) field (on-stands name type field found)
      (word-on reader m field.key)
  member-says name m type same outside_member found =
      value (meant reader (exprs.OutsideField name m.tree) (outside_field m.static_type name)) (outside_read name (outside_field type name))
      (word-OutsideField name m.tree) (inl (ap (λ t. outside_field t name) same))
  member-says name m type same (static_member field) found = nothing
  member-says name m type same missing_member found = nothing
  member-says name m type same has_no_members found = nothing
  member-says name m type same unread_member found = nothing

  value-says : (name : Name) (m : Meant Id) (r : Reads) → Alike m.static_type r.type
      → Says (field_meant reader 0 name m (field_on reader.view name m.static_type)).value
      (member_read program reader name r.type (field_on reader.view name r.type))
  value-says name m r (inl same) =
      subst (λ type. Says (field_meant reader 0 name m (field_on reader.view name type)).value
      (member_read program reader name r.type (field_on reader.view name r.type))) (sym same)
      (member-says name m r.type same (field_on reader.view name r.type) refl)
  value-says name m r (inr neither) =
      subst (λ type. Says (field_meant reader 0 name m (field_on reader.view name type)).value
      (member_read program reader name r.type (field_on reader.view name r.type))) (sym neither.0)
      (subst (λ type. Says None (member_read program reader name type (field_on reader.view name type))) (sym neither.1) nothing)

  over-says : (name : Name) (outcome : Outcome (Meant Id)) (v : Option (Meant Id)) (r : Option Reads) → outcome.value ≡ v → Says v r
      → Says (over outcome (λ m. field_meant reader 0 name m (field_on reader.view name m.static_type))).value
      (next_read program reader name no_path r)
  over-says name outcome v r is nothing =
      subst (λ (o : Option (Meant Id)). Says (over_value o outcome.faults
      (λ m. field_meant reader 0 name m (field_on reader.view name m.static_type))).value None) (sym is) nothing
  over-says name outcome v r is (value m read word alike) =
      subst (λ (o : Option (Meant Id)). Says (over_value o outcome.faults
      (λ m. field_meant reader 0 name m (field_on reader.view name m.static_type))).value
      (member_read program reader name read.type (field_on reader.view name read.type))) (sym is) (value-says name m read alike)

  next-says : (name : Name) (mode : Mode) (outcome : Outcome (Meant Id)) (r : Option Reads) → Says outcome.value r → (path : ClassPath Id)
      → Says (dot_meant reader 0 name mode outcome path).value (next_read program reader name path r)
  next-says name mode outcome r says (whole_path class) = static-says class name (field_through reader.view class name) refl
  next-says name mode outcome r says front_path = front-says mode
  next-says name mode outcome r says no_path = over-says name outcome outcome.value r refl says

  module _ (locals : Locals Id) where
    -- ---- the first name

    local-says : (o : Option ℕ) → Says (local_meant reader locals o).value
        (option_map (local_read program reader locals) o)
    local-says None = nothing
    local-says (Some number) = value _ _ (word-Local number) (inl refl)

    param-says : (o : Option (Parameter Id)) → Says (param_meant reader o).value
        (option_map (param_read program reader locals) o)
    param-says None = nothing
    param-says (Some param) = value _ _ (word-Param param.id) (inl refl)

    first-stands : (name : Name) (follow : Names) (field : ViewField Id Id)
        → leftmost reader.view (place_of reader locals) name follow ≡ leftmost_variable (field_variable field)
        → Contains reader.view.fields field
    first-stands name follow field is = by (field_variable field) refl ((names_stand Id Id).leftmost_variables reader.view
        (place_of reader locals) name follow (field_variable field)
        (answered-by ((names_answered Id Id).leftmost reader.view (place_of reader locals) name follow ordered)
        (leftmost_variable (field_variable field)) is)) where
          by : (v : Variable Id Id) → v ≡ field_variable field → IsVariableAt reader.view (place_of reader locals) name v
              → Contains reader.view.fields field
          by v same (is_local at) = absurd cc
          by v same (is_parameter at) = absurd cc
          by v same (is_field {field = other} of) =
              subst (Contains reader.view.fields) (let one : other ≡ field = cc in one) of.stands

    first-says : (name : Name) (follow : Names) (l : Leftmost Id Id) → leftmost reader.view (place_of reader locals) name follow ≡ l
        → Says (name_before reader name locals l).value (first_read program reader locals name l)
    first-says name follow (leftmost_variable (local_variable number)) is = local-says (slice_get locals.in_scope number)
    first-says name follow (leftmost_variable (parameter_variable number)) is = param-says (slice_get reader.params number)
    first-says name follow (leftmost_variable (field_variable field)) is =
        field-says _ field (first-stands name follow field is) (word-variable reader field.is_static field.key)
    first-says name follow (leftmost_class class count) is = nothing
    first-says name follow (leftmost_import import) is = value _ _ (word-OutsideClass import) (inl refl)
    first-says name follow leftmost_outside is = value _ _ (word-OutsideName name) (inl refl)

    -- ---- all of them

    abbrev pub left : Name → Names → Leftmost Id Id
    left first rest = leftmost reader.view (place_of reader locals) first rest

    dots-say : (tree : Expr) (first : Name) (done rest follow : Names)
        → (reading reader tree).names ≡ Some (record { first = first; rest = done }) → (r : Option Reads)
        → Says ((reading reader tree).means locals (Some (rest ++ follow))).value r
        → Says ((reading reader (dots_tree tree rest)).means locals (Some follow)).value
        (reads_on program reader (left first (done ++ (rest ++ follow))) (suc (length done)) r rest)
    dots-say tree first done [] follow named r says = says
    dots-say tree first done (name ∷ rest) follow named r says =
        let l = left first (done ++ name ∷ (rest ++ follow)) in
        let path = path_by (suc (length done)) l in
        let more = next_read program reader name path r in
        let tree' = dot_tree tree name in
        let named' : (reading reader tree').names ≡ Some (record { first = first; rest = done ++ name ∷ [] }) =
        ap (λ (r : Reading Id). r.names) (reads-Dot reader 0 tree name (reading reader tree) refl) ∙ ap (longer name) named in
        let says' : Says ((reading reader tree').means locals (Some (rest ++ follow))).value more =
        subst (λ (r : Reading Id). Says (r.means locals (Some (rest ++ follow))).value more)
        (sym (reads-Dot reader 0 tree name (reading reader tree) refl))
        (subst (λ (o : Option Dotted). Says (dot_meant reader 0 name (Some (rest ++ follow))
        ((reading reader tree).means locals (Some (name ∷ (rest ++ follow)))) (path_of reader locals o (name ∷ (rest ++ follow)))).value more)
        (sym named)
        (next-says name (Some (rest ++ follow)) ((reading reader tree).means locals (Some (name ∷ (rest ++ follow)))) r says path)) in
        subst (λ (names : Names). Says ((reading reader (dots_tree tree' rest)).means locals (Some follow)).value
        (reads_on program reader (left first names) (suc (suc (length done))) more rest)) (append_assoc done (name ∷ []) (rest ++ follow))
        (subst (λ count. Says ((reading reader (dots_tree tree' rest)).means locals (Some follow)).value
        (reads_on program reader (left first ((done ++ name ∷ []) ++ (rest ++ follow))) count more rest)) (longer-is done name)
        (dots-say tree' first (done ++ name ∷ []) rest follow named' more says')) where
          longer-is : (done : Names) (name : Name) → suc (length (done ++ name ∷ [])) ≡ suc (suc (length done))
          longer-is done name = ap suc (length-append done (name ∷ []) ∙ omega arith)

    pub names-say : (names : Dotted) (follow : Names)
        → Says ((reading reader (names_tree names)).means locals (Some follow)).value
        (names_read program reader locals names.first names.rest (left names.first (names.rest ++ follow)))
    names-say names follow =
        dots-say (name_tree names.first) names.first [] names.rest follow
        (ap (λ (r : Reading Id). r.names) (reads-Name reader 0 names.first)) _
        (subst (λ (r : Reading Id). Says (r.means locals (Some (names.rest ++ follow))).value
        (first_read program reader locals names.first (left names.first (names.rest ++ follow))))
        (sym (reads-Name reader 0 names.first))
        (first-says names.first (names.rest ++ follow) (left names.first (names.rest ++ follow)) refl))
