-- In the file of a class the names of a program are read by the program's own view.
use Rattle.std.proofs.Common.{◌≡◌, ◌⊎◌, inl, inr, ℕ, Bool, true, false, cond, ◌&&◌, ◌||◌, not, List, [], ◌∷◌, ◌++◌, map, length, flat_map, filter_map, find, slice_get, Option, Some, None, option_map, Contains, refl, sym, ◌∙◌, ap, subst, true≢false}
use Rattle.std.specs.Prelude.{IsTrue, is_some, nat_le}
use Rattle.std.specs.FinMap.{get, entries}
use Rattle.std.specs.List.{AllByRecursion, list_all, list_any}
use Rattle.std.specs.Option.{option_map_or, option_and_then}
use Rattle.mol_base.specs.Limits.{max_items}
use Rattle.mol_base.specs.Order.{id_cmp-total, id_cmp-IsAntisymmetric}
use Rattle.mol_base.specs.declared.ident.Id.{Id}
use Rattle.mol_table_rules.proofs.Counts.{each_found}
use Rattle.mol_table_rules.proofs.Living.{same_id-own, id_tied}
use Rattle.mol_table_rules.specs.Forms.{differ, is_param, are_params, is_formed, has_form}
use Rattle.mol_table_rules.specs.Mentions.{Mention, a_method, a_listed_param, type_mentions, param_mentions}
use Rattle.mol_table_rules.specs.Program.{Program, same_id, value_at, living_at, owner_at, params_in, params_at, method_in as its_method}
use Rattle.mol_table_rules.specs.Rules.{IsProgram, fills, refers_rightly}
use Rattle.mol_values_types.specs.Slots.{has_slot}
use Rattle.mol_values_types.specs.declared.cell.Cell.{Cell}
use Rattle.mol_values_types.specs.declared.cell.Slot.{Slot}
use Rattle.mol_values_types.specs.declared.cell.Slot.TheVariants as slots
use Rattle.mol_values_types.specs.declared.kind.MethodKind.{MethodKind}
use Rattle.mol_values_types.specs.declared.kind.MethodKind.TheVariants.{Instance, Static, Constructor}
use Rattle.mol_values_types.specs.declared.known.Known.{Known}
use Rattle.mol_values_types.specs.declared.known.Known.TheVariants as knowns
use Rattle.mol_values_types.specs.declared.param.Param.{Param}
use Rattle.mol_values_types.specs.declared.value.Value.{Value}
use Rattle.mol_values_types.specs.declared.value.Value.TheVariants as values
use Rattle.jav_names.proofs.Lists.{stands_first, stands_later, stands_where, stands_nowhere, stands-mapped}
use Rattle.jav_names.specs.DottedNames.{Names}
use Rattle.jav_names.specs.OnValues.{StaticType, mixed_value}
use Rattle.jav_names.specs.StaticTypes.{of_type}
use Rattle.jav_names.specs.Views.{ViewField, ViewDeclaration}
use Rattle.mol_resolve_rules.proofs.Stands.{from_map, from_some, in_place}
use Rattle.mol_resolve_rules.specs.ProgramReaders.{parameter_in}
use Rattle.mol_resolve_rules.specs.ProgramViews.{seen, field_type_in, field_of, living_field, result_in, result_at, method_in, method_at, declaration_of, living_declaration}
use Rattle.mol_resolve_rules.specs.Readers.{Parameter}
use Rattle.mol_resolve_rules.specs.StaticTypes.{field_value_in, field_value, result_value_in, result_value, present_param, param_value}
use Rattle.mol_spell_rules.specs.ReadBack.{SeesProgram}
use Rattle.mol_spell_rules.specs.SimpleNames.{unit_writer, imports_in, is_simple_in}
use Rattle.mol_spell_rules.specs.UnitCells.{reader_as}
use Rattle.mol_spell_rules.specs.Writers.{Importable, Writer}

-- ---- lists

and-parts : (a b : Bool) → (a && b) ≡ true → (a ≡ true) × (b ≡ true)
and-parts true b is = (refl, is)
and-parts false b is = absurd (true≢false (sym is))

module _ {X : Type 0} where
  of-all : (P : X → Type 0) (xs : List X) → AllByRecursion P xs → (x : X) → Contains xs x → P x
  of-all P [] all x stands = absurd (stands_nowhere x stands)
  of-all P (y ∷ xs) all x stands = by (stands_where y x xs stands) (of-all P xs all.1 x) where
    by : (y ≡ x) ⊎ Contains xs x → (Contains xs x → P x) → P x
    by (inl same) more = subst P same all.0
    by (inr later) more = more later

  any-stands : (p : X → Bool) (xs : List X) (x : X) → Contains xs x → p x ≡ true → list_any p xs ≡ true
  any-stands p [] x stands is = absurd (stands_nowhere x stands)
  any-stands p (y ∷ xs) x stands is = by (stands_where y x xs stands) (λ later. any-stands p xs x later is) where
    or-true : (b : Bool) → (b || true) ≡ true
    or-true true = refl
    or-true false = refl

    by : (y ≡ x) ⊎ Contains xs x → (Contains xs x → list_any p xs ≡ true) → (p y || list_any p xs) ≡ true
    by (inl same) more = ap (λ b. b || list_any p xs) (ap p same ∙ is)
    by (inr later) more = ap (λ b. p y || b) (more later) ∙ or-true (p y)

-- ---- parameters

abbrev ids : List Param → List Id
ids params = map (λ (param : Param). param.id) params

-- where no identity stands twice, a parameter is the one of its identity
find-own : (params : List Param) (param : Param) → differ (ids params) ≡ true → Contains params param
    → find (λ (other : Param). same_id param.id other.id) params ≡ Some param
find-own [] param differs stands = absurd (stands_nowhere param stands)
find-own (first ∷ params) param differs stands = by (stands_where first param params stands) (find-own params param parts.1) where
  parts : (not (list_any (same_id first.id) (ids params)) ≡ true) × (differ (ids params) ≡ true)
  parts = and-parts (not (list_any (same_id first.id) (ids params))) (differ (ids params)) differs

  rest : Option Param
  rest = find (λ (other : Param). same_id param.id other.id) params

  later-at : (b : Bool) → same_id param.id first.id ≡ b → Contains params param → rest ≡ Some param
      → cond b (Some first) rest ≡ Some param
  later-at false apart later more = more
  later-at true is later more =
      let same : param.id ≡ first.id = id_tied param.id first.id is in
      let stands : list_any (same_id first.id) (ids params) ≡ true = any-stands (same_id first.id) (ids params) param.id
      (stands-mapped (λ (other : Param). other.id) params param later)
      (ap (same_id first.id) same ∙ same_id-own first.id) in
      absurd (true≢false (sym parts.0 ∙ ap not stands))

  by : (first ≡ param) ⊎ Contains params param → (Contains params param → rest ≡ Some param)
      → cond (same_id param.id first.id) (Some first) rest ≡ Some param
  by (inl same) more = ap (λ b. cond b (Some first) rest) (ap (λ (p : Param). same_id param.id p.id) same ∙ same_id-own param.id)
      ∙ ap (λ (p : Param). Some p) same
  by (inr later) more = later-at (same_id param.id first.id) refl later (more later)

-- what is asked of all that is mentioned is asked of each parameter that is listed
each-listed : (p : Mention → Bool) (params : List Param) → list_all p (flat_map param_mentions params) ≡ true
    → (param : Param) → Contains params param → p (record { role = a_listed_param; id = param.id }) ≡ true
each-listed p [] all param stands = absurd (stands_nowhere param stands)
each-listed p (first ∷ params) all param stands =
    by (stands_where first param params stands) (each-listed p params (later (type_mentions first.ty) parts.1) param) where
      mention : Param → Mention
      mention param = record { role = a_listed_param; id = param.id }

      others : List Mention
      others = type_mentions first.ty ++ flat_map param_mentions params

      later : (xs : List Mention) → list_all p (xs ++ flat_map param_mentions params) ≡ true
          → list_all p (flat_map param_mentions params) ≡ true
      later [] is = is
      later (x ∷ xs) is = later xs (and-parts (p x) (list_all p (xs ++ flat_map param_mentions params)) is).1

      parts : (p (mention first) ≡ true) × (list_all p others ≡ true)
      parts = and-parts (p (mention first)) (list_all p others) all

      by : (first ≡ param) ⊎ Contains params param → (Contains params param → p (mention param) ≡ true) → p (mention param) ≡ true
      by (inl same) more = subst (λ (param : Param). p (mention param) ≡ true) same parts.0
      by (inr rest) more = more rest

formed-params : (known : Known) (params : List Param) → is_formed known (values.Params params) ≡ are_params params
formed-params knowns.Class params = refl
formed-params (knowns.Method Instance) params = refl
formed-params (knowns.Method Static) params = refl
formed-params (knowns.Method Constructor) params = refl
formed-params (knowns.Decl method) params = refl
formed-params knowns.Field params = refl
formed-params (knowns.Param method) params = refl

-- ---- types in cells

field-typed : (value : Value) → has_form knowns.Field slots.Value value ≡ true
    → of_type (field_type_in (Some value)) ≡ field_value_in (Some value)
field-typed (values.Value type init) is = refl
field-typed (values.Live x) is = absurd (true≢false (sym is))
field-typed (values.Package x) is = absurd (true≢false (sym is))
field-typed (values.Owner x) is = absurd (true≢false (sym is))
field-typed (values.Method x) is = absurd (true≢false (sym is))
field-typed (values.Name x) is = absurd (true≢false (sym is))
field-typed (values.Super x) is = absurd (true≢false (sym is))
field-typed (values.Result x) is = absurd (true≢false (sym is))
field-typed (values.Params x) is = absurd (true≢false (sym is))
field-typed (values.Kind x) is = absurd (true≢false (sym is))
field-typed (values.Fixed x) is = absurd (true≢false (sym is))
field-typed (values.Words x) is = absurd (true≢false (sym is))
field-typed (values.Notes x) is = absurd (true≢false (sym is))
field-typed (values.Body x) is = absurd (true≢false (sym is))

result-typed : (kind : MethodKind) (value : Value) → has_form (knowns.Method kind) slots.Result value ≡ true
    → of_type (result_in (Some value)) ≡ result_value_in (Some value)
result-typed kind (values.Result type) is = refl
result-typed kind (values.Value type init) is = absurd (true≢false (sym is))
result-typed kind (values.Live x) is = absurd (true≢false (sym is))
result-typed kind (values.Package x) is = absurd (true≢false (sym is))
result-typed kind (values.Owner x) is = absurd (true≢false (sym is))
result-typed kind (values.Method x) is = absurd (true≢false (sym is))
result-typed kind (values.Name x) is = absurd (true≢false (sym is))
result-typed kind (values.Super x) is = absurd (true≢false (sym is))
result-typed kind (values.Params x) is = absurd (true≢false (sym is))
result-typed kind (values.Kind x) is = absurd (true≢false (sym is))
result-typed kind (values.Fixed x) is = absurd (true≢false (sym is))
result-typed kind (values.Words x) is = absurd (true≢false (sym is))
result-typed kind (values.Notes x) is = absurd (true≢false (sym is))
result-typed kind (values.Body x) is = absurd (true≢false (sym is))

-- ---- a program that keeps the rules

module _ (program : Program) (rules : IsProgram program) where
  entry-known : (entry : Id × Known) → Contains (entries program.known) entry → get program.known entry.0 ≡ Some entry.1
  entry-known entry stands = of-all (λ (e : Id × Known). get program.known e.0 ≡ Some e.1) (entries program.known)
      (each_found id_cmp-total id_cmp-IsAntisymmetric program.known) entry stands

  value-there : (id : Id) (slot : Slot) (known : Known) → get program.known id ≡ Some known → has_slot (Some known) slot ≡ true
      → (value : Value) × (value_at program id slot ≡ Some value) × (has_form known slot value ≡ true)
  value-there id slot known is has = by (value_at program id slot) refl where
    some : is_some (value_at program id slot) ≡ true
    some = rules.whole id slot ∙ ap (λ (k : Option Known). has_slot k slot) is ∙ has

    by : (o : Option Value) → value_at program id slot ≡ o
        → (value : Value) × (value_at program id slot ≡ Some value) × (has_form known slot value ≡ true)
    by None held = absurd (true≢false (sym some ∙ ap is_some held))
    by (Some value) held = (value, held, rules.forms id slot known value is held)

  -- ---- fields

  field-at : (id : Id) → get program.known id ≡ Some knowns.Field
      → of_type (field_type_in (value_at program id slots.Value)) ≡ field_value program id
  field-at id is =
      let there = value-there id slots.Value knowns.Field is refl in
      subst (λ (o : Option Value). of_type (field_type_in o) ≡ field_value_in o) (sym there.1) (field-typed there.0 there.2)

  field-made : (entry : Id × Known) (field : ViewField Id Id) → get program.known entry.0 ≡ Some entry.1
      → living_field program entry ≡ Some field → of_type field.type ≡ field_value program field.key
  field-made (id, knowns.Field) field known is = by (living_at program id) (owner_at program id) is where
    by : (lives : Bool) (owner : Option Id) → cond lives (option_map (field_of program id) owner) None ≡ Some field
        → of_type field.type ≡ field_value program field.key
    by true (Some owner) is =
        let same : field_of program id owner ≡ field = cc in
        subst (λ (f : ViewField Id Id). of_type f.type ≡ field_value program f.key) same (field-at id known)
    by true None is = absurd cc
    by false owner is = absurd cc
  field-made (id, knowns.Class) field known is = absurd cc
  field-made (id, knowns.Method kind) field known is = absurd cc
  field-made (id, knowns.Decl method) field known is = absurd cc
  field-made (id, knowns.Param method) field known is = absurd cc

  fields : (field : ViewField Id Id) → Contains (filter_map (living_field program) (entries program.known)) field
      → of_type field.type ≡ field_value program field.key
  fields field stands =
      let made = from_some (living_field program) (entries program.known) field stands in
      field-made made.0 field (entry-known made.0 made.1) made.2

  -- ---- declarations

  known-method : (id method : Id) → fills id a_method (get program.known method) ≡ true
      → (kind : MethodKind) × (get program.known method ≡ Some (knowns.Method kind))
  known-method id method fill = by (get program.known method) refl where
    by : (o : Option Known) → get program.known method ≡ o
        → (kind : MethodKind) × (get program.known method ≡ Some (knowns.Method kind))
    by None is = absurd (true≢false (sym fill ∙ ap (fills id a_method) is))
    by (Some knowns.Class) is = absurd (true≢false (sym fill ∙ ap (fills id a_method) is))
    by (Some (knowns.Method kind)) is = (kind, is)
    by (Some (knowns.Decl other)) is = absurd (true≢false (sym fill ∙ ap (fills id a_method) is))
    by (Some knowns.Field) is = absurd (true≢false (sym fill ∙ ap (fills id a_method) is))
    by (Some (knowns.Param other)) is = absurd (true≢false (sym fill ∙ ap (fills id a_method) is))

  result-at : (id method : Id) → get program.known id ≡ Some (knowns.Decl method)
      → of_type (result_at program method) ≡ result_value program method
  result-at id method is =
      let kind = known-method id method (rules.decls id method is) in
      let there = value-there method slots.Result (knowns.Method kind.0) kind.1 refl in
      subst (λ (o : Option Value). of_type (result_in o) ≡ result_value_in o) (sym there.1) (result-typed kind.0 there.0 there.2)

  declaration-made : (entry : Id × Known) (declared : ViewDeclaration Id Id) → get program.known entry.0 ≡ Some entry.1
      → living_declaration program entry ≡ Some declared
      → of_type declared.result ≡ result_value program (method_at program declared.key)
  declaration-made (id, knowns.Decl method) declared known is = by (living_at program id) (owner_at program id) is where
    its : method_at program id ≡ method
    its = ap (method_in id) known

    by : (lives : Bool) (owner : Option Id) → cond lives (option_map (declaration_of program id method) owner) None ≡ Some declared
        → of_type declared.result ≡ result_value program (method_at program declared.key)
    by true (Some owner) is =
        let same : declaration_of program id method owner ≡ declared = cc in
        subst (λ (d : ViewDeclaration Id Id). of_type d.result ≡ result_value program (method_at program d.key)) same
        (result-at id method known ∙ ap (result_value program) (sym its))
    by true None is = absurd cc
    by false owner is = absurd cc
  declaration-made (id, knowns.Class) declared known is = absurd cc
  declaration-made (id, knowns.Method kind) declared known is = absurd cc
  declaration-made (id, knowns.Field) declared known is = absurd cc
  declaration-made (id, knowns.Param method) declared known is = absurd cc

  results : (declared : ViewDeclaration Id Id) → Contains (filter_map (living_declaration program) (entries program.known)) declared
      → of_type declared.result ≡ result_value program (method_at program declared.key)
  results declared stands =
      let made = from_some (living_declaration program) (entries program.known) declared stands in
      declaration-made made.0 declared (entry-known made.0 made.1) made.2

  -- ---- parameters

  listed : (method : Id) (params : List Param) (param : Param) → value_at program method slots.Params ≡ Some (values.Params params)
      → Contains params param → get program.known param.id ≡ Some (knowns.Param method)
  listed method params param held stands = by (get program.known param.id) refl where
    fill : fills method a_listed_param (get program.known param.id) ≡ true
    fill = each-listed (λ (mention : Mention). fills method mention.role (get program.known mention.id)) params
        (rules.references method slots.Params (values.Params params) held) param stands

    by : (o : Option Known) → get program.known param.id ≡ o → get program.known param.id ≡ Some (knowns.Param method)
    by None is = absurd (true≢false (sym fill ∙ ap (fills method a_listed_param) is))
    by (Some knowns.Class) is = absurd (true≢false (sym fill ∙ ap (fills method a_listed_param) is))
    by (Some (knowns.Method kind)) is = absurd (true≢false (sym fill ∙ ap (fills method a_listed_param) is))
    by (Some (knowns.Decl other)) is = absurd (true≢false (sym fill ∙ ap (fills method a_listed_param) is))
    by (Some knowns.Field) is = absurd (true≢false (sym fill ∙ ap (fills method a_listed_param) is))
    by (Some (knowns.Param other)) is =
        is ∙ ap (λ (m : Id). Some (knowns.Param m)) (id_tied other method (sym (ap (fills method a_listed_param) is) ∙ fill))

  apart : (method : Id) (params : List Param) → value_at program method slots.Params ≡ Some (values.Params params)
      → differ (ids params) ≡ true
  apart method params held = by (get program.known method) refl where
    some : has_slot (get program.known method) slots.Params ≡ true
    some = sym (rules.whole method slots.Params) ∙ ap is_some held

    formed : (known : Known) → has_form known slots.Params (values.Params params) ≡ true → differ (ids params) ≡ true
    formed known is = (and-parts (list_all is_param params && nat_le (length params) max_items) (differ (ids params))
        (sym (formed-params known params) ∙ is)).1

    by : (o : Option Known) → get program.known method ≡ o → differ (ids params) ≡ true
    by None is = absurd (true≢false (sym some ∙ ap (λ (k : Option Known). has_slot k slots.Params) is))
    by (Some known) is = formed known (rules.forms method slots.Params known (values.Params params) is held)

  param-typed : (method : Id) (param : Param) → Contains (params_at program method) param
      → of_type (seen param.ty) ≡ param_value program param.id
  param-typed method param stands = by (value_at program method slots.Params) refl where
    value : Option Param → StaticType Id
    value present = option_map_or (λ (p : Param). of_type (seen p.ty)) present mixed_value

    at : (params : List Param) → value_at program method slots.Params ≡ Some (values.Params params)
        → of_type (seen param.ty) ≡ param_value program param.id
    at params held =
        let there : Contains params param = subst (λ (o : Option Value). Contains (params_in o) param) held stands in
        sym (
        ap (λ (known : Option Known). value (present_in known)) (listed method params param held there)
        ∙ ap (λ (o : Option Value). value (find (λ (p : Param). same_id param.id p.id) (params_in o))) held
        ∙ ap value (find-own params param (apart method params held) there)
        ) where
          present_in : Option Known → Option Param
          present_in known =
              option_and_then (λ (m : Id). find (λ (p : Param). same_id param.id p.id) (params_at program m)) (its_method known)

    nowhere : (o : Option Value) → value_at program method slots.Params ≡ o → params_in o ≡ []
        → of_type (seen param.ty) ≡ param_value program param.id
    nowhere o held none =
        absurd (stands_nowhere param (subst (λ (ps : List Param). Contains ps param) (ap params_in held ∙ none) stands))

    by : (o : Option Value) → value_at program method slots.Params ≡ o → of_type (seen param.ty) ≡ param_value program param.id
    by (Some (values.Params params)) held = at params held
    by None held = nowhere None held refl
    by (Some (values.Value x y)) held = nowhere (Some (values.Value x y)) held refl
    by (Some (values.Live x)) held = nowhere (Some (values.Live x)) held refl
    by (Some (values.Package x)) held = nowhere (Some (values.Package x)) held refl
    by (Some (values.Owner x)) held = nowhere (Some (values.Owner x)) held refl
    by (Some (values.Method x)) held = nowhere (Some (values.Method x)) held refl
    by (Some (values.Name x)) held = nowhere (Some (values.Name x)) held refl
    by (Some (values.Super x)) held = nowhere (Some (values.Super x)) held refl
    by (Some (values.Result x)) held = nowhere (Some (values.Result x)) held refl
    by (Some (values.Kind x)) held = nowhere (Some (values.Kind x)) held refl
    by (Some (values.Fixed x)) held = nowhere (Some (values.Fixed x)) held refl
    by (Some (values.Words x)) held = nowhere (Some (values.Words x)) held refl
    by (Some (values.Notes x)) held = nowhere (Some (values.Notes x)) held refl
    by (Some (values.Body x)) held = nowhere (Some (values.Body x)) held refl

  params : (method : Id) (place : ℕ) (param : Parameter Id)
      → slice_get (map parameter_in (params_at program method)) place ≡ Some param
      → of_type param.type ≡ param_value program param.id
  params method place param is =
      let from = from_map parameter_in (params_at program method) param (in_place _ place param is) in
      subst (λ (p : Parameter Id). of_type p.type ≡ param_value program p.id) from.2 (param-typed method from.0 from.1)

  none : (place : ℕ) (param : Parameter Id) → slice_get [] place ≡ Some param → of_type param.type ≡ param_value program param.id
  none place param is = absurd cc

  -- ---- the writer of a cell in the file of a class

  abbrev writer_as : Names → (Importable → Bool) → Id → Option Known → Writer
  writer_as imports is_simple class known = record {
    program = program;
    reader = reader_as program imports class known;
    is_simple = is_simple;
  }

  sees-as : (imports : Names) (is_simple : Importable → Bool) (class : Id) (known : Option Known)
      → SeesProgram (writer_as imports is_simple class known)
  sees-as imports is_simple class (Some (knowns.Decl method)) = record {
    view = refl;
    class_ids = λ id. refl;
    fields = fields;
    results = results;
    param_ids = λ declared stands. refl;
    params = params method;
  }
  sees-as imports is_simple class None = record {
    view = refl;
    class_ids = λ id. refl;
    fields = fields;
    results = results;
    param_ids = λ declared stands. refl;
    params = none;
  }
  sees-as imports is_simple class (Some knowns.Class) = record {
    view = refl;
    class_ids = λ id. refl;
    fields = fields;
    results = results;
    param_ids = λ declared stands. refl;
    params = none;
  }
  sees-as imports is_simple class (Some knowns.Field) = record {
    view = refl;
    class_ids = λ id. refl;
    fields = fields;
    results = results;
    param_ids = λ declared stands. refl;
    params = none;
  }
  sees-as imports is_simple class (Some (knowns.Method kind)) = record {
    view = refl;
    class_ids = λ id. refl;
    fields = fields;
    results = results;
    param_ids = λ declared stands. refl;
    params = none;
  }
  sees-as imports is_simple class (Some (knowns.Param method)) = record {
    view = refl;
    class_ids = λ id. refl;
    fields = fields;
    results = results;
    param_ids = λ declared stands. refl;
    params = none;
  }

  pub seen-itself : (class : Id) (at : Cell) → SeesProgram (unit_writer program class at)
  seen-itself class at = sees-as (imports_in program class) (is_simple_in program class) class (get program.known at.id)
