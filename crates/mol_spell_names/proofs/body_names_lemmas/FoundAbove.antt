-- What a name is found as stands in the class from which it is looked for, or above it.
use Rattle.std.proofs.Common.{◌≡◌, ◌⊎◌, inl, inr, ℕ, Bool, true, false, cond, List, [], ◌∷◌, Option, Some, None, option_map, Contains, find, refl, sym, ◌∙◌, ap, subst, true≢false}
use Rattle.std.specs.FinMap.{get, entries}
use Rattle.std.specs.Option.{option_and_then}
use Rattle.std.proofs.lemmas.List.Elements.{All-contains, All-from_recursion}
use Rattle.jav_names.proofs.AncestorsFound.{ancestors_known}
use Rattle.jav_names.proofs.FoundNames.{names_stand}
use Rattle.jav_names.proofs.Lists.{stands_first, stands_later, stands_where, stands_nowhere}
use Rattle.jav_names.proofs.NamesAnswered.{names_answered}
use Rattle.jav_names.specs.Ancestors.{IsAncestor}
use Rattle.jav_names.specs.DottedNames.{Name, Names}
use Rattle.jav_names.specs.LookUps.{method_from, variable}
use Rattle.jav_names.specs.Members.{ReadsMethod}
use Rattle.jav_names.specs.Standing.{IsVariableAt, IsFieldOf}
use Rattle.jav_names.specs.Variables.{Place, Variable, local_variable, parameter_variable, field_variable, ReadsVariable}
use Rattle.jav_names.specs.Views.{Found, found, outside, not_found, IsOrdered, View, ViewDeclaration, ViewField}
use Rattle.mol_base.specs.Order.{id_cmp-total, id_cmp-IsAntisymmetric}
use Rattle.mol_base.specs.declared.ident.Id.{Id}
use Rattle.mol_spell_names.specs.body_names.Above.{has_field_above, has_method_above}
use Rattle.mol_spell_names.specs.body_names.FilePlaces.{writer_of}
use Rattle.mol_scope_classes.proofs.hierarchy_lemmas.Following.{itself}
use Rattle.mol_scope_classes.proofs.hierarchy_lemmas.OnWays.{on_way-decides}
use Rattle.mol_scope_classes.specs.hierarchy.Reaching.{Reaches}
use Rattle.mol_scope.proofs.variables_lemmas.Reached.{ancestor-is}
use Rattle.mol_resolve_rules.proofs.ProgramsViewed.{programs_viewed}
use Rattle.mol_resolve_rules.proofs.Stands.{from_some}
use Rattle.mol_resolve_rules.specs.ProgramViews.{declaration_of, field_of, living_declaration, living_field, method_at, method_in, program_view}
use Rattle.mol_resolve_rules.specs.Locals.{Locals, no_locals}
use Rattle.mol_resolve_rules.specs.Readers.{Reader, place_of}
use Rattle.mol_resolve_rules.specs.StaticTypes.{class_of_only_declaration}
use Rattle.mol_spell_rules.specs.SpelledExpressions.{is_declaration_of, is_field, reads_field, reads_method}
use Rattle.mol_spell_rules.specs.Writers.{Importable}
use Rattle.mol_table_rules.proofs.Counts.{each_found}
use Rattle.mol_table_rules.proofs.Living.{id_tied, same_id-own}
use Rattle.mol_table_rules.specs.Ancestors.{is_on_way}
use Rattle.mol_table_rules.specs.Faults.{is_above}
use Rattle.mol_table_rules.specs.Life.{is_decl_of}
use Rattle.mol_table_rules.specs.Program.{Program, living_at, name_at, owner_at, same_id}
use Rattle.mol_table_rules.specs.Rules.{IsProgram}
use Rattle.mol_values_types.specs.declared.kind.MethodKind.TheVariants.{Constructor, Instance, Static}
use Rattle.mol_values_types.specs.declared.known.Known.{Known}
use Rattle.mol_values_types.specs.declared.known.Known.TheVariants as knowns

-- the first that passes, where there is one
some-found : {X : Type 0} (p : X → Bool) (xs : List X) (x : X) → Contains xs x → p x ≡ true
    → (y : X) × (find p xs ≡ Some y) × Contains xs y × (p y ≡ true)
some-found p [] x stands passes = absurd (stands_nowhere x stands)
some-found {X} p (z ∷ xs) x stands passes = by (p z) refl (stands_where z x xs stands) (some-found p xs x) where
  by : (b : Bool) → p z ≡ b → (z ≡ x) ⊎ Contains xs x
      → (Contains xs x → p x ≡ true → (y : X) × (find p xs ≡ Some y) × Contains xs y × (p y ≡ true))
      → (y : X) × (find p (z ∷ xs) ≡ Some y) × Contains (z ∷ xs) y × (p y ≡ true)
  by true is where_ more = (z, ap (λ b. cond b (Some z) (find p xs)) is, stands_first z xs, is)
  by false is (inl same) more = absurd (true≢false (sym passes ∙ ap p (sym same) ∙ is))
  by false is (inr later) more =
      let found = more later passes in
      (found.0, ap (λ b. cond b (Some z) (find p xs)) is ∙ found.1, stands_later z found.0 xs found.2, found.3)

module _ (program : Program) (rules : IsProgram program) where
  abbrev view : View Id Id
  view = program_view program

  ordered : IsOrdered view
  ordered = programs_viewed.ordered program

  entry-known : (entry : Id × Known) → Contains (entries program.known) entry → get program.known entry.0 ≡ Some entry.1
  entry-known entry stands = All-contains (λ (e : Id × Known). get program.known e.0 ≡ Some e.1) (entries program.known) entry
      (All-from_recursion (λ (e : Id × Known). get program.known e.0 ≡ Some e.1) (entries program.known)
      (each_found id_cmp-total id_cmp-IsAntisymmetric program.known)) stands

  -- ---- the classes above a class

  abbrev IsOwner : Id → Id → Type 0
  IsOwner class owner = (owner ≡ class) ⊎ IsAncestor view class owner

  owner-on-way : (class owner : Id) → IsOwner class owner → is_on_way program class owner ≡ true
  owner-on-way class owner is = by (same_id class owner) refl is where
    own : class ≡ owner → is_on_way program class owner ≡ true
    own same = (on_way-decides program rules class owner).1 (subst (Reaches program class) same (itself program class))

    by : (b : Bool) → same_id class owner ≡ b → IsOwner class owner → is_on_way program class owner ≡ true
    by true same is = own (id_tied class owner same)
    by false apart (inl same) = own (sym same)
    by false apart (inr above) =
        ancestor-is program rules class owner apart ∙ ((ancestors_known Id Id).tested view class owner ordered.classes).1 above

  -- ---- fields

  field-made : (entry : Id × Known) (field : ViewField Id Id) → living_field program entry ≡ Some field
      → owner_at program field.key ≡ Some field.owner
  field-made (id, knowns.Field) field is = by (living_at program id) (owner_at program id) refl is where
    by : (lives : Bool) (owner : Option Id) → owner_at program id ≡ owner
        → cond lives (option_map (field_of program id) owner) None ≡ Some field → owner_at program field.key ≡ Some field.owner
    by true (Some owner) at is =
        let same : field_of program id owner ≡ field = cc in
        subst (λ (f : ViewField Id Id). owner_at program f.key ≡ Some f.owner) same at
    by true None at is = absurd cc
    by false owner at is = absurd cc
  field-made (id, knowns.Class) field is = absurd cc
  field-made (id, knowns.Method kind) field is = absurd cc
  field-made (id, knowns.Decl method) field is = absurd cc
  field-made (id, knowns.Param method) field is = absurd cc

  field-above : (class : Id) (name : Name) (field : ViewField Id Id) → IsFieldOf view class name field
      → has_field_above program class field.key ≡ true
  field-above class name field is =
      let made = from_some (living_field program) (entries program.known) field is.stands in
      ap (is_above program (Some class)) (field-made made.0 field made.2) ∙ owner-on-way class field.owner is.owned

  read-above : (place : Place Id) (name : Name) (field : ViewField Id Id) → variable view place name ≡ found (field_variable field)
      → has_field_above program place.class field.key ≡ true
  read-above place name field is = by ((names_stand Id Id).variables view place name (field_variable field)
      (subst (ReadsVariable view place name) is ((names_answered Id Id).variables view place name ordered).holds)) where
        by : IsVariableAt view place name (field_variable field) → has_field_above program place.class field.key ≡ true
        by (IsVariableAt.is_field of) = field-above place.class name field of

  -- a field that stands elsewhere is no variable here
  no-field : (place : Place Id) (name : Name) (field : Id) → has_field_above program place.class field ≡ false
      → false ≡ is_field field (variable view place name)
  no-field place name field elsewhere = by (variable view place name) refl where
    by_field : (read : ViewField Id Id) → variable view place name ≡ found (field_variable read) → (b : Bool)
        → same_id field read.key ≡ b → false ≡ b
    by_field read is false other = refl
    by_field read is true same = absurd (true≢false (sym (read-above place name read is)
        ∙ ap (has_field_above program place.class) (sym (id_tied field read.key same)) ∙ elsewhere))

    by : (answer : Found (Variable Id Id)) → variable view place name ≡ answer → false ≡ is_field field answer
    by (found (field_variable read)) is = by_field read is (same_id field read.key) refl
    by (found (local_variable number)) is = refl
    by (found (parameter_variable number)) is = refl
    by outside is = refl
    by not_found is = refl

  -- ---- methods

  record IsMadeOf (entry : Id × Known) (declared : ViewDeclaration Id Id) : Type 0 where
    pub own : entry.1 ≡ knowns.Decl (method_at program declared.key)
    pub owner : owner_at program entry.0 ≡ Some declared.owner

  declaration-made : (entry : Id × Known) (declared : ViewDeclaration Id Id) → get program.known entry.0 ≡ Some entry.1
      → living_declaration program entry ≡ Some declared → IsMadeOf entry declared
  declaration-made (id, knowns.Decl method) declared known is = by (living_at program id) (owner_at program id) refl is where
    by : (lives : Bool) (owner : Option Id) → owner_at program id ≡ owner
        → cond lives (option_map (declaration_of program id method) owner) None ≡ Some declared → IsMadeOf (id, knowns.Decl method) declared
    by true (Some owner) at is =
        let same : declaration_of program id method owner ≡ declared = cc in
        subst (IsMadeOf (id, knowns.Decl method)) same (record { own = ap (λ m. knowns.Decl m) (sym (ap (method_in id) known)); owner = at })
    by true None at is = absurd cc
    by false owner at is = absurd cc
  declaration-made (id, knowns.Class) declared known is = absurd cc
  declaration-made (id, knowns.Method kind) declared known is = absurd cc
  declaration-made (id, knowns.Field) declared known is = absurd cc
  declaration-made (id, knowns.Param method) declared known is = absurd cc

  declared-decl : (method : Id) (known : Known) → is_decl_of method known ≡ true → known ≡ knowns.Decl method
  declared-decl method (knowns.Decl own) is = ap (λ m. knowns.Decl m) (sym (id_tied method own is))
  declared-decl method knowns.Class is = absurd cc
  declared-decl method (knowns.Method kind) is = absurd cc
  declared-decl method knowns.Field is = absurd cc
  declared-decl method (knowns.Param own) is = absurd cc

  -- a static method is declared where any declaration of it stands
  only-owner : (method : Id) (entry : Id × Known) (owner : Id) → get program.known method ≡ Some (knowns.Method Static)
      → Contains (entries program.known) entry → entry.1 ≡ knowns.Decl method → owner_at program entry.0 ≡ Some owner
      → class_of_only_declaration program method ≡ Some owner
  only-owner method entry owner static stands own at =
      let first = some-found (λ (e : Id × Known). is_decl_of method e.1) (entries program.known) entry stands
      (ap (is_decl_of method) own ∙ same_id-own method) in
      let known : get program.known first.0.0 ≡ Some (knowns.Decl method) =
      entry-known first.0 first.2 ∙ ap (λ k. Some k) (declared-decl method first.0.1 first.3) in
      let same : first.0.0 ≡ entry.0 =
      rules.single method first.0.0 entry.0 Static static refl known (entry-known entry stands ∙ ap (λ k. Some k) own) in
      ap (option_and_then (λ (e : Id × Known). owner_at program e.0)) first.1 ∙ ap (owner_at program) same ∙ at

  found-above : (class : Id) (name : Name) (arity : ℕ) (method : Id) (declared : ViewDeclaration Id Id)
      → get program.known method ≡ Some (knowns.Method Static) → method_from view class name arity ≡ found declared
      → method ≡ method_at program declared.key → is_above program (Some class) (class_of_only_declaration program method) ≡ true
  found-above class name arity method declared static is own =
      let stands = (names_stand Id Id).methods view class name arity declared
      (subst (ReadsMethod view class name arity) is ((names_answered Id Id).methods view class name arity ordered).holds) in
      let from = from_some (living_declaration program) (entries program.known) declared stands.stands in
      let made = declaration-made from.0 declared (entry-known from.0 from.1) from.2 in
      ap (is_above program (Some class)) (only-owner method from.0 declared.owner static from.1
      (made.own ∙ ap (λ m. knowns.Decl m) (sym own)) made.owner)
      ∙ owner-on-way class declared.owner stands.owned

  -- a static method that is declared elsewhere is not found here
  no-method : (reader : Reader Id Id) (class : Id) (name : Name) (arity : ℕ) (method : Id)
      → ((d : ViewDeclaration Id Id) → reader.ids.method_id d ≡ method_at program d.key)
      → has_method_above program class method (get program.known method) ≡ false
      → false ≡ is_declaration_of reader method (method_from view class name arity)
  no-method reader class name arity method ids elsewhere = by_known (get program.known method) refl elsewhere where
    by_found : (declared : ViewDeclaration Id Id) → get program.known method ≡ Some (knowns.Method Static)
        → is_above program (Some class) (class_of_only_declaration program method) ≡ false
        → method_from view class name arity ≡ found declared → (b : Bool) → same_id method (reader.ids.method_id declared) ≡ b → false ≡ b
    by_found declared static none is false other = refl
    by_found declared static none is true same = absurd (true≢false (sym (found-above class name arity method declared static is
        (id_tied method (reader.ids.method_id declared) same ∙ ids declared)) ∙ none))

    by : get program.known method ≡ Some (knowns.Method Static) → is_above program (Some class) (class_of_only_declaration program method) ≡ false
        → (answer : Found (ViewDeclaration Id Id)) → method_from view class name arity ≡ answer → false ≡ is_declaration_of reader method answer
    by static none (found declared) is = by_found declared static none is (same_id method (reader.ids.method_id declared)) refl
    by static none outside is = refl
    by static none not_found is = refl

    by_known : (known : Option Known) → get program.known method ≡ known → has_method_above program class method known ≡ false
        → false ≡ is_declaration_of reader method (method_from view class name arity)
    by_known (Some (knowns.Method Static)) is none = by is none (method_from view class name arity) refl
    by_known (Some (knowns.Method Instance)) is none = absurd cc
    by_known (Some (knowns.Method Constructor)) is none = absurd cc
    by_known None is none = absurd cc
    by_known (Some knowns.Class) is none = absurd cc
    by_known (Some (knowns.Decl own)) is none = absurd cc
    by_known (Some knowns.Field) is none = absurd cc
    by_known (Some (knowns.Param own)) is none = absurd cc

  -- ---- where names of a file are written

  module _ (imports : Names) (is_simple : Importable → Bool) (class : Id) where
    pub field-elsewhere : (declared : Option Id) (locals : Locals Id) (field : Id) → has_field_above program class field ≡ false
        → false ≡ reads_field (writer_of program imports is_simple class declared) locals field
    field-elsewhere None locals field none =
        no-field (place_of (writer_of program imports is_simple class None).reader locals) (name_at program field) field none
    field-elsewhere (Some own) locals field none =
        no-field (place_of (writer_of program imports is_simple class (Some own)).reader locals) (name_at program field) field none

    pub method-elsewhere : (declared : Option Id) (method : Id) (arity : ℕ)
        → has_method_above program class method (get program.known method) ≡ false
        → false ≡ reads_method (writer_of program imports is_simple class declared) no_locals method arity
    method-elsewhere None method arity none =
        no-method (writer_of program imports is_simple class None).reader class (name_at program method) arity method (λ d. refl) none
    method-elsewhere (Some own) method arity none =
        no-method (writer_of program imports is_simple class (Some own)).reader class (name_at program method) arity method (λ d. refl) none
