-- A place in a program, and the same place with numbers in place of identities, are alike.
use Rattle.std.proofs.Common.{◌≡◌, ◌⊎◌, inl, inr, ℕ, zero, suc, Bool, true, false, List, [], ◌∷◌, map, Option, Some, None, option_map, filter_map, Contains, slice_get, refl, sym, ◌∙◌, ap, subst, true≢false, Ordering}
use Rattle.std.specs.Prelude.{if◌then◌else◌, is_some, unwrap_or}
use Rattle.std.specs.FinMap.{entries, get, keys, contains_key-keys}
use Rattle.std.specs.List.{AllZip, list_any}
use Rattle.std.specs.Option.{option_and_then}
use Rattle.std.specs.Ordering.{eq_by_cmp, is_eq}
use Rattle.mol_base.specs.Order.{id_cmp, id_cmp-total, id_cmp-IsAntisymmetric}
use Rattle.mol_base.specs.declared.ident.Id.{Id}
use Rattle.jav_names.specs.Ancestors.{HasClass}
use Rattle.jav_names.specs.Types.{OwnStands}
use Rattle.jav_names.specs.UnitViews.{MemberKey}
use Rattle.jav_names.specs.Views.{ViewClass, ViewField, ViewDeclaration, View, IsKeyOrder}
use Rattle.jav_names.proofs.Lists.{stands_where, stands_nowhere, stands-mapped, list_any-found}
use Rattle.jav_names.proofs.Ways.{same_key}
use Rattle.jav_names_laws.specs.HasKeys.{HasKeys}
use Rattle.jav_names_laws.specs.Keys.{type_as}
use Rattle.jav_names_laws.specs.Numbered.{list_number, number_among}
use Rattle.jav_names_laws.proofs.HasKeys.{keys_alike}
use Rattle.jav_names_laws.proofs.LooksAlike.{looks_alike}
use Rattle.jav_names_laws.proofs.Numbered.{numbers_apart, keys-compared}
use Rattle.mol_resolve_keys.specs.Alike.{IdsAlike, ParameterAlike, ReadersAlike}
use Rattle.mol_resolve_keys.specs.NumberedPrograms.{id_number, number_of, no_id, identity_at, keys_of, numbered_view, numbered_ids, parameter_as, numbered}
use Rattle.mol_resolve_rules.specs.ProgramViews.{living_class, field_of, living_field, declaration_of, living_declaration, superclass_in, superclass_at, program_view, method_at, program_ids}
use Rattle.mol_resolve_rules.specs.Readers.{Ids, Parameter, Reader}
use Rattle.mol_resolve_rules.proofs.ProgramsViewed.{programs_viewed}
use Rattle.mol_resolve_rules.proofs.Stands.{from_some}
use Rattle.mol_table_rules.specs.Program.{Program, living_at, owner_at, params_at, value_at}
use Rattle.mol_table_rules.specs.Rules.{IsProgram}
use Rattle.mol_values_types.specs.Slots.{has_slot}
use Rattle.mol_values_types.specs.declared.cell.Slot.TheVariants as slots
use Rattle.mol_values_types.specs.declared.known.Known.{Known}
use Rattle.mol_values_types.specs.declared.known.Known.TheVariants as knowns
use Rattle.mol_values_types.specs.declared.param.Param.{Param}
use Rattle.mol_values_types.specs.declared.value.Value.{Value}

id_order : IsKeyOrder id_cmp
id_order = record { total = id_cmp-total; same = id_cmp-IsAntisymmetric }

-- no two identities have one number
ids-apart : (first second : Id) → id_number first ≡ id_number second → first ≡ second
ids-apart first second same =
    let parts = numbers_apart.pairs first.num (list_number first.tag) second.num (list_number second.tag) same in
    let tags = numbers_apart.lists first.tag second.tag parts.1 in
    λ i. record { tag = tags i; num = parts.0 i }

map-itself : {X : Type 0} (xs : List X) → map (λ x. x) xs ≡ xs
map-itself [] = refl
map-itself (x ∷ xs) = ap (λ rest. x ∷ rest) (map-itself xs)

-- ---- numbers among keys

module _ {K : Type 0} (cmp : K → K → Ordering) (own : K → ℕ) (order : IsKeyOrder cmp) where
  -- at the number of a key stands that key, or the key is none of them and its number is past the end
  number-get : (ks : List K) (key : K) → (slice_get ks (number_among cmp own ks key) ≡ Some key)
      ⊎ ((slice_get ks (number_among cmp own ks key) ≡ None) × ¬ Contains ks key)
  number-get [] key = inr (refl, stands_nowhere key)
  number-get (first ∷ ks) key = by (is_eq (cmp first key)) refl (number-get ks key) where
    later : is_eq (cmp first key) ≡ false → ¬ Contains ks key → ¬ Contains (first ∷ ks) key
    later apart none stands = by_place (stands_where first key ks stands) where
      by_place : (first ≡ key) ⊎ Contains ks key → ⊥
      by_place (inl same) = true≢false (sym ((same_key order first key).1 same) ∙ apart)
      by_place (inr stands) = none stands

    more : is_eq (cmp first key) ≡ false → (slice_get ks (number_among cmp own ks key) ≡ Some key)
        ⊎ ((slice_get ks (number_among cmp own ks key) ≡ None) × ¬ Contains ks key)
        → (slice_get ks (number_among cmp own ks key) ≡ Some key)
        ⊎ ((slice_get ks (number_among cmp own ks key) ≡ None) × ¬ Contains (first ∷ ks) key)
    more apart (inl is) = inl is
    more apart (inr none) = inr (none.0, later apart none.1)

    by : (b : Bool) → is_eq (cmp first key) ≡ b
        → (slice_get ks (number_among cmp own ks key) ≡ Some key)
        ⊎ ((slice_get ks (number_among cmp own ks key) ≡ None) × ¬ Contains ks key)
        → (slice_get (first ∷ ks) (if b then zero else suc (number_among cmp own ks key)) ≡ Some key)
        ⊎ ((slice_get (first ∷ ks) (if b then zero else suc (number_among cmp own ks key)) ≡ None) × ¬ Contains (first ∷ ks) key)
    by true same rest = inl (ap (λ (k : K). Some k) ((same_key order first key).0 same))
    by false apart rest = more apart rest

module _ (program : Program) where
  abbrev known : List Id
  known = keys program.known

  -- the identity of the number of a known identity
  identity-is : (id : Id) → Contains known id → identity_at program (number_of program id) ≡ id
  identity-is id stands = by (number-get id_cmp id_number id_order known id) where
    by : (slice_get known (number_of program id) ≡ Some id) ⊎ ((slice_get known (number_of program id) ≡ None) × ¬ Contains known id)
        → identity_at program (number_of program id) ≡ id
    by (inl is) = ap (λ (o : Option Id). unwrap_or o no_id) is
    by (inr none) = absurd (none.1 stands)

  -- ---- what is not known extends nothing

  unknown : (id : Id) → ¬ Contains known id → get program.known id ≡ None
  unknown id none = at (get program.known id) refl (contains_key-keys program.known id ∙ fails) where
    fails : list_any (eq_by_cmp id_cmp id) known ≡ false
    fails = at_test (list_any (eq_by_cmp id_cmp id) known) refl where
      at_test : (b : Bool) → list_any (eq_by_cmp id_cmp id) known ≡ b → b ≡ false
      at_test true is =
          let found = list_any-found (λ other. id ≡ other) (eq_by_cmp id_cmp id) (λ other. same_key id_order id other) known is in
          absurd (none (subst (Contains known) (sym found.2) found.1))
      at_test false is = refl

    at : (o : Option Known) → get program.known id ≡ o → is_some o ≡ false → o ≡ None
    at None is none = refl
    at (Some k) is none = absurd (true≢false none)

  module _ (rules : IsProgram program) where
    no-value : (o : Option Value) → is_some o ≡ false → superclass_in o ≡ None
    no-value None none = refl
    no-value (Some value) none = absurd (true≢false none)

    extends-nothing : (class : Id) → ¬ Contains known class → superclass_at program class ≡ None
    extends-nothing class none = no-value (value_at program class slots.Super)
        (rules.whole class slots.Super ∙ ap (λ (o : Option Known). has_slot o slots.Super) (unknown class none))

    superclass-is : (class : Id) → option_map (type_as (number_of program)) (superclass_at program class)
        ≡ option_map (type_as (number_of program)) (option_and_then (superclass_at program) (slice_get known (number_of program class)))
    superclass-is class = ap (option_map (type_as (number_of program))) (by (number-get id_cmp id_number id_order known class)) where
      by : (slice_get known (number_of program class) ≡ Some class)
          ⊎ ((slice_get known (number_of program class) ≡ None) × ¬ Contains known class)
          → superclass_at program class ≡ option_and_then (superclass_at program) (slice_get known (number_of program class))
      by (inl is) = ap (option_and_then (superclass_at program)) (sym is)
      by (inr none) = extends-nothing class none.1 ∙ ap (option_and_then (superclass_at program)) (sym none.0)

    pub views-numbered : HasKeys (keys_of program) (program_view program) (numbered_view program)
    views-numbered = record {
      same_class = keys-compared id_cmp id_number id_order ids-apart known;
      classes = refl;
      fields = refl;
      declarations = refl;
      superclasses = superclass-is;
    }

  -- ---- what lives is known

  kept : {Y : Type 0} (key : Y → Id) (id : Id) (b : Bool) (o : Option Y) → ((y : Y) → o ≡ Some y → key y ≡ id) → (y : Y)
      → (if b then o else None) ≡ Some y → key y ≡ id
  kept key id true o each y is = each y is
  kept key id false o each y is = absurd cc

  owned : {Y : Type 0} (key : Y → Id) (id : Id) (make : Id → Y) → ((owner : Id) → key (make owner) ≡ id) → (o : Option Id) (y : Y)
      → option_map make o ≡ Some y → key y ≡ id
  owned key id make each None y is = absurd cc
  owned key id make each (Some owner) y is = let same : make owner ≡ y = cc in sym (ap key same) ∙ each owner

  made-key : {Y : Type 0} (key : Y → Id) (x y : Y) → Some x ≡ Some y → key y ≡ key x
  made-key key x y is = let same : x ≡ y = cc in ap key (sym same)

  class-key : (entry : Id × Known) (class : ViewClass Id) → living_class program entry ≡ Some class → class.key ≡ entry.0
  class-key (id, knowns.Class) class is = kept (λ (c : ViewClass Id). c.key) id (living_at program id) _
      (λ c made. made-key (λ (c : ViewClass Id). c.key) _ c made) class is
  class-key (id, other) class is = absurd cc

  field-key : (entry : Id × Known) (field : ViewField Id Id) → living_field program entry ≡ Some field → field.key ≡ entry.0
  field-key (id, knowns.Field) field is = kept (λ (f : ViewField Id Id). f.key) id (living_at program id)
      (option_map (field_of program id) (owner_at program id))
      (owned (λ (f : ViewField Id Id). f.key) id (field_of program id) (λ owner. refl) (owner_at program id)) field is
  field-key (id, other) field is = absurd cc

  declaration-key : (entry : Id × Known) (declared : ViewDeclaration Id Id) → living_declaration program entry ≡ Some declared
      → declared.key ≡ entry.0
  declaration-key (id, knowns.Decl method) declared is = kept (λ (d : ViewDeclaration Id Id). d.key) id (living_at program id)
      (option_map (declaration_of program id method) (owner_at program id))
      (owned (λ (d : ViewDeclaration Id Id). d.key) id (declaration_of program id method) (λ owner. refl) (owner_at program id)) declared is
  declaration-key (id, other) declared is = absurd cc

  is-known : {Y : Type 0} (made : Id × Known → Option Y) (key : Y → Id)
      → ((entry : Id × Known) (y : Y) → made entry ≡ Some y → key y ≡ entry.0)
      → (y : Y) → Contains (filter_map made (entries program.known)) y → Contains known (key y)
  is-known made key keyed y stands =
      let from = from_some made (entries program.known) y stands in
      subst (Contains known) (sym (keyed from.0 y from.2))
      (stands-mapped (λ (entry : Id × Known). entry.0) (entries program.known) from.0 from.1)

  class-known : (class : Id) → HasClass (program_view program).classes class → Contains known class
  class-known class has = subst (Contains known) has.is
      (is-known (living_class program) (λ (c : ViewClass Id). c.key) class-key has.class has.stands)

  declaration-known : (declared : ViewDeclaration Id Id) → Contains (program_view program).declarations declared
      → identity_at program (number_of program declared.key) ≡ declared.key
  declaration-known declared stands = identity-is declared.key
      (is-known (living_declaration program) (λ (d : ViewDeclaration Id Id). d.key) declaration-key declared stands)

  ids-numbered : IdsAlike (keys_of program) (λ id. id) (program_view program) (program_ids program) (numbered_ids program)
  ids-numbered = record {
    classes = λ class has. sym (identity-is class (class-known class has));
    fields = λ field stands. sym (identity-is field.key
        (is-known (living_field program) (λ (f : ViewField Id Id). f.key) field-key field stands));
    methods = λ declared stands. ap (method_at program) (sym (declaration-known declared stands));
    params = λ declared stands. ap (λ (id : Id). map (λ (param : Param). param.id) (params_at program (method_at program id)))
        (sym (declaration-known declared stands))
        ∙ sym (map-itself (map (λ (param : Param). param.id)
        (params_at program (method_at program (identity_at program (number_of program declared.key))))));
  }

  -- ---- readers

  params-numbered : (params : List (Parameter Id))
      → AllZip (ParameterAlike (number_of program) (λ id. id)) params (map (parameter_as (number_of program)) params)
  params-numbered [] = tt
  params-numbered (param ∷ params) = (record { named = refl; typed = refl; known = refl }, params-numbered params)

  pub reader-numbered : (reader : Reader Id Id) → IsProgram program → reader.view ≡ program_view program → reader.ids ≡ program_ids program
      → OwnStands (program_view program).classes reader.header → ReadersAlike (keys_of program) (λ id. id) reader (numbered program reader)
  reader-numbered reader rules view ids own =
      subst (λ (parts : View Id Id × Ids Id Id). ReadersAlike (keys_of program) (λ id. id) (record reader { view = parts.0; ids = parts.1 })
      (numbered program reader)) (λ i. (sym view i, sym ids i)) (record {
        looks = looks_alike Id Id ℕ MemberKey (keys_of program) (program_view program) (numbered_view program)
            (keys_alike Id Id ℕ MemberKey (keys_of program) (program_view program) (numbered_view program) (views-numbered rules));
        ordered = programs_viewed.ordered program;
        own = own;
        ids = ids-numbered;
        header = refl;
        class = refl;
        params = params-numbered reader.params;
        in_constructor = refl;
      })
