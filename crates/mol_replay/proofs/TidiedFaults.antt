-- A program has the first fault that it has once it is tidied.
use Rattle.std.proofs.Common.{◌≡◌, ◌∙◌, refl, sym, ap, ℕ, zero, suc, Bool, false, ◌&&◌, ◌||◌, not, List, [], ◌∷◌, length, Option, None, Some, is_some, option_map, if◌then◌else◌}
use Rattle.std.proofs.lemmas.Option.{same_Some}
use Rattle.std.specs.FinMap.{entries, get, len}
use Rattle.std.specs.List.{list_all, list_any}
use Rattle.std.specs.Option.{option_map_or}
use Rattle.jav_names.specs.DottedNames.{Names}
use Rattle.mol_base.specs.declared.ident.Id.{Id}
use Rattle.mol_faults.specs.First.{IsFirst}
use Rattle.mol_replay.proofs.AlikeFaults.{Alike, first-kept}
use Rattle.mol_replay.proofs.TidiedClashes.{clashes-alike}
use Rattle.mol_spell_rules.specs.FaultList.{Fault}
use Rattle.mol_spell_rules.specs.LocalClashes.{clashes_in}
use Rattle.mol_table_rules.proofs.TidyOfTidied.{tidy-tidy}
use Rattle.mol_table_rules.proofs.TidyRules.{tidied-at}
use Rattle.mol_table_rules.specs.Ancestors.{is_on_way, living_parent, unmet, walk}
use Rattle.mol_table_rules.specs.Faults.{Address, address_as, class_address, constructor_address, decl_address, field_address, is_above, is_above_living, is_present, is_there, is_topmost, method_address, method_of}
use Rattle.mol_table_rules.specs.Life.{entity_in, is_decl_of, is_living_decl, lists, lives, lives_as, lives_method}
use Rattle.mol_table_rules.specs.Mentions as mention
use Rattle.mol_table_rules.specs.Mentions.{Role, mentions}
use Rattle.mol_table_rules.specs.Program.{Program, cell, is_yes, living_at, name_at, name_in, owner_at, owner_in, package_at, package_in, params_at, params_in, parent_at, parent_in, same_id, value_at}
use Rattle.mol_table_rules.specs.Renumber.{is_class}
use Rattle.mol_table_rules.specs.Rules.{IsProgram}
use Rattle.mol_table_rules.specs.Tidy.{bare_constructor, tidied, tidy, tidy_body}
use Rattle.mol_values_types.specs.declared.cell.Cell.{Cell}
use Rattle.mol_values_types.specs.declared.cell.Slot.TheVariants as slots
use Rattle.mol_values_types.specs.declared.iblock.IBody.{IBody}
use Rattle.mol_values_types.specs.declared.itype.IType.{IType}
use Rattle.mol_values_types.specs.declared.iexpr.IExpr.{IExpr}
use Rattle.mol_values_types.specs.declared.kind.MethodKind.TheVariants.{Constructor, Instance, Static}
use Rattle.mol_values_types.specs.declared.known.Known.{Known}
use Rattle.mol_values_types.specs.declared.known.Known.TheVariants as knowns
use Rattle.mol_values_types.specs.declared.param.Param.{Param}
use Rattle.mol_values_types.specs.declared.value.Value.{Value}
use Rattle.mol_values_types.specs.declared.value.Value.TheVariants as values

module _ (program : Program) where
  -- # Single cells

  -- What reads neither trees of bodies nor first values of fields reads the same of a tidied cell.
  module _ {A : Type 0} (read : Option Value → A) (bodies : (o p : Option IBody) → read (Some (values.Body o)) ≡ read (Some (values.Body p)))
      (inits : (ty : IType) (o p : Option IExpr) → read (Some (values.Value ty o)) ≡ read (Some (values.Value ty p))) where
    read-kept : (o : Option Value) → read (option_map (tidied program) o) ≡ read o
    read-kept None = refl
    read-kept (Some (values.Live x)) = refl
    read-kept (Some (values.Package x)) = refl
    read-kept (Some (values.Owner x)) = refl
    read-kept (Some (values.Method x)) = refl
    read-kept (Some (values.Name x)) = refl
    read-kept (Some (values.Super x)) = refl
    read-kept (Some (values.Result x)) = refl
    read-kept (Some (values.Params x)) = refl
    read-kept (Some (values.Kind x)) = refl
    read-kept (Some (values.Fixed x)) = refl
    read-kept (Some (values.Words x)) = refl
    read-kept (Some (values.Notes x)) = refl
    read-kept (Some (values.Body x)) = bodies _ _
    read-kept (Some (values.Value ty init)) = inits ty _ _

    read-at : (at : Cell) → read (get (tidy program).cells at) ≡ read (get program.cells at)
    read-at at = ap read (tidied-at program at) ∙ read-kept (get program.cells at)

  living-same : (id : Id) → living_at (tidy program) id ≡ living_at program id
  living-same id = read-at is_yes (λ o p. refl) (λ ty o p. refl) (cell id slots.Live)

  package-same : (id : Id) → package_at (tidy program) id ≡ package_at program id
  package-same id = read-at package_in (λ o p. refl) (λ ty o p. refl) (cell id slots.Package)

  name-same : (id : Id) → name_at (tidy program) id ≡ name_at program id
  name-same id = read-at name_in (λ o p. refl) (λ ty o p. refl) (cell id slots.Name)

  owner-same : (id : Id) → owner_at (tidy program) id ≡ owner_at program id
  owner-same id = read-at owner_in (λ o p. refl) (λ ty o p. refl) (cell id slots.Owner)

  params-same : (id : Id) → params_at (tidy program) id ≡ params_at program id
  params-same id = read-at params_in (λ o p. refl) (λ ty o p. refl) (cell id slots.Params)

  parent-same : (id : Id) → parent_at (tidy program) id ≡ parent_at program id
  parent-same id = read-at parent_in (λ o p. refl) (λ ty o p. refl) (cell id slots.Super)

  abbrev fixed_in : Option Value → Option Bool
  fixed_in (Some (values.Fixed fixed)) = Some fixed
  fixed_in other = None

  fixed-same : (id : Id) → fixed_in (value_at (tidy program) id slots.Fixed) ≡ fixed_in (value_at program id slots.Fixed)
  fixed-same id = read-at fixed_in (λ o p. refl) (λ ty o p. refl) (cell id slots.Fixed)

  -- # Life

  decl-same : (method : Id) → is_living_decl (tidy program) method ≡ is_living_decl program method
  decl-same method = λ i entry. is_decl_of method entry.1 && living-same entry.0 i

  method-same : (method : Id) → lives_method (tidy program) method ≡ lives_method program method
  method-same method = λ i. list_any (decl-same method i) (entries program.known)

  lists-same : (method id : Id) → lists (tidy program) method id ≡ lists program method id
  lists-same method id = λ i. list_any (λ (param : Param). same_id id param.id) (params-same method i)

  lives-as-same : (id : Id) (known : Option Known) → lives_as (tidy program) id known ≡ lives_as program id known
  lives-as-same id None = refl
  lives-as-same id (Some knowns.Class) = living-same id
  lives-as-same id (Some knowns.Field) = living-same id
  lives-as-same id (Some (knowns.Decl method)) = living-same id
  lives-as-same id (Some (knowns.Method kind)) = method-same id
  lives-as-same id (Some (knowns.Param method)) = λ i. method-same method i && lists-same method id i

  lives-same : (id : Id) → lives (tidy program) id ≡ lives program id
  lives-same id = lives-as-same id (get program.known id)

  -- # Addresses

  decl-address-same : (id method : Id) (known : Option Known)
      → decl_address (tidy program) id method known ≡ decl_address program id method known
  decl-address-same id method None = λ i. method_address (owner-same id i) (name-same method i) (length (params-same method i))
  decl-address-same id method (Some knowns.Class) = λ i. method_address (owner-same id i) (name-same method i) (length (params-same method i))
  decl-address-same id method (Some knowns.Field) = λ i. method_address (owner-same id i) (name-same method i) (length (params-same method i))
  decl-address-same id method (Some (knowns.Decl other)) =
      λ i. method_address (owner-same id i) (name-same method i) (length (params-same method i))
  decl-address-same id method (Some (knowns.Param other)) =
      λ i. method_address (owner-same id i) (name-same method i) (length (params-same method i))
  decl-address-same id method (Some (knowns.Method Instance)) =
      λ i. method_address (owner-same id i) (name-same method i) (length (params-same method i))
  decl-address-same id method (Some (knowns.Method Static)) =
      λ i. method_address (owner-same id i) (name-same method i) (length (params-same method i))
  decl-address-same id method (Some (knowns.Method Constructor)) =
      λ i. constructor_address (owner-same id i) (length (params-same method i))

  address-as-same : (id : Id) (known : Option Known) → address_as (tidy program) id known ≡ address_as program id known
  address-as-same id None = refl
  address-as-same id (Some knowns.Class) = λ i. Some (class_address (package-same id i) (name-same id i))
  address-as-same id (Some knowns.Field) = λ i. Some (field_address (owner-same id i) (name-same id i))
  address-as-same id (Some (knowns.Decl method)) =
      ap (λ (a : Address). Some a) (decl-address-same id method (get program.known method))
  address-as-same id (Some (knowns.Method kind)) = refl
  address-as-same id (Some (knowns.Param method)) = refl

  -- # Ancestors

  living-parent-same : (parent : Option Id) → living_parent (tidy program) parent ≡ living_parent program parent
  living-parent-same None = refl
  living-parent-same (Some parent) = λ i. if living-same parent i then Some parent else None

  walk-same : (steps : ℕ) (met : List Id) (from : Option Id) → walk steps (tidy program) met from ≡ walk steps program met from
  walk-same zero met from = refl
  walk-same (suc steps) met None = refl
  walk-same (suc steps) met (Some class) =
      let above : living_parent (tidy program) (parent_at (tidy program) class) ≡ living_parent program (parent_at program class) =
      living-parent-same (parent_at (tidy program) class) ∙ ap (living_parent program) (parent-same class) in
      ap (λ (rest : List Id). class ∷ rest)
      (walk-same steps (class ∷ met) (unmet (class ∷ met) (living_parent (tidy program) (parent_at (tidy program) class)))
      ∙ ap (λ (o : Option Id). walk steps program (class ∷ met) (unmet (class ∷ met) o)) above)

  way-same : (class above : Id) → is_on_way (tidy program) class above ≡ is_on_way program class above
  way-same class above = ap (list_any (same_id above)) (walk-same (suc (len program.known)) [] (Some class))

  above-same : (owner other : Option Id) → is_above (tidy program) owner other ≡ is_above program owner other
  above-same None None = refl
  above-same None (Some above) = refl
  above-same (Some owner) None = refl
  above-same (Some owner) (Some above) = way-same owner above

  above-living-same : (method decl : Id) (below : Id × Known)
      → is_above_living (tidy program) method decl below ≡ is_above_living program method decl below
  above-living-same method decl below =
      let above : is_above (tidy program) (owner_at (tidy program) below.0) (owner_at (tidy program) decl)
      ≡ is_above program (owner_at program below.0) (owner_at program decl) =
      above-same (owner_at (tidy program) below.0) (owner_at (tidy program) decl)
      ∙ (λ i. is_above program (owner-same below.0 i) (owner-same decl i)) in
      λ i. not (decl-same method i below) || above i

  topmost-same : (method decl : Id) → is_topmost (tidy program) method decl ≡ is_topmost program method decl
  topmost-same method decl = λ i.
      option_map_or (λ (known : Known). decl-same method i (decl, known)) (get program.known decl) false
      && list_all (λ (below : Id × Known). above-living-same method decl below i) (entries program.known)

  -- # What is mentioned

  present-as-same : (o : Option Id) (param : Id) → option_map_or (λ method. lists (tidy program) method param) o false
      ≡ option_map_or (λ method. lists program method param) o false
  present-as-same None param = refl
  present-as-same (Some method) param = lists-same method param

  present-same : (owner param : Id) → is_present (tidy program) owner param ≡ is_present program owner param
  present-same owner param = present-as-same (method_of owner (get program.known owner)) param

  there-same : (owner : Id) (role : Role) (id : Id) → is_there (tidy program) owner role id ≡ is_there program owner role id
  there-same owner mention.a_param id = present-same owner id
  there-same owner mention.a_listed_param id = present-same owner id
  there-same owner mention.a_class id = lives-same id
  there-same owner mention.a_field id = lives-same id
  there-same owner mention.a_method id = lives-same id
  there-same owner mention.a_called_method id = lives-same id
  there-same owner mention.a_static_method id = lives-same id
  there-same owner mention.a_constructor id = lives-same id

  -- # Bodies

  abbrev body_in : Option Value → Option IBody
  body_in (Some (values.Body body)) = body
  body_in other = None

  fixed-is : (o : Option Value) (fixed : Bool) → fixed_in o ≡ Some fixed → o ≡ Some (values.Fixed fixed)
  fixed-is (Some (values.Fixed own)) fixed is = ap (λ (b : Bool). Some (values.Fixed b)) (same_Some own fixed is)
  fixed-is other fixed is = absurd cc

  abbrev tbody : IBody → IBody
  tbody = tidy_body (params_at program) (bare_constructor program)

  tidied-clashes : (names : Names) (body : IBody) → clashes_in names (tbody body).block ≡ clashes_in names body.block
  tidied-clashes names body = clashes-alike (params_at program) (bare_constructor program) names body.block

  -- what a tidied body was
  body-came : (o : Option Value) (body : IBody) → option_map (tidied program) o ≡ Some (values.Body (Some body))
      → (was : IBody) × (o ≡ Some (values.Body (Some was))) × (tbody was ≡ body)
  body-came (Some (values.Body (Some was))) body is = (was, refl, same_Some (tbody was) body (ap body_in is))
  body-came other body is = absurd cc

  -- what a tidied value was
  came : (o : Option Value) (value : Value) → option_map (tidied program) o ≡ Some value
      → (was : Value) × (o ≡ Some was) × (tidied program was ≡ value)
  came None value is = absurd cc
  came (Some was) value is = (was, refl, same_Some (tidied program was) value is)

  module _ (rules : IsProgram program) where
    -- what is tidied stays as it is
    stays : (at : Cell) (value : Value) → get (tidy program).cells at ≡ Some value → tidied (tidy program) value ≡ value
    stays at value holds =
        same_Some (tidied (tidy program) value) value
        (ap (option_map (tidied (tidy program))) (sym holds) ∙ sym (tidied-at (tidy program) at)
        ∙ ap (λ (whole : Program). get whole.cells at) (tidy-tidy program rules) ∙ holds)

    -- # Both ways

    from-tidied : Alike (tidy program) program
    from-tidied = record {
      known = λ id. refl;
      living = living-same;
      alive = lives-same;
      method_alive = method-same;
      entity_alive = λ id. ap (λ (b : Bool). is_some (entity_in (get program.known id)) && b) (lives-same id);
      class_alive = λ id. ap (λ (b : Bool). is_class (get program.known id) && b) (living-same id);
      packages = package-same;
      names = name-same;
      owners = owner-same;
      params = params-same;
      addresses = λ id. address-as-same id (get program.known id);
      ways = way-same;
      topmost = topmost-same;
      there = there-same;
      fixed = λ method is holds. fixed-is (value_at program method slots.Fixed) is (sym (fixed-same method) ∙ ap fixed_in holds);
      refers = λ at value holds.
          let was = came (get program.cells at) value (sym (tidied-at program at) ∙ holds) in
          (was.0, was.1, ap mentions (stays at value holds ∙ sym was.2));
      bodies = λ decl body holds.
          let was = body-came (value_at program decl slots.Body) body (sym (tidied-at program (cell decl slots.Body)) ∙ holds) in
          (was.0, was.1, λ names. ap (λ (body : IBody). clashes_in names body.block) (sym was.2) ∙ tidied-clashes names was.0);
      tidied = tidy-tidy program rules;
    }

    to-tidied : Alike program (tidy program)
    to-tidied = record {
      known = λ id. refl;
      living = λ id. sym (living-same id);
      alive = λ id. sym (lives-same id);
      method_alive = λ id. sym (method-same id);
      entity_alive = λ id. ap (λ (b : Bool). is_some (entity_in (get program.known id)) && b) (sym (lives-same id));
      class_alive = λ id. ap (λ (b : Bool). is_class (get program.known id) && b) (sym (living-same id));
      packages = λ id. sym (package-same id);
      names = λ id. sym (name-same id);
      owners = λ id. sym (owner-same id);
      params = λ id. sym (params-same id);
      addresses = λ id. sym (address-as-same id (get program.known id));
      ways = λ class above. sym (way-same class above);
      topmost = λ method decl. sym (topmost-same method decl);
      there = λ owner role id. sym (there-same owner role id);
      fixed = λ method is holds. tidied-at program (cell method slots.Fixed) ∙ ap (option_map (tidied program)) holds;
      refers = λ at value holds.
          let holds_tidied : get (tidy program).cells at ≡ Some (tidied program value) =
          tidied-at program at ∙ ap (option_map (tidied program)) holds in
          (tidied program value, holds_tidied, ap mentions (sym (stays at (tidied program value) holds_tidied)));
      bodies = λ decl body holds. (
        tbody body,
        tidied-at program (cell decl slots.Body) ∙ ap (option_map (tidied program)) holds,
        λ names. sym (tidied-clashes names body),
      );
      tidied = sym (tidy-tidy program rules);
    }

    pub first-tidied : (first : Option Fault) → IsFirst (tidy program) first → IsFirst program first
    first-tidied = first-kept (tidy program) program from-tidied to-tidied
