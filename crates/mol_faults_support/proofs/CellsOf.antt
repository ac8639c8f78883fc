-- What stands in lists of cells.
use Rattle.std.proofs.Common.{◌≡◌, ◌⊎◌, inl, inr, Bool, true, false, cond, List, [], ◌∷◌, ◌++◌, Option, Some, None, Contains, flat_map, refl, sym, ◌∙◌, ap, subst}
use Rattle.std.specs.FinMap.{get}
use Rattle.jav_names.proofs.Lists.{stands-mapped, stands_first, stands_where, stands_nowhere}
use Rattle.mol_base.specs.declared.ident.Id.{Id}
use Rattle.mol_resolve_rules.proofs.Stands.{in_front, behind, in_either, from_map, in_each, from_each}
use Rattle.mol_spell_rules.specs.Support.{AddressCell, of_class, of_field, of_declaration, of_its_method, IsDeclarationOf, IsOneOf, LifeCell, own_life, declared_life}
use Rattle.mol_faults_support.specs.Cells.{cells_of, address_as, address_of, declared_params, declared_method, params_beside}
use Rattle.mol_faults_support.specs.Cells as kept
use Rattle.mol_faults_support.specs.Declarations.{DeclaresAny}
use Rattle.mol_faults_support.specs.Rests.{AreLives}
use Rattle.mol_table_rules.specs.Program.{Program, cell, method_of_param}
use Rattle.mol_values_types.specs.Slots.{has_slot}
use Rattle.mol_values_types.specs.declared.cell.Cell.{Cell}
use Rattle.mol_values_types.specs.declared.cell.Slot.{Slot}
use Rattle.mol_values_types.specs.declared.cell.Slot.TheVariants as slots
use Rattle.mol_values_types.specs.declared.known.Known.{Known}
use Rattle.mol_values_types.specs.declared.known.Known.TheVariants as knowns

-- a list of one
pub alone : {X : Type 0} (x y : X) → Contains (x ∷ []) y → x ≡ y
alone x y there = by (stands_where x y [] there) where
  by : (x ≡ y) ⊎ Contains [] y → x ≡ y
  by (inl same) = same
  by (inr never) = absurd (stands_nowhere y never)

-- ---- of identities

pub one-of : (these : List Slot) (id : Id) (at : Cell) → Contains (cells_of these id) at → IsOneOf id these at
one-of these id at stands = let found = from_map (cell id) these at stands in (found.0, (found.1, sym found.2))

pub of-one : (these : List Slot) (id : Id) (at : Cell) → IsOneOf id these at → Contains (cells_of these id) at
of-one these id at is = subst (Contains (cells_of these id)) (sym is.1.1) (stands-mapped (cell id) these is.0 is.1.0)

pub one-of-each : (these : List Slot) (ids : List Id) (at : Cell) → Contains (flat_map (cells_of these) ids) at
    → (id : Id) × Contains ids id × IsOneOf id these at
one-of-each these ids at stands =
    let found = from_each (cells_of these) ids at stands in (found.0, found.1, one-of these found.0 at found.2)

pub each-one-of : (these : List Slot) (ids : List Id) (id : Id) (at : Cell) → Contains ids id → IsOneOf id these at
    → Contains (flat_map (cells_of these) ids) at
each-one-of these ids id at among is = in_each (cells_of these) ids id at among (of-one these id at is)

-- in a single slot
pub single-of : (slot : Slot) (ids : List Id) (at : Cell) → Contains (flat_map (cells_of (slot ∷ [])) ids) at
    → (id : Id) × Contains ids id × (at ≡ cell id slot)
single-of slot ids at stands =
    let found = one-of-each (slot ∷ []) ids at stands in
    (found.0, found.1, found.2.1.1 ∙ ap (cell found.0) (sym (alone slot found.2.0 found.2.1.0)))

pub of-single : (slot : Slot) (ids : List Id) (id : Id) → Contains ids id → Contains (flat_map (cells_of (slot ∷ [])) ids) (cell id slot)
of-single slot ids id among = each-one-of (slot ∷ []) ids id (cell id slot) among (slot, (stands_first slot [], refl))

-- ---- addresses

module _ (program : Program) (id : Id) (at : Cell) where
  pub address-to : Contains (address_of program id) at → AddressCell program id at
  address-to = by (get program.known id) refl where
    by_declaration : (method : Id) → get program.known id ≡ Some (knowns.Decl method)
        → Contains (cells_of (slots.Live ∷ slots.Owner ∷ slots.Method ∷ []) id) at
        ⊎ Contains (cells_of (slots.Name ∷ slots.Params ∷ []) method) at → AddressCell program id at
    by_declaration method is (inl own) = of_declaration is (one-of (slots.Live ∷ slots.Owner ∷ slots.Method ∷ []) id at own)
    by_declaration method is (inr its) = of_its_method is (one-of (slots.Name ∷ slots.Params ∷ []) method at its)

    by : (o : Option Known) → get program.known id ≡ o → Contains (address_as id o) at → AddressCell program id at
    by (Some knowns.Class) is there = of_class is (one-of (slots.Live ∷ slots.Package ∷ slots.Name ∷ []) id at there)
    by (Some knowns.Field) is there = of_field is (one-of (slots.Live ∷ slots.Owner ∷ slots.Name ∷ []) id at there)
    by (Some (knowns.Decl method)) is there = by_declaration method is
        (in_either (cells_of (slots.Live ∷ slots.Owner ∷ slots.Method ∷ []) id) (cells_of (slots.Name ∷ slots.Params ∷ []) method) at there)
    by (Some (knowns.Method kind)) is there = absurd (stands_nowhere at there)
    by (Some (knowns.Param method)) is there = absurd (stands_nowhere at there)
    by None is there = absurd (stands_nowhere at there)

  -- by what the identity is known as
  abbrev as_known : Option Known → Type 0
  as_known o = Contains (address_as id o) at

  pub address-from : AddressCell program id at → Contains (address_of program id) at
  address-from (of_class is these) = subst as_known (sym is) (of-one (slots.Live ∷ slots.Package ∷ slots.Name ∷ []) id at these)
  address-from (of_field is these) = subst as_known (sym is) (of-one (slots.Live ∷ slots.Owner ∷ slots.Name ∷ []) id at these)
  address-from (of_declaration {method = method} is these) = subst as_known (sym is)
      (in_front (cells_of (slots.Live ∷ slots.Owner ∷ slots.Method ∷ []) id) (cells_of (slots.Name ∷ slots.Params ∷ []) method) at
      (of-one (slots.Live ∷ slots.Owner ∷ slots.Method ∷ []) id at these))
  address-from (of_its_method {method = method} is these) = subst as_known (sym is)
      (behind (cells_of (slots.Live ∷ slots.Owner ∷ slots.Method ∷ []) id) (cells_of (slots.Name ∷ slots.Params ∷ []) method) at
      (of-one (slots.Name ∷ slots.Params ∷ []) method at these))

-- ---- what lives

own-to : (program : Program) (id : Id) (at : Cell) → Contains (kept.own_life program id) at → LifeCell program id at
own-to program id at = by (has_slot (get program.known id) slots.Live) refl where
  by : (b : Bool) → has_slot (get program.known id) slots.Live ≡ b → Contains (cond b (cell id slots.Live ∷ []) []) at
      → LifeCell program id at
  by true has there = subst (LifeCell program id) (alone (cell id slots.Live) at there) (own_life has)
  by false none there = absurd (stands_nowhere at there)

own-from : (program : Program) (id : Id) → has_slot (get program.known id) slots.Live ≡ true
    → Contains (kept.own_life program id) (cell id slots.Live)
own-from program id has =
    subst (λ b. Contains (cond b (cell id slots.Live ∷ []) []) (cell id slots.Live)) (sym has) (stands_first (cell id slots.Live) [])

module _ (program : Program) (ids found : List Id) (declares : DeclaresAny program ids found) (cells : List Cell)
    (is : cells ≡ flat_map (kept.own_life program) ids ++ flat_map (cells_of (slots.Live ∷ [])) found) where
  lives-to : (at : Cell) → Contains (flat_map (kept.own_life program) ids) at ⊎ Contains (flat_map (cells_of (slots.Live ∷ [])) found) at
      → (id : Id) × Contains ids id × LifeCell program id at
  lives-to at (inl there) =
      let own = from_each (kept.own_life program) ids at there in (own.0, own.1, own-to program own.0 at own.2)
  lives-to at (inr there) =
      let cell-of = single-of slots.Live found at there in
      let declared = (declares cell-of.0).0 cell-of.1 in
      (declared.0, declared.1, subst (LifeCell program declared.0) (sym cell-of.2) (declared_life declared.2))

  life-from : (id : Id) (at : Cell) → Contains ids id → LifeCell program id at
      → Contains (flat_map (kept.own_life program) ids ++ flat_map (cells_of (slots.Live ∷ [])) found) at
  life-from id at among (own_life has) =
      in_front (flat_map (kept.own_life program) ids) (flat_map (cells_of (slots.Live ∷ [])) found) (cell id slots.Live)
      (in_each (kept.own_life program) ids id (cell id slots.Live) among (own-from program id has))
  life-from id at among (declared_life {declaration = declaration} declared) =
      behind (flat_map (kept.own_life program) ids) (flat_map (cells_of (slots.Live ∷ [])) found) (cell declaration slots.Live)
      (of-single slots.Live found declaration ((declares declaration).1 (id, among, declared)))

  pub are-lives : AreLives program ids cells
  are-lives at = (
    λ stands. lives-to at (in_either (flat_map (kept.own_life program) ids) (flat_map (cells_of (slots.Live ∷ [])) found) at
        (subst (λ cs. Contains cs at) is stands)),
    λ (life : (id : Id) × Contains ids id × LifeCell program id at).
        subst (λ cs. Contains cs at) (sym is) (life-from life.0 at life.1 life.2),
  )

-- ---- beside a method

pub declared-params-to : (program : Program) (id : Id) (at : Cell) → Contains (declared_params (get program.known id)) at
    → (method : Id) × IsDeclarationOf program method id × (at ≡ cell method slots.Params)
declared-params-to program id at = by (get program.known id) refl where
  by : (o : Option Known) → get program.known id ≡ o → Contains (declared_params o) at
      → (method : Id) × IsDeclarationOf program method id × (at ≡ cell method slots.Params)
  by (Some (knowns.Decl method)) is there = (method, is, sym (alone (cell method slots.Params) at there))
  by (Some knowns.Class) is there = absurd (stands_nowhere at there)
  by (Some (knowns.Method kind)) is there = absurd (stands_nowhere at there)
  by (Some knowns.Field) is there = absurd (stands_nowhere at there)
  by (Some (knowns.Param method)) is there = absurd (stands_nowhere at there)
  by None is there = absurd (stands_nowhere at there)

pub declared-params-from : (program : Program) (id method : Id) → IsDeclarationOf program method id
    → Contains (declared_params (get program.known id)) (cell method slots.Params)
declared-params-from program id method is =
    subst (λ o. Contains (declared_params o) (cell method slots.Params)) (sym is) (stands_first (cell method slots.Params) [])

pub declared-method-to : (program : Program) (id : Id) (at : Cell) → Contains (declared_method id (get program.known id)) at
    → (method : Id) × IsDeclarationOf program method id × (at ≡ cell id slots.Method)
declared-method-to program id at = by (get program.known id) refl where
  by : (o : Option Known) → get program.known id ≡ o → Contains (declared_method id o) at
      → (method : Id) × IsDeclarationOf program method id × (at ≡ cell id slots.Method)
  by (Some (knowns.Decl method)) is there = (method, is, sym (alone (cell id slots.Method) at there))
  by (Some knowns.Class) is there = absurd (stands_nowhere at there)
  by (Some (knowns.Method kind)) is there = absurd (stands_nowhere at there)
  by (Some knowns.Field) is there = absurd (stands_nowhere at there)
  by (Some (knowns.Param method)) is there = absurd (stands_nowhere at there)
  by None is there = absurd (stands_nowhere at there)

pub declared-method-from : (program : Program) (id method : Id) → IsDeclarationOf program method id
    → Contains (declared_method id (get program.known id)) (cell id slots.Method)
declared-method-from program id method is =
    subst (λ o. Contains (declared_method id o) (cell id slots.Method)) (sym is) (stands_first (cell id slots.Method) [])

pub params-beside-to : (program : Program) (param : Id) (at : Cell) → Contains (params_beside (method_of_param program param)) at
    → (method : Id) × (method_of_param program param ≡ Some method) × (at ≡ cell method slots.Params)
params-beside-to program param at = by (method_of_param program param) refl where
  by : (o : Option Id) → method_of_param program param ≡ o → Contains (params_beside o) at
      → (method : Id) × (method_of_param program param ≡ Some method) × (at ≡ cell method slots.Params)
  by None is there = absurd (stands_nowhere at there)
  by (Some method) is there = (method, is, sym (alone (cell method slots.Params) at there))

pub params-beside-from : (program : Program) (param method : Id) → method_of_param program param ≡ Some method
    → Contains (params_beside (method_of_param program param)) (cell method slots.Params)
params-beside-from program param method is =
    subst (λ o. Contains (params_beside o) (cell method slots.Params)) (sym is) (stands_first (cell method slots.Params) [])
