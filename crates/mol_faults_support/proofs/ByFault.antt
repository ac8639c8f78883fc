-- The cells that faults of each kind rest on, as the code lists them.
use Rattle.std.proofs.Common.{◌≡◌, ◌⊎◌, inl, inr, List, [], ◌∷◌, ◌++◌, Contains, flat_map, sym, subst}
use Rattle.std.specs.FinMap.{get}
use Rattle.jav_names.proofs.Lists.{stands_first, stands_later, stands_where}
use Rattle.jav_names.specs.DottedNames.{Name}
use Rattle.mol_base.specs.declared.ident.Id.{Id}
use Rattle.mol_resolve_rules.proofs.Stands.{in_front, behind, in_either}
use Rattle.mol_spell_rules.specs.FaultList.{Fault, same_address, false_override, apart, outside_name, missing, local_clash, package_is_class}
use Rattle.mol_spell_rules.specs.Support.{IsDeclarationOf, IsOneOf, LifeCell, Supports, first_address, second_address, first_overrides, second_overrides, between_owners, declaration_apart, above_apart, name_outside, declaration_outside, missing_in, entity_of_missing, life_of_missing, params_of_missing, method_of_cell, called_in, created_in, clash_in, declaration_of_clash, params_of_clash, of_package, of_inside}
use Rattle.mol_faults_support.proofs.CellsOf.{alone, one-of, of-one, one-of-each, each-one-of, single-of, of-single, address-to, address-from, declared-params-to, declared-params-from, declared-method-to, declared-method-from, params-beside-to, params-beside-from}
use Rattle.mol_faults_support.specs.Cells.{address_of, cells_of, declared_method, declared_params, params_beside}
use Rattle.mol_faults_support.specs.Declarations.{DeclaresAny}
use Rattle.mol_faults_support.specs.Rests.{RestsOn, Adds, AreLives, IsOfCell, IsOfValue, called, created}
use Rattle.mol_faults_support.specs.Ways.{AreAbove, AreBetweenOwners}
use Rattle.mol_table_rules.specs.Program.{Program, cell, method_of_param}
use Rattle.mol_values_types.specs.declared.cell.Cell.{Cell}
use Rattle.mol_values_types.specs.declared.cell.Slot.{Slot}
use Rattle.mol_values_types.specs.declared.cell.Slot.TheVariants as slots

module _ (program : Program) where
  -- the declaration of one method
  only-of : (method : Id) (declarations : List Id) → DeclaresAny program (method ∷ []) declarations → (id : Id)
      → Contains declarations id → IsDeclarationOf program method id
  only-of method declarations declares id stands =
      let declared = (declares id).0 stands in
      subst (λ m. IsDeclarationOf program m id) (sym (alone method declared.0 declared.1)) declared.2

  of-only : (method : Id) (declarations : List Id) → DeclaresAny program (method ∷ []) declarations → (id : Id)
      → IsDeclarationOf program method id → Contains declarations id
  of-only method declarations declares id declared = (declares id).1 (method, stands_first method [], declared)

  -- ---- two declarations

  module _ (first second : Id) where
    abbrev both : List Cell
    both = address_of program first ++ address_of program second

    same-to : (at : Cell) → Contains (address_of program first) at ⊎ Contains (address_of program second) at
        → Supports program (same_address first second) at
    same-to at (inl there) = first_address (address-to program first at there)
    same-to at (inr there) = second_address (address-to program second at there)

    same-from : (at : Cell) → Supports program (same_address first second) at → Contains both at
    same-from at (first_address is) = in_front (address_of program first) (address_of program second) at (address-from program first at is)
    same-from at (second_address is) = behind (address_of program first) (address_of program second) at (address-from program second at is)

    pub same-rests : (cells : List Cell) → cells ≡ both → RestsOn program (same_address first second) cells
    same-rests cells is at = (
      λ stands. same-to at (in_either (address_of program first) (address_of program second) at (subst (λ cs. Contains cs at) is stands)),
      λ rests. subst (λ cs. Contains cs at) (sym is) (same-from at rests),
    )

    module _ (classes : List Id) (between : AreBetweenOwners program first second classes) where
      abbrev supers : List Cell
      supers = flat_map (cells_of (slots.Super ∷ [])) classes

      over-to : (at : Cell) → (Contains (address_of program first) at ⊎ Contains (address_of program second) at) ⊎ Contains supers at
          → Supports program (false_override first second) at
      over-to at (inl (inl there)) = first_overrides (address-to program first at there)
      over-to at (inl (inr there)) = second_overrides (address-to program second at there)
      over-to at (inr there) =
          let found = single-of slots.Super classes at there in
          subst (Supports program (false_override first second)) (sym found.2) (between_owners ((between found.0).0 found.1))

      split : (at : Cell) → Contains both at ⊎ Contains supers at
          → (Contains (address_of program first) at ⊎ Contains (address_of program second) at) ⊎ Contains supers at
      split at (inl there) = inl (in_either (address_of program first) (address_of program second) at there)
      split at (inr there) = inr there

      over-from : (at : Cell) → Supports program (false_override first second) at → Contains (both ++ supers) at
      over-from at (first_overrides is) = in_front both supers at
          (in_front (address_of program first) (address_of program second) at (address-from program first at is))
      over-from at (second_overrides is) = in_front both supers at
          (behind (address_of program first) (address_of program second) at (address-from program second at is))
      over-from at (between_owners {class = class} is) =
          behind both supers (cell class slots.Super) (of-single slots.Super classes class ((between class).1 is))

      pub over-rests : (cells : List Cell) → cells ≡ both ++ supers → RestsOn program (false_override first second) cells
      over-rests cells is at = (
        λ stands. over-to at (split at (in_either both supers at (subst (λ cs. Contains cs at) is stands))),
        λ rests. subst (λ cs. Contains cs at) (sym is) (over-from at rests),
      )

  -- ---- two classes

  module _ (class inside : Id) where
    abbrev named : List Slot
    named = slots.Live ∷ slots.Package ∷ slots.Name ∷ []

    package-to : (id : Id) (at : Cell) → Contains (class ∷ inside ∷ []) id → IsOneOf id named at
        → Supports program (package_is_class class inside) at
    package-to id at among is = by (stands_where class id (inside ∷ []) among) where
      by : (class ≡ id) ⊎ Contains (inside ∷ []) id → Supports program (package_is_class class inside) at
      by (inl same) = of_package (subst (λ c. IsOneOf c named at) (sym same) is)
      by (inr there) = of_inside (subst (λ c. IsOneOf c named at) (sym (alone inside id there)) is)

    package-from : (at : Cell) → Supports program (package_is_class class inside) at
        → Contains (flat_map (cells_of named) (class ∷ inside ∷ [])) at
    package-from at (of_package is) = each-one-of named (class ∷ inside ∷ []) class at (stands_first class (inside ∷ [])) is
    package-from at (of_inside is) =
        each-one-of named (class ∷ inside ∷ []) inside at (stands_later class inside (inside ∷ []) (stands_first inside [])) is

    pub package-rests : (cells : List Cell) → cells ≡ flat_map (cells_of named) (class ∷ inside ∷ [])
        → RestsOn program (package_is_class class inside) cells
    package-rests cells is at = (
      λ stands. let found = one-of-each named (class ∷ inside ∷ []) at (subst (λ cs. Contains cs at) is stands) in
          package-to found.0 at found.1 found.2,
      λ rests. subst (λ cs. Contains cs at) (sym is) (package-from at rests),
    )

  -- ---- one method

  module _ (method : Id) (declarations : List Id) (declares : DeclaresAny program (method ∷ []) declarations) where
    module _ (classes : List Id) (above : AreAbove program declarations classes) where
      abbrev placed : List Slot
      placed = slots.Live ∷ slots.Owner ∷ slots.Method ∷ []

      abbrev places : List Cell
      places = flat_map (cells_of placed) declarations

      abbrev tops : List Cell
      tops = flat_map (cells_of (slots.Super ∷ [])) classes

      apart-to : (at : Cell) → Contains places at ⊎ Contains tops at → Supports program (apart method) at
      apart-to at (inl there) =
          let found = one-of-each placed declarations at there in
          declaration_apart (only-of method declarations declares found.0 found.1) found.2
      apart-to at (inr there) =
          let found = single-of slots.Super classes at there in
          let up = (above found.0).0 found.1 in
          subst (Supports program (apart method)) (sym found.2) (above_apart (only-of method declarations declares up.0 up.1) up.2)

      apart-from : (at : Cell) → Supports program (apart method) at → Contains (places ++ tops) at
      apart-from at (declaration_apart {declaration = declaration} declared is) = in_front places tops at
          (each-one-of placed declarations declaration at (of-only method declarations declares declaration declared) is)
      apart-from at (above_apart {declaration = declaration} {class = class} declared is) =
          behind places tops (cell class slots.Super) (of-single slots.Super classes class
          ((above class).1 (declaration, of-only method declarations declares declaration declared, is)))

      pub apart-rests : (cells : List Cell) → cells ≡ places ++ tops → RestsOn program (apart method) cells
      apart-rests cells is at = (
        λ stands. apart-to at (in_either places tops at (subst (λ cs. Contains cs at) is stands)),
        λ rests. subst (λ cs. Contains cs at) (sym is) (apart-from at rests),
      )

    abbrev own : List Slot
    own = slots.Name ∷ slots.Params ∷ slots.Fixed ∷ []

    abbrev declared : List Slot
    declared = slots.Live ∷ slots.Method ∷ []

    outside-to : (at : Cell) → Contains (cells_of own method) at ⊎ Contains (flat_map (cells_of declared) declarations) at
        → Supports program (outside_name method) at
    outside-to at (inl there) = name_outside (one-of own method at there)
    outside-to at (inr there) =
        let found = one-of-each declared declarations at there in
        declaration_outside (only-of method declarations declares found.0 found.1) found.2

    outside-from : (at : Cell) → Supports program (outside_name method) at
        → Contains (cells_of own method ++ flat_map (cells_of declared) declarations) at
    outside-from at (name_outside is) =
        in_front (cells_of own method) (flat_map (cells_of declared) declarations) at (of-one own method at is)
    outside-from at (declaration_outside {declaration = declaration} of-method is) =
        behind (cells_of own method) (flat_map (cells_of declared) declarations) at
        (each-one-of declared declarations declaration at (of-only method declarations declares declaration of-method) is)

    pub outside-rests : (cells : List Cell) → cells ≡ cells_of own method ++ flat_map (cells_of declared) declarations
        → RestsOn program (outside_name method) cells
    outside-rests cells is at = (
      λ stands. outside-to at (in_either (cells_of own method) (flat_map (cells_of declared) declarations) at
          (subst (λ cs. Contains cs at) is stands)),
      λ rests. subst (λ cs. Contains cs at) (sym is) (outside-from at rests),
    )

  -- ---- bodies

  module _ (body : Cell) (name : Name) where
    abbrev slots_of_declaration : List Slot
    slots_of_declaration = slots.Live ∷ slots.Method ∷ []

    abbrev rest : List Cell
    rest = cells_of slots_of_declaration body.id ++ declared_params (get program.known body.id)

    clash-later : (at : Cell)
        → Contains (cells_of slots_of_declaration body.id) at ⊎ Contains (declared_params (get program.known body.id)) at
        → Supports program (local_clash body name) at
    clash-later at (inl there) = declaration_of_clash (one-of slots_of_declaration body.id at there)
    clash-later at (inr there) =
        let found = declared-params-to program body.id at there in
        subst (Supports program (local_clash body name)) (sym found.2) (params_of_clash found.1)

    clash-to : (at : Cell) → (body ≡ at) ⊎ Contains rest at → Supports program (local_clash body name) at
    clash-to at (inl same) = subst (Supports program (local_clash body name)) same clash_in
    clash-to at (inr there) = clash-later at
        (in_either (cells_of slots_of_declaration body.id) (declared_params (get program.known body.id)) at there)

    clash-from : (at : Cell) → Supports program (local_clash body name) at → Contains (body ∷ rest) at
    clash-from at clash_in = stands_first body rest
    clash-from at (declaration_of_clash is) = stands_later body at rest
        (in_front (cells_of slots_of_declaration body.id) (declared_params (get program.known body.id)) at
        (of-one slots_of_declaration body.id at is))
    clash-from at (params_of_clash {method = method} is) = stands_later body (cell method slots.Params) rest
        (behind (cells_of slots_of_declaration body.id) (declared_params (get program.known body.id)) (cell method slots.Params)
        (declared-params-from program body.id method is))

    pub clash-rests : (cells : List Cell) → cells ≡ body ∷ rest → RestsOn program (local_clash body name) cells
    clash-rests cells is at = (
      λ stands. clash-to at (stands_where body at rest (subst (λ cs. Contains cs at) is stands)),
      λ rests. subst (λ cs. Contains cs at) (sym is) (clash-from at rests),
    )

  -- ---- cells that refer to what is gone

  module _ (in_cell : Cell) (target : Id) where
    abbrev beside : List Cell
    beside = declared_method in_cell.id (get program.known in_cell.id) ++ params_beside (method_of_param program target)

    abbrev gone : Fault
    gone = missing in_cell target

    lives-to : (at : Cell) → (id : Id) × Contains (in_cell.id ∷ target ∷ []) id × LifeCell program id at → Supports program gone at
    lives-to at life = by (stands_where in_cell.id life.0 (target ∷ []) life.1) where
      by : (in_cell.id ≡ life.0) ⊎ Contains (target ∷ []) life.0 → Supports program gone at
      by (inl same) = entity_of_missing (subst (λ id. LifeCell program id at) (sym same) life.2)
      by (inr there) = life_of_missing (subst (λ id. LifeCell program id at) (sym (alone target life.0 there)) life.2)

    beside-to : (at : Cell) → Contains (declared_method in_cell.id (get program.known in_cell.id)) at
        ⊎ Contains (params_beside (method_of_param program target)) at → Supports program gone at
    beside-to at (inl there) =
        let found = declared-method-to program in_cell.id at there in subst (Supports program gone) (sym found.2) (method_of_cell found.1)
    beside-to at (inr there) =
        let found = params-beside-to program target at there in subst (Supports program gone) (sym found.2) (params_of_missing found.1)

    first-to : (at : Cell) → (in_cell ≡ at) ⊎ Contains beside at → Supports program gone at
    first-to at (inl same) = subst (Supports program gone) same missing_in
    first-to at (inr there) = beside-to at
        (in_either (declared_method in_cell.id (get program.known in_cell.id)) (params_beside (method_of_param program target)) at there)

    value-to : (at : Cell) → IsOfCell program in_cell at → Supports program gone at
    value-to at of-cell = by at of-cell.of_value where
      by : (here : Cell) → IsOfValue program of-cell.value here → Supports program gone here
      by here (called is) = called_in of-cell.holds is
      by here (created among is) = created_in of-cell.holds among is

    module _ (lives with_beside cells : List Cell) (are : AreLives program (in_cell.id ∷ target ∷ []) lives)
        (added : with_beside ≡ lives ++ (in_cell ∷ beside)) (all : Adds with_beside cells (IsOfCell program in_cell)) where
      old-to : (at : Cell) → Contains lives at ⊎ Contains (in_cell ∷ beside) at → Supports program gone at
      old-to at (inl there) = lives-to at ((are at).0 there)
      old-to at (inr there) = first-to at (stands_where in_cell at beside there)

      missing-to : (at : Cell) → Contains with_beside at ⊎ IsOfCell program in_cell at → Supports program gone at
      missing-to at (inl there) = old-to at (in_either lives (in_cell ∷ beside) at (subst (λ cs. Contains cs at) added there))
      missing-to at (inr of-cell) = value-to at of-cell

      in-old : (at : Cell) → Contains (lives ++ (in_cell ∷ beside)) at → Contains cells at
      in-old at there = (all at).1 (inl (subst (λ cs. Contains cs at) (sym added) there))

      in-lives : (at : Cell) (id : Id) → Contains (in_cell.id ∷ target ∷ []) id → LifeCell program id at → Contains cells at
      in-lives at id among life = in-old at (in_front lives (in_cell ∷ beside) at ((are at).1 (id, among, life)))

      in-beside : (at : Cell) → Contains beside at → Contains cells at
      in-beside at there = in-old at (behind lives (in_cell ∷ beside) at (stands_later in_cell at beside there))

      missing-from : (at : Cell) → Supports program gone at → Contains cells at
      missing-from at missing_in = in-old in_cell (behind lives (in_cell ∷ beside) in_cell (stands_first in_cell beside))
      missing-from at (entity_of_missing life) = in-lives at in_cell.id (stands_first in_cell.id (target ∷ [])) life
      missing-from at (life_of_missing life) =
          in-lives at target (stands_later in_cell.id target (target ∷ []) (stands_first target [])) life
      missing-from at (params_of_missing {method = method} is) = in-beside (cell method slots.Params)
          (behind (declared_method in_cell.id (get program.known in_cell.id)) (params_beside (method_of_param program target))
          (cell method slots.Params) (params-beside-from program target method is))
      missing-from at (method_of_cell {method = method} is) = in-beside (cell in_cell.id slots.Method)
          (in_front (declared_method in_cell.id (get program.known in_cell.id)) (params_beside (method_of_param program target))
          (cell in_cell.id slots.Method) (declared-method-from program in_cell.id method is))
      missing-from at (called_in {method = method} {value = value} holds is) =
          (all (cell method slots.Params)).1 (inr (record { value = value; holds = holds; of_value = called is }))
      missing-from at (created_in {declaration = declaration} {value = value} holds among is) =
          (all (cell declaration slots.Live)).1 (inr (record { value = value; holds = holds; of_value = created among is }))

      pub missing-rests : RestsOn program gone cells
      missing-rests at = (λ stands. missing-to at ((all at).0 stands), missing-from at)
