-- The cells that targets have to do with.
use Rattle.std.proofs.Common.{◌≡◌, ◌≢◌, ◌⊎◌, inl, inr, ℕ, Bool, true, false, List, [], ◌∷◌, ◌++◌, Option, Some, None, Contains, flat_map, filter_map, map, refl, sym, ◌∙◌, ap, subst, arith, eqb-true, slice_index_or, true≢false}
use Rattle.std.proofs.lemmas.List.Elements.{All-contains, All-from_recursion}
use Rattle.std.proofs.lemmas.Map.Views.{Contains-from_any}
use Rattle.std.specs.FinMap.{get}
use Rattle.std.specs.List.{AllByRecursion}
use Rattle.jav_names.proofs.Lists.{stands-mapped, stands_first}
use Rattle.mol_base.specs.declared.ident.Id.{Id}
use Rattle.mol_spell_rules.specs.references.References.{Target, class_target, field_target, method_target, param_target, default_target, local_target, outside_target}
use Rattle.mol_resolve_rules.proofs.Stands.{in_front, behind, in_either, from_map, from_some, in_some, in_each, from_each}
use Rattle.mol_spell_rules.specs.FaultList.{FaultTarget, misread}
use Rattle.mol_spell_rules.specs.Support.{Concerns, the_class, the_field, the_method, its_declaration, its_class, its_method, declaration_of_its_method, HeaderCell, IsDeclarationOf, LifeCell, Supports, misread_in, entity_of_misread, target_of_misread}
use Rattle.mol_faults_support.proofs.CellsOf.{alone, one-of, of-one}
use Rattle.mol_faults_support.specs.Declarations.{DeclaresAny}
use Rattle.mol_faults_rules.specs.Met.{kept_met, is_of_program}
use Rattle.mol_faults_support.specs.Met.{HasMet, entity_of, method_for, header_slots, header_of}
use Rattle.mol_faults_support.specs.Rests.{RestsOn, Adds, AreLives, IsOfTargets}
use Rattle.mol_faults_rules.specs.declared.met.Met.{Met}
use Rattle.mol_table_rules.specs.Program.{Program}
use Rattle.mol_table_rules.proofs.CellOrder.{every_slot, slot_at}
use Rattle.mol_values_types.specs.Order.{slot_number}
use Rattle.mol_values_types.specs.Slots.{has_slot, kind_of_known, same_slot, slots_of}
use Rattle.mol_values_types.specs.declared.cell.Cell.{Cell}
use Rattle.mol_values_types.specs.declared.cell.Slot.{Slot}
use Rattle.mol_values_types.specs.declared.cell.Slot.TheVariants as slots
use Rattle.mol_values_types.specs.declared.known.Known.{Known}
use Rattle.mol_values_types.specs.declared.known.Known.TheVariants as knowns

-- ---- slots

-- a slot that says where something is and what it is
abbrev is_header : Slot → Bool
is_header slots.Words = false
is_header slots.Notes = false
is_header slots.Body = false
is_header slots.Value = false
is_header slot = true

slots-tied : (first second : Slot) → same_slot first second ≡ true → first ≡ second
slots-tied first second is = sym (slot_at first slots.Live)
    ∙ ap (λ n. slice_index_or every_slot n slots.Live) (eqb-true (slot_number first) (slot_number second) is) ∙ slot_at second slots.Live

-- of what is known as this
abbrev Fits : Option Known → Slot → Type 0
Fits o slot = (has_slot o slot ≡ true) × (is_header slot ≡ true)

fitting : (o : Option Known) → AllByRecursion (Fits o) (header_slots o)
fitting (Some knowns.Class) = ((refl, refl), ((refl, refl), ((refl, refl), ((refl, refl), tt))))
fitting (Some (knowns.Method kind)) = ((refl, refl), ((refl, refl), ((refl, refl), ((refl, refl), ((refl, refl), tt)))))
fitting (Some (knowns.Decl method)) = ((refl, refl), ((refl, refl), ((refl, refl), tt)))
fitting (Some knowns.Field) = ((refl, refl), ((refl, refl), ((refl, refl), tt)))
fitting (Some (knowns.Param method)) = tt
fitting None = tt

fits : (o : Option Known) (slot : Slot) → Contains (header_slots o) slot → Fits o slot
fits o slot stands = All-contains (Fits o) (header_slots o) slot (All-from_recursion (Fits o) (header_slots o) (fitting o)) stands

-- each slot of what is known as this is among them, or is none of them
abbrev Stands : Option Known → Slot → Type 0
Stands o slot = is_header slot ≡ true → Contains (header_slots o) slot

left-out : (o : Option Known) (slot : Slot) → is_header slot ≡ false → Stands o slot
left-out o slot out is = absurd (true≢false (sym is ∙ out))

standing : (known : Known) → AllByRecursion (Stands (Some known)) (slots_of (kind_of_known known))
standing knowns.Class = (
  λ is. (0, omega arith, refl),
  (
    λ is. (1, omega arith, refl),
    (
      λ is. (2, omega arith, refl),
      (λ is. (3, omega arith, refl), (left-out (Some knowns.Class) slots.Words refl, (left-out (Some knowns.Class) slots.Notes refl, tt))),
    ),
  ),
)
standing (knowns.Method kind) = (
  λ is. (0, omega arith, refl),
  (
    λ is. (1, omega arith, refl),
    (
      λ is. (2, omega arith, refl),
      (λ is. (3, omega arith, refl), (λ is. (4, omega arith, refl), tt)),
    ),
  ),
)
standing (knowns.Decl method) = (
  λ is. (0, omega arith, refl),
  (
    λ is. (1, omega arith, refl),
    (
      λ is. (2, omega arith, refl),
      (
        left-out (Some (knowns.Decl method)) slots.Words refl,
        (
          left-out (Some (knowns.Decl method)) slots.Notes refl,
          (left-out (Some (knowns.Decl method)) slots.Body refl, tt),
        ),
      ),
    ),
  ),
)
standing knowns.Field = (
  λ is. (0, omega arith, refl),
  (
    λ is. (1, omega arith, refl),
    (
      λ is. (2, omega arith, refl),
      (
        left-out (Some knowns.Field) slots.Words refl,
        (
          left-out (Some knowns.Field) slots.Notes refl,
          (left-out (Some knowns.Field) slots.Value refl, tt),
        ),
      ),
    ),
  ),
)
standing (knowns.Param method) = tt

stands-there : (o : Option Known) (slot : Slot) → has_slot o slot ≡ true → is_header slot ≡ true → Contains (header_slots o) slot
stands-there None slot has is = absurd (true≢false (sym has))
stands-there (Some known) slot has is =
    All-contains (Stands (Some known)) (slots_of (kind_of_known known)) slot
    (All-from_recursion (Stands (Some known)) (slots_of (kind_of_known known)) (standing known))
    (Contains-from_any slots-tied slot (slots_of (kind_of_known known)) has) is

other-than : (slot out : Slot) → is_header slot ≡ true → is_header out ≡ false → slot ≢ out
other-than slot out is out-is same = true≢false (sym is ∙ ap is_header same ∙ out-is)

is-header : (slot : Slot) → slot ≢ slots.Words → slot ≢ slots.Notes → slot ≢ slots.Body → slot ≢ slots.Value → is_header slot ≡ true
is-header slots.Words words notes body value = absurd (words refl)
is-header slots.Notes words notes body value = absurd (notes refl)
is-header slots.Body words notes body value = absurd (body refl)
is-header slots.Value words notes body value = absurd (value refl)
is-header slots.Live words notes body value = refl
is-header slots.Package words notes body value = refl
is-header slots.Owner words notes body value = refl
is-header slots.Method words notes body value = refl
is-header slots.Name words notes body value = refl
is-header slots.Super words notes body value = refl
is-header slots.Result words notes body value = refl
is-header slots.Params words notes body value = refl
is-header slots.Kind words notes body value = refl
is-header slots.Fixed words notes body value = refl

module _ (program : Program) where
  header-to : (id : Id) (at : Cell) → Contains (header_of program id) at → HeaderCell program id at
  header-to id at stands =
      let found = one-of (header_slots (get program.known id)) id at stands in
      let fit = fits (get program.known id) found.0 found.1.0 in
      record {
        slot = found.0;
        is = found.1.1;
        has = fit.0;
        no_words = other-than found.0 slots.Words fit.1 refl;
        no_notes = other-than found.0 slots.Notes fit.1 refl;
        no_body = other-than found.0 slots.Body fit.1 refl;
        no_value = other-than found.0 slots.Value fit.1 refl;
      }

  header-from : (id : Id) (at : Cell) → HeaderCell program id at → Contains (header_of program id) at
  header-from id at header = of-one (header_slots (get program.known id)) id at (
    header.slot,
    (
      stands-there (get program.known id) header.slot header.has
          (is-header header.slot header.no_words header.no_notes header.no_body header.no_value),
      header.is,
    ),
  )

  -- ---- what a target has to do with

  entity-concerns : (target : Target) (id : Id) → entity_of program target ≡ Some id → Concerns program target id
  entity-concerns (class_target class) id is =
      let same : class ≡ id = cc in subst (Concerns program (class_target class)) same the_class
  entity-concerns (field_target field) id is =
      let same : field ≡ id = cc in subst (Concerns program (field_target field)) same the_field
  entity-concerns (method_target method) id is =
      let same : method ≡ id = cc in subst (Concerns program (method_target method)) same the_method
  entity-concerns (param_target param) id is = its_method is
  entity-concerns (default_target class) id is =
      let same : class ≡ id = cc in subst (Concerns program (default_target class)) same its_class
  entity-concerns (local_target number) id is = absurd cc
  entity-concerns (outside_target text) id is = absurd cc

  method-concerns : (target : Target) (method id : Id) → method_for program target ≡ Some method → IsDeclarationOf program method id
      → Concerns program target id
  method-concerns (method_target own) method id is declared =
      let same : method ≡ own = cc in its_declaration (subst (λ m. IsDeclarationOf program m id) same declared)
  method-concerns (param_target param) method id is declared = declaration_of_its_method is declared
  method-concerns (class_target class) method id is declared = absurd cc
  method-concerns (field_target field) method id is declared = absurd cc
  method-concerns (default_target class) method id is declared = absurd cc
  method-concerns (local_target number) method id is declared = absurd cc
  method-concerns (outside_target text) method id is declared = absurd cc

  concerns-split : (target : Target) (id : Id) → Concerns program target id
      → (entity_of program target ≡ Some id)
      ⊎ ((method : Id) × (method_for program target ≡ Some method) × IsDeclarationOf program method id)
  concerns-split (class_target class) id the_class = inl refl
  concerns-split (field_target field) id the_field = inl refl
  concerns-split (method_target method) id the_method = inl refl
  concerns-split (method_target method) id (its_declaration declared) = inr (method, refl, declared)
  concerns-split (default_target class) id its_class = inl refl
  concerns-split (param_target param) id (its_method is) = inl is
  concerns-split (param_target param) id (declaration_of_its_method {method = method} is declared) = inr (method, is, declared)
  concerns-split (local_target number) id concerns = elim concerns [ ]
  concerns-split (outside_target text) id concerns = elim concerns [ ]

  concerned-of : (target : Target) (id : Id) → Concerns program target id → is_of_program target ≡ true
  concerned-of (class_target class) id concerns = refl
  concerned-of (field_target field) id concerns = refl
  concerned-of (method_target method) id concerns = refl
  concerned-of (param_target param) id concerns = refl
  concerned-of (default_target class) id concerns = refl
  concerned-of (local_target number) id concerns = elim concerns [ ]
  concerned-of (outside_target text) id concerns = elim concerns [ ]

  -- ---- of several targets

  module _ (met : List Met) (entities declared : List Id)
      (of-entities : entities ≡ filter_map (λ target. entity_of program (kept_met target)) met)
      (declares : DeclaresAny program (filter_map (λ target. method_for program (kept_met target)) met) declared) (old new : List Cell)
      (is : new ≡ (old ++ flat_map (header_of program) entities) ++ flat_map (header_of program) declared) where
    abbrev own : List Cell
    own = flat_map (header_of program) entities

    abbrev theirs : List Cell
    theirs = flat_map (header_of program) declared

    own-to : (at : Cell) → Contains own at → IsOfTargets program (map kept_met met) at
    own-to at there =
        let found = from_each (header_of program) entities at there in
        let picked = from_some (λ target. entity_of program (kept_met target)) met found.0
        (subst (λ ids. Contains ids found.0) of-entities found.1) in
        record {
          target = kept_met picked.0;
          id = found.0;
          among = stands-mapped kept_met met picked.0 picked.1;
          concerns = entity-concerns (kept_met picked.0) found.0 picked.2;
          header = header-to found.0 at found.2;
        }

    theirs-to : (at : Cell) → Contains theirs at → IsOfTargets program (map kept_met met) at
    theirs-to at there =
        let found = from_each (header_of program) declared at there in
        let of-method = (declares found.0).0 found.1 in
        let picked = from_some (λ target. method_for program (kept_met target)) met of-method.0 of-method.1 in
        record {
          target = kept_met picked.0;
          id = found.0;
          among = stands-mapped kept_met met picked.0 picked.1;
          concerns = method-concerns (kept_met picked.0) of-method.0 found.0 picked.2 of-method.2;
          header = header-to found.0 at found.2;
        }

    targets-to : (at : Cell) → Contains (old ++ own) at ⊎ Contains theirs at → Contains old at ⊎ IsOfTargets program (map kept_met met) at
    targets-to at (inl there) = by (in_either old own at there) where
      by : Contains old at ⊎ Contains own at → Contains old at ⊎ IsOfTargets program (map kept_met met) at
      by (inl before) = inl before
      by (inr here) = inr (own-to at here)
    targets-to at (inr there) = inr (theirs-to at there)

    concerned-from : (at : Cell) (target : Met) (id : Id) → Contains met target → HeaderCell program id at
        → (entity_of program (kept_met target) ≡ Some id)
        ⊎ ((method : Id) × (method_for program (kept_met target) ≡ Some method) × IsDeclarationOf program method id)
        → Contains ((old ++ own) ++ theirs) at
    concerned-from at target id among header (inl same) = in_front (old ++ own) theirs at (behind old own at
        (in_each (header_of program) entities id at (subst (λ ids. Contains ids id) (sym of-entities)
        (in_some (λ target. entity_of program (kept_met target)) met target id among same)) (header-from id at header)))
    concerned-from at target id among header (inr of-method) = behind (old ++ own) theirs at
        (in_each (header_of program) declared id at ((declares id).1 (
          of-method.0,
          in_some (λ target. method_for program (kept_met target)) met target of-method.0 among of-method.1,
          of-method.2,
        ))
        (header-from id at header))

    targets-from : (at : Cell) → Contains old at ⊎ IsOfTargets program (map kept_met met) at → Contains ((old ++ own) ++ theirs) at
    targets-from at (inl before) = in_front (old ++ own) theirs at (in_front old own at before)
    targets-from at (inr of-targets) =
        let found = from_map kept_met met of-targets.target of-targets.among in
        concerned-from at found.0 of-targets.id found.1 of-targets.header
        (concerns-split (kept_met found.0) of-targets.id
        (subst (λ target. Concerns program target of-targets.id) (sym found.2) of-targets.concerns))

    pub adds-targets : Adds old new (IsOfTargets program (map kept_met met))
    adds-targets at = (
      λ stands. targets-to at (in_either (old ++ own) theirs at (subst (λ cs. Contains cs at) is stands)),
      λ either. subst (λ cs. Contains cs at) (sym is) (targets-from at either),
    )

  -- ---- misread references

  module _ (in_cell : Cell) (number : ℕ) (recorded : FaultTarget) (targets : List Target)
      (met : HasMet program (misread in_cell number recorded) targets) (lives with_cell cells : List Cell)
      (are : AreLives program (in_cell.id ∷ []) lives) (added : with_cell ≡ lives ++ in_cell ∷ [])
      (all : Adds with_cell cells (IsOfTargets program targets)) where
    misread-old : (at : Cell) → Contains lives at ⊎ Contains (in_cell ∷ []) at → Supports program (misread in_cell number recorded) at
    misread-old at (inl there) =
        let life = (are at).0 there in
        entity_of_misread (subst (λ id. LifeCell program id at) (sym (alone in_cell.id life.0 life.1)) life.2)
    misread-old at (inr there) = subst (Supports program (misread in_cell number recorded)) (alone in_cell at there) misread_in

    misread-to : (at : Cell) → Contains with_cell at ⊎ IsOfTargets program targets at
        → Supports program (misread in_cell number recorded) at
    misread-to at (inl there) = misread-old at (in_either lives (in_cell ∷ []) at (subst (λ cs. Contains cs at) added there))
    misread-to at (inr of-targets) =
        target_of_misread ((met of-targets.target).0 of-targets.among).0 of-targets.concerns of-targets.header

    in-old : (at : Cell) → Contains (lives ++ in_cell ∷ []) at → Contains cells at
    in-old at there = (all at).1 (inl (subst (λ cs. Contains cs at) (sym added) there))

    misread-from : (at : Cell) → Supports program (misread in_cell number recorded) at → Contains cells at
    misread-from at misread_in = in-old in_cell (behind lives (in_cell ∷ []) in_cell (stands_first in_cell []))
    misread-from at (entity_of_misread life) =
        in-old at (in_front lives (in_cell ∷ []) at ((are at).1 (in_cell.id, stands_first in_cell.id [], life)))
    misread-from at (target_of_misread {met = target} {id = id} is concerns header) = (all at).1 (inr (record {
      target = target;
      id = id;
      among = (met target).1 (is, concerned-of target id concerns);
      concerns = concerns;
      header = header;
    }))

    pub misread-rests : RestsOn program (misread in_cell number recorded) cells
    misread-rests at = (λ stands. misread-to at ((all at).0 stands), misread-from at)
