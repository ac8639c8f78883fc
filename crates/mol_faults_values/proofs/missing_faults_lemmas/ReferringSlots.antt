-- Where a value refers to something, its slot is among those that are looked up.
use Rattle.std.proofs.Common.{◌≡◌, Bool, true, false, ◌&&◌, if◌then◌else◌, Option, None, Some, Contains, is_some, refl, sym, ap, ◌∙◌, eqb-true, true≢false}
use Rattle.std.proofs.lemmas.Bool.{and_parts}
use Rattle.std.proofs.lemmas.Map.Views.{Contains-from_any}
use Rattle.std.specs.FinMap.{get}
use Rattle.std.specs.List.{list_all, list_any}
use Rattle.jav_names.proofs.Lists.{stands_nowhere}
use Rattle.mol_base.specs.declared.ident.Id.{Id}
use Rattle.mol_faults_values.proofs.missing_faults_lemmas.Slots.{passes}
use Rattle.mol_faults_values.specs.missing_faults.Gone.{referring_slots}
use Rattle.mol_table_rules.proofs.CellOrder.{every_slot, slot_same}
use Rattle.mol_table_rules.specs.Faults.{Missing}
use Rattle.mol_table_rules.specs.Forms.{is_formed}
use Rattle.mol_table_rules.specs.Mentions.{Mention}
use Rattle.mol_table_rules.specs.Program.{Program}
use Rattle.mol_table_rules.specs.Rules.{IsProgram}
use Rattle.mol_table_rules.specs.Tidy.{references}
use Rattle.mol_values_types.specs.Order.{slot_number}
use Rattle.mol_values_types.specs.Slots.{has_slot, same_slot, slot_of}
use Rattle.mol_values_types.specs.declared.cell.Cell.{Cell}
use Rattle.mol_values_types.specs.declared.cell.Slot.{Slot}
use Rattle.mol_values_types.specs.declared.cell.Slot.TheVariants as slots
use Rattle.mol_values_types.specs.declared.known.Known.{Known}
use Rattle.mol_values_types.specs.declared.known.Known.TheVariants as knowns
use Rattle.mol_values_types.specs.declared.value.Value.{Value}
use Rattle.mol_values_types.specs.declared.value.Value.TheVariants as values

-- a slot whose values may refer to something
abbrev may_refer : Slot → Bool
may_refer slots.Live = false
may_refer slots.Package = false
may_refer slots.Name = false
may_refer slots.Kind = false
may_refer slots.Fixed = false
may_refer slots.Words = false
may_refer slots.Notes = false
may_refer slot = true

refers-where : (program : Program) (value : Value) (mention : Mention) → Contains (references program value) mention
    → may_refer (slot_of value) ≡ true
refers-where program (values.Live live) mention refers = absurd (stands_nowhere mention refers)
refers-where program (values.Package name) mention refers = absurd (stands_nowhere mention refers)
refers-where program (values.Owner owner) mention refers = refl
refers-where program (values.Method method) mention refers = refl
refers-where program (values.Name name) mention refers = absurd (stands_nowhere mention refers)
refers-where program (values.Super parent) mention refers = refl
refers-where program (values.Result ty) mention refers = refl
refers-where program (values.Params params) mention refers = refl
refers-where program (values.Kind kind) mention refers = absurd (stands_nowhere mention refers)
refers-where program (values.Fixed fixed) mention refers = absurd (stands_nowhere mention refers)
refers-where program (values.Words words) mention refers = absurd (stands_nowhere mention refers)
refers-where program (values.Notes notes) mention refers = absurd (stands_nowhere mention refers)
refers-where program (values.Body body) mention refers = refl
refers-where program (values.Value ty init) mention refers = refl

-- ---- the slots of what is known so, tried one by one

abbrev is_among : Option Known → Slot → Bool
is_among known slot = list_any (same_slot slot) (referring_slots known)

abbrev is_covered : Option Known → Slot → Bool
is_covered known slot = if has_slot known slot && may_refer slot then is_among known slot else true

all-covered : (known : Option Known) → list_all (is_covered known) every_slot ≡ true
all-covered None = refl
all-covered (Some knowns.Class) = refl
all-covered (Some (knowns.Method kind)) = refl
all-covered (Some (knowns.Decl method)) = refl
all-covered (Some knowns.Field) = refl
all-covered (Some (knowns.Param method)) = refl

same-slot : (first second : Slot) → same_slot first second ≡ true → first ≡ second
same-slot first second is = slot_same first second (eqb-true (slot_number first) (slot_number second) is)

stands-among : (known : Option Known) (slot : Slot) → has_slot known slot ≡ true → may_refer slot ≡ true
    → Contains (referring_slots known) slot
stands-among known slot has refers = Contains-from_any same-slot slot (referring_slots known)
    ((λ i. if sym has i && sym refers i then is_among known slot else true) ∙ passes (is_covered known) (all-covered known) slot)

-- ---- in a program

module _ (program : Program) (rules : IsProgram program) (at : Cell) where
  formed : (value : Value) (known : Option Known) → get program.known at.id ≡ known → has_slot known at.slot ≡ true
      → get program.cells at ≡ Some value → slot_of value ≡ at.slot
  formed value None is has holds = absurd (true≢false (sym has))
  formed value (Some known) is has holds =
      same-slot (slot_of value) at.slot
      (and_parts (same_slot (slot_of value) at.slot) (is_formed known value) (rules.forms at.id at.slot known value is holds)).0

  pub is-looked-up : (target : Id) → Missing program at target → Contains (referring_slots (get program.known at.id)) at.slot
  is-looked-up target absence =
      let mention : Mention = record { role = absence.role; id = target } in
      let has = sym (rules.whole at.id at.slot) ∙ ap is_some absence.holds in
      let slot = formed absence.value (get program.known at.id) refl has absence.holds in
      stands-among (get program.known at.id) at.slot has
      (ap may_refer (sym slot) ∙ refers-where program absence.value mention absence.refers)
