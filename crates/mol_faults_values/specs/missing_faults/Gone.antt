-- What cells refer to and is gone, each time that they do.
use Rattle.std.specs.Prelude.{List, [], ◌∷◌, Option, None, Some, if◌then◌else◌}
use Rattle.std.specs.FinMap.{get}
use Rattle.std.specs.List.{flat_map}
use Rattle.mol_base.specs.declared.ident.Id.{Id}
use Rattle.mol_faults_values.specs.declared.missing_faults.gone.Gone.{Gone}
use Rattle.mol_spell_rules.specs.FaultList.{Fault, missing}
use Rattle.mol_table_rules.specs.Faults.{is_there}
use Rattle.mol_table_rules.specs.Life.{is_living_entity}
use Rattle.mol_table_rules.specs.Mentions.{Mention, mentions}
use Rattle.mol_table_rules.specs.Program.{Program, cell}
use Rattle.mol_values_types.specs.declared.cell.Cell.{Cell}
use Rattle.mol_values_types.specs.declared.cell.Slot.{Slot}
use Rattle.mol_values_types.specs.declared.cell.Slot.TheVariants as slots
use Rattle.mol_values_types.specs.declared.known.Known.{Known}
use Rattle.mol_values_types.specs.declared.known.Known.TheVariants as knowns
use Rattle.mol_values_types.specs.declared.value.Value.{Value}

abbrev pub fault_of : Gone → Fault
fault_of gone = missing gone.at gone.target

-- The slots whose values may refer to something, of what is known so. A parameter has no cells.
abbrev pub referring_slots : Option Known → List Slot
referring_slots None = []
referring_slots (Some knowns.Class) = slots.Super ∷ []
referring_slots (Some (knowns.Method kind)) = slots.Result ∷ slots.Params ∷ []
referring_slots (Some (knowns.Decl method)) = slots.Owner ∷ slots.Method ∷ slots.Body ∷ []
referring_slots (Some knowns.Field) = slots.Owner ∷ slots.Value ∷ []
referring_slots (Some (knowns.Param method)) = []

module _ (program : Program) where
  -- what an entity that lives is known as
  abbrev pub living_entity : Id → Option Known
  living_entity id = if is_living_entity program id then get program.known id else None

  abbrev pub gone_by : Cell → Mention → List Gone
  gone_by at mention =
      if is_there program at.id mention.role mention.id then [] else record { at = at; target = mention.id } ∷ []

  abbrev pub gone_among : Cell → List Mention → List Gone
  gone_among at mentioned = flat_map (gone_by at) mentioned

  -- where a cell of the tidied program has this value
  abbrev pub gone_in : Cell → Option Value → List Gone
  gone_in at None = []
  gone_in at (Some value) = gone_among at (mentions value)

  module _ (tidied : Program) where
    abbrev pub gone_at : Cell → List Gone
    gone_at at = gone_in at (get tidied.cells at)

    abbrev pub gone_in_slots : Id → List Slot → List Gone
    gone_in_slots id looked_up = flat_map (λ slot. gone_at (cell id slot)) looked_up

    -- in the slots of an entity that lives
    abbrev pub gone_of : Id → List Gone
    gone_of id = gone_in_slots id (referring_slots (living_entity id))

    abbrev pub gone_in_all : List Id → List Gone
    gone_in_all ids = flat_map gone_of ids
