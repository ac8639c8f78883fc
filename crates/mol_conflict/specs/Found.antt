-- What is found at each cell that a log writes, as often as it is.
use Rattle.std.specs.FinMap.{get}
use Rattle.std.specs.List.{flat_map}
use Rattle.std.specs.Prelude.{Bool, false, ◌&&◌, not, List, [], ◌∷◌, ◌++◌, Option, None, Some, is_some, if◌then◌else◌}
use Rattle.mol_base.specs.declared.ident.Id.{Id}
use Rattle.mol_conflict.specs.declared.pair.Pair.{Pair as Row}
use Rattle.mol_conflict.specs.declared.pair.Pair.TheVariants.{Twice, GoneChanged, GoneUsed}
use Rattle.mol_log_rules.specs.Histories.{History}
use Rattle.mol_log_rules.specs.Writers.{writer}
use Rattle.mol_merge_rules.specs.PairConflicts.{Pair, twice, gone_changed, gone_used}
use Rattle.mol_table_rules.specs.Life.{is_living_entity}
use Rattle.mol_table_rules.specs.Mentions.{Mention, mentions}
use Rattle.mol_table_rules.specs.Program.{Program}
use Rattle.mol_table_rules.specs.Values.{same_value}
use Rattle.mol_values_types.specs.declared.cell.Cell.{Cell}
use Rattle.mol_values_types.specs.declared.value.Value.{Value}

-- a pair, as the code has it
abbrev pub pair_of : Row → Pair
pair_of (Twice at) = twice at
pair_of (GoneChanged id) = gone_changed id
pair_of (GoneUsed id at) = gone_used id at

-- ---- cells that are set twice

abbrev pub differ : Option Value → Option Value → Bool
differ (Some first) (Some second) = not (same_value first second)
differ first second = false

-- what the one and the other history leave, and that other history
module _ (first second : Program) (other : History) where
  abbrev pub is_twice : Cell → Bool
  is_twice at =
      is_living_entity first at.id && is_living_entity second at.id && is_some (writer other at)
      && differ (get first.cells at) (get second.cells at)

  abbrev pub twice_at : Cell → List Row
  twice_at at = if is_twice at then Twice at ∷ [] else []

  abbrev pub twice_in : List Cell → List Row
  twice_in cells = flat_map twice_at cells

-- ---- what is gone

-- a base, what the history leaves after which something is gone, and what the other leaves
module _ (base gone other : Program) where
  abbrev pub is_gone : Id → Bool
  is_gone id = is_living_entity base id && not (is_living_entity gone id) && is_living_entity other id

  abbrev pub changed_at : Cell → List Row
  changed_at at = if is_gone at.id then GoneChanged at.id ∷ [] else []

  abbrev pub used_by : Cell → Mention → List Row
  used_by at mention = if is_gone mention.id then GoneUsed mention.id at ∷ [] else []

  abbrev pub used_among : Cell → List Mention → List Row
  used_among at mentioned = flat_map (used_by at) mentioned

  -- where a cell has this value once it is tidied
  abbrev pub used_in : Cell → Option Value → List Row
  used_in at None = []
  used_in at (Some value) = used_among at (mentions value)

  module _ (tidied : Program) where
    abbrev pub used_at : Cell → List Row
    used_at at = if is_living_entity other at.id then used_in at (get tidied.cells at) else []

    abbrev pub gone_at : Cell → List Row
    gone_at at = changed_at at ++ used_at at

    abbrev pub gone_in : List Cell → List Row
    gone_in cells = flat_map gone_at cells
