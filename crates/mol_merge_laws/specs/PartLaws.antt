-- What one of two logs leaves, in what both leave together.
use Rattle.std.specs.FinMap.{get}
use Rattle.std.specs.Prelude.{◌≡◌, ◌⊎◌, IsTrue, [], None, Some, Contains}
use Rattle.mol_base.specs.declared.ident.Id.{Id}
use Rattle.mol_log.specs.declared.log.Log.{Log}
use Rattle.mol_log_rules.specs.Histories.{History, after, last}
use Rattle.mol_log_rules.specs.Living.{HasNoDead}
use Rattle.mol_log_rules.specs.Logs.{history}
use Rattle.mol_merge_laws.specs.OrderLaws.{BothApply}
use Rattle.mol_merge_rules.specs.PairConflicts.{ArePairs}
use Rattle.mol_merge_rules.specs.United.{united}
use Rattle.mol_spell_rules.specs.Clean.{Clean}
use Rattle.mol_table_rules.specs.Life.{is_living_entity}
use Rattle.mol_table_rules.specs.Mentions.{a_class, mentions}
use Rattle.mol_table_rules.specs.Program.{Program}
use Rattle.mol_table_rules.specs.Rules.{IsProgram}
use Rattle.mol_values_types.specs.declared.cell.Cell.{Cell}
use Rattle.mol_values_types.specs.declared.cell.Slot.TheVariants as slots
use Rattle.mol_values_types.specs.declared.known.Known.{Known}
use Rattle.mol_values_types.specs.declared.value.Value.{Value}

-- Two logs that share no tag and apply to a base without dead entities; no entries of the two are in conflict.
pub record GoTogether (base : Program) (one other : Log) : Type 0 where
  pub rules : IsProgram base
  pub alive : HasNoDead base
  pub both : BothApply base one other
  pub none : ArePairs base (history one) (history other) []

-- The second program is part of the first one.
pub record IsLeftIn (whole part : Program) : Type 0 where
  -- what it knows, the whole knows as the same
  pub known : (id : Id) (known : Known) → get part.known id ≡ Some known → get whole.known id ≡ Some known
  -- and what of it lives in the whole lives in it
  pub life : (id : Id) (known : Known) → get part.known id ≡ Some known → IsTrue (is_living_entity whole id)
      → IsTrue (is_living_entity part id)
  -- A class that both name as the owner or the superclass of what lives in the whole lives in the whole, if it lives in the part.
  pub above : (at : Cell) (value : Value) (class : Id) → (at.slot ≡ slots.Owner) ⊎ (at.slot ≡ slots.Super)
      → IsTrue (is_living_entity whole at.id) → get whole.cells at ≡ Some value → get part.cells at ≡ Some value
      → Contains (mentions value) (record { role = a_class; id = class }) → IsTrue (is_living_entity part class)
      → IsTrue (is_living_entity whole class)

pub record PartsOfUnited : Type 0 where
  -- what each log leaves is part of the united program, if what the other one leaves is clean
  pub first : (base : Program) (one other : Log) → GoTogether base one other → Clean (after base (history other))
      → IsLeftIn (united base (history one) (history other)) (after base (history one))
  pub second : (base : Program) (one other : Log) → GoTogether base one other → Clean (after base (history one))
      → IsLeftIn (united base (history one) (history other)) (after base (history other))
  -- a cell that one of the two does not write holds in the united program what the other one leaves
  pub by_first : (base : Program) (one other : History) (at : Cell) → last other at ≡ None
      → get (united base one other).cells at ≡ get (after base one).cells at
  pub by_second : (base : Program) (one other : History) (at : Cell) → last one at ≡ None
      → get (united base one other).cells at ≡ get (after base other).cells at
