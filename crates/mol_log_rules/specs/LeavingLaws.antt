-- What histories leave.
use Rattle.std.specs.FinMap.{get}
use Rattle.std.specs.Prelude.{◌≡◌, ◌↔◌, IsTrue, IsSome, Contains, None}
use Rattle.mol_base.specs.declared.ident.Id.{Id}
use Rattle.mol_log_rules.specs.Histories.{Stamped, History, AppliesOn, after, last, first_refused, HasLastWrites}
use Rattle.mol_log_rules.specs.Lawful.{AreLawful}
use Rattle.mol_log_rules.specs.Living.{HasNoDead}
use Rattle.mol_table_rules.specs.Life.{lives, is_living_entity}
use Rattle.mol_table_rules.specs.Program.{Program}
use Rattle.mol_table_rules.specs.Rules.{IsProgram}
use Rattle.mol_values_types.specs.declared.cell.Cell.{Cell}

pub record LastWritesLeft : Type 0 where
  -- what a history leaves has its last writes, and is the one program that has them
  pub left : (base : Program) (history : History) → HasLastWrites base history (after base history)
  pub only : (base program : Program) (history : History) → HasLastWrites base history program → program ≡ after base history
  -- no entry is refused exactly where each applies
  pub applies : (base : Program) (history : History) → (first_refused base history ≡ None) ↔ AppliesOn base history
  -- lawful entries that apply keep the rules of programs
  pub rules : (base : Program) (history : History) → AreLawful history → AppliesOn base history → IsProgram base
      → IsProgram (after base history)
  -- what they make known has the tag of one of them
  pub tags : (base : Program) (history : History) (id : Id) → AreLawful history → AppliesOn base history → get base.known id ≡ None
      → IsSome (get (after base history).known id) → (entry : Stamped) × Contains history entry × (id.tag ≡ entry.stamp.tag)
  -- they write no cell of what is not known behind them
  pub owned : (base : Program) (history : History) (at : Cell) → AreLawful history → AppliesOn base history → IsProgram base
      → get (after base history).known at.id ≡ None → last history at ≡ None
  -- where all that is known lives, no entity is dead
  pub living : (program : Program) → ((id : Id) → IsSome (get program.known id) → IsTrue (lives program id)) → HasNoDead program
  -- what is known before, where no entity is dead, and lives behind them lived before
  pub lived : (base : Program) (history : History) (id : Id) → HasNoDead base → IsSome (get base.known id)
      → IsTrue (is_living_entity (after base history) id) → IsTrue (is_living_entity base id)
