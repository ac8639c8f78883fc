-- How two programs agree at what lives in the first.
use Rattle.std.specs.Prelude.{◌≡◌, IsTrue}
use Rattle.mol_base.specs.declared.ident.Id.{Id}
use Rattle.mol_table_rules.specs.Life.{is_living_entity}
use Rattle.mol_table_rules.specs.Program.{Program, value_at}
use Rattle.mol_values_types.specs.declared.cell.Slot.{Slot}

-- two programs agree at a cell
abbrev pub AgreeAt : Program → Program → Id → Slot → Type 0
AgreeAt first second id slot = value_at first id slot ≡ value_at second id slot

-- an entity that lives in the first program lives in the second, and they agree at each of its cells
pub record AgreeIfLiving (first second : Program) (id : Id) : Type 0 where
  pub living : IsTrue (is_living_entity first id) → IsTrue (is_living_entity second id)
  pub agree : IsTrue (is_living_entity first id) → (slot : Slot) → AgreeAt first second id slot

abbrev pub LivingAgree : Program → Program → Type 0
LivingAgree first second = (id : Id) → AgreeIfLiving first second id
