-- When two programs are the same.
use Rattle.std.specs.Prelude.{◌≡◌, IsTrue}
use Rattle.mol_base.specs.declared.ident.Id.{Id}
use Rattle.mol_table_rules.specs.Life.{is_living_entity}
use Rattle.mol_table_rules.specs.Program.{Program, value_at}
use Rattle.mol_values_types.specs.declared.cell.Slot.{Slot}

-- What lives in the first lives in the second and the other way round, with equal values in all its cells. What does not live,
-- and which parameters are known, is not looked at.
pub record Same (first second : Program) : Type 0 where
  pub living : (id : Id) → is_living_entity first id ≡ is_living_entity second id
  pub agree : (id : Id) (slot : Slot) → IsTrue (is_living_entity first id) → value_at first id slot ≡ value_at second id slot

-- sameness is an equivalence
pub record IsSameness : Type 0 where
  pub itself : (program : Program) → Same program program
  pub back : (first second : Program) → Same first second → Same second first
  pub on : (first second third : Program) → Same first second → Same second third → Same first third
