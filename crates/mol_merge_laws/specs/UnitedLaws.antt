-- What two histories leave together.
use Rattle.std.specs.Prelude.{◌≡◌}
use Rattle.mol_log_rules.specs.Histories.{History}
use Rattle.mol_merge_rules.specs.United.{united, IsUnited}
use Rattle.mol_table_rules.specs.Program.{Program}

pub record UnitedInTurn : Type 0 where
  -- the one and then the other leave a program with the last values of both and what both make known
  pub is : (base : Program) (one other : History) → IsUnited base one other (united base one other)
  -- and there is no second one
  pub only : (base program : Program) (one other : History) → IsUnited base one other program → program ≡ united base one other
