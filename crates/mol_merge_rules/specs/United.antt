-- What two histories over one base leave together.
use Rattle.std.specs.FinMap.{get}
use Rattle.std.specs.Option.{option_or}
use Rattle.std.specs.Prelude.{◌≡◌, ◌++◌}
use Rattle.mol_base.specs.declared.ident.Id.{Id}
use Rattle.mol_log_rules.specs.Histories.{History, after, last}
use Rattle.mol_table_rules.specs.Program.{Program}
use Rattle.mol_values_types.specs.declared.cell.Cell.{Cell}

-- The base with what either history adds. A cell has the value that the history which writes it writes last. Where both write it, it has
-- that of the second history, whose log has the greater first tag, and where neither does, the base's.
pub record IsUnited (base : Program) (one other : History) (program : Program) : Type 0 where
  pub cells : (at : Cell) → get program.cells at ≡ option_or (last other at) (option_or (last one at) (get base.cells at))
  pub known : (id : Id) → get program.known id ≡ option_or (get (after base one).known id) (get (after base other).known id)

-- so it is what the one leaves and then the other
abbrev pub united : Program → History → History → Program
united base one other = after base (one ++ other)
