-- What a history leaves has its last writes.
use Rattle.std.proofs.Common.{◌≡◌, sym, subst}
use Rattle.std.specs.Prelude.{Result, Ok, Err, IfOk}
use Rattle.mol_log_rules.proofs.Laws.{last_writes_left}
use Rattle.mol_log_rules.specs.Histories.{History, after, HasLastWrites}
use Rattle.mol_table_rules.specs.Program.{Program}

pub last-writes : {E : Type 0} (base : Program) (history : History) (answer : Result Program E)
    → IfOk answer (λ table. table ≡ after base history) → IfOk answer (HasLastWrites base history)
last-writes base history (Ok table) left = subst (HasLastWrites base history) (sym left) (last_writes_left.left base history)
last-writes base history (Err fault) left = tt {0}
