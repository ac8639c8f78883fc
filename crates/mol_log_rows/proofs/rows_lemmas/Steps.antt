-- A reader and what is read after it.
use Rattle.std.proofs.Common.{◌≡◌, Some, None, ap}
use Rattle.serde_json.specs.Data.{Members}
use Rattle.mol_log_rows.specs.lines.Reader.{Outcome, Reader, and_then, before}

-- where something is read, the next reader goes on behind it
pub and_on : {A B : Type 0} (o : Outcome A) (next : A → Reader B) (a : A) (ms : Members) → o ≡ Some (before ms a)
    → and_then o next ≡ next a ms
unfolding and_then
and_on o next a ms e = ap (λ o. and_then o next) e

-- where nothing is, nothing is read as a whole
pub and_off : {A B : Type 0} (o : Outcome A) (next : A → Reader B) → o ≡ None → and_then o next ≡ None
unfolding and_then
and_off o next e = ap (λ o. and_then o next) e
