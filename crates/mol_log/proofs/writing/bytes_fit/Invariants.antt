use Rattle.std.proofs.Common.{◌<◌, ℕ, get_or}
use Rattle.mol_log.proofs.writing.bytes_fit.Given as goal

abbrev pub invariant-bytes : goal.invariant-bytes
invariant-bytes l = (k : ℕ) → k < l.i → get_or l.digest k 0 < 256
