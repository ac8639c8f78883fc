use Rattle.std.proofs.Common.{append-nil}
use Rattle.mol_log_writers.proofs.written.alone.Goals as goal

pub returns : goal.returns
returns c = append-nil _
