use Rattle.std.proofs.Common.{◌+◌, arith}
use Rattle.bench_table.proofs.classes.rename_all.Goals as goal

pub rename-requires : goal.rename-requires
rename-requires c = c.loop-index.invariant (c.loop-index.index + 1) (omega arith) (omega (arith, c.loop-index-test.true))
