use Rattle.std.proofs.Common.{◌≡◌}
use Rattle.bench_table.specs.Classes as spec
use Rattle.bench_table.proofs.classes.classes.Given as goal

abbrev pub invariant-loop-index : goal.invariant-loop-index
invariant-loop-index l = l.entities ≡ spec.classes l.tag l.index
