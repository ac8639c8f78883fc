use Rattle.std.proofs.Common.{◌≡◌, ◌<◌, ℕ, None}
use Rattle.std.specs.FinMap.{get}
use Rattle.bench_table.specs.Classes.{id_of}
use Rattle.bench_table.proofs.classes.fill_each.Given as goal

abbrev pub invariant-loop-index : goal.invariant-loop-index
invariant-loop-index l = (number : ℕ) → l.index < number → get l.table.known (id_of l.tag number) ≡ None
