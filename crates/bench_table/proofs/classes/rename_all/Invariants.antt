use Rattle.std.proofs.Common.{◌≡◌, ◌≤◌, ℕ, [], Some}
use Rattle.std.specs.FinMap.{get}
use Rattle.mol_values_types.specs.declared.known.Known.TheVariants as knowns
use Rattle.bench_table.specs.Classes.{id_of}
use Rattle.bench_table.proofs.classes.rename_all.Given as goal

abbrev pub invariant-loop-index : goal.invariant-loop-index
invariant-loop-index l = (number : ℕ) → 1 ≤ number → number ≤ l.count → get l.table.known (id_of [] number) ≡ Some knowns.Class
