use Rattle.std.proofs.Common.{ℕ, ◌<◌, get_or, IsSome}
use Rattle.std.specs.FinMap.{get}
use Rattle.mol_table.specs.Maps.{program_in}
use Rattle.mol_values_types.specs.declared.param.Param.{Param}
use Rattle.mol_table.proofs.maps.Maps.all_known.Given as goal

abbrev pub invariant-loop-param : goal.invariant-loop-param
invariant-loop-param l = (k : ℕ) (d : Param) → k < l.param-index → IsSome (get (program_in l.self).known (get_or l.params k d).id)
