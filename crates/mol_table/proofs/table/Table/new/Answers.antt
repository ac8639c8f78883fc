use Rattle.std.proofs.Common.{arith}
use Rattle.mol_table_rules.proofs.Programs.{nothing-IsProgram, nothing-Counted}
use Rattle.mol_table.proofs.table.Table.new.Goals as goal

pub invariant_of-result : goal.invariant_of-result
invariant_of-result c = rw (c.new.ensures.empty, c.new-2.ensures.empty, c.new-3.ensures.empty) (record { rules = nothing-IsProgram; counted = nothing-Counted; ordered = λ k d low within. absurd (omega arith) })
