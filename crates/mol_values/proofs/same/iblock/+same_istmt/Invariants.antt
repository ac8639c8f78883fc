use Rattle.std.proofs.Common.{◌≡◌, ◌↔◌, drop}
use Rattle.mol_values.proofs.same.iblock.+same_istmt.Given as goal

abbrev pub invariant-same_stmts-loop-i : goal.invariant-same_stmts-loop-i
invariant-same_stmts-loop-i l = (drop l.i l.items ≡ drop l.i l.others) ↔ (l.items ≡ l.others)
