use Rattle.std.proofs.Common.{◌≡◌, ◌↔◌, drop}
use Rattle.mol_values.proofs.same.texts.same_texts.Given as goal

abbrev pub invariant-loop-i : goal.invariant-loop-i
invariant-loop-i l = (drop l.i l.texts ≡ drop l.i l.others) ↔ (l.texts ≡ l.others)
