use Rattle.std.proofs.Common.{◌≡◌, take}
use Rattle.mol_values_types.proofs.copy.texts.copy_texts.Given as goal

abbrev pub invariant-loop-text : goal.invariant-loop-text
invariant-loop-text l = l.all ≡ take l.text-index l.texts
