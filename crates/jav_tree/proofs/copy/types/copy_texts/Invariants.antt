use Rattle.std.proofs.Common.{◌≡◌, take}
use Rattle.jav_tree.proofs.copy.types.copy_texts.Given as goal

abbrev pub invariant-loop-text : goal.invariant-loop-text
invariant-loop-text l = l.all ≡ take l.text-index l.texts
