use Rattle.std.proofs.Common.{◌≡◌, length}
use denote.Shadow.{shadow}
use denote.Text.{Utf8}
use Rattle.mol_spell_expr.proofs.DottedTrees.{names_after}
use Rattle.mol_spell_expr.proofs.dotted.dots_tree.Given as goal

abbrev pub invariant-loop-name : goal.invariant-loop-name
invariant-loop-name l = shadow (Utf8 l.rest) × (names_after l.tree l.rest ≡ names_after l.fn.on l.fn.text)

abbrev pub decreases-loop-name : goal.decreases-loop-name
decreases-loop-name l = length l.rest
