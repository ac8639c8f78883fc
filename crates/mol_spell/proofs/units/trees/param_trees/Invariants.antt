use Rattle.std.proofs.Common.{◌≡◌, map, take}
use Rattle.mol_spell.proofs.units.trees.param_trees.Given as goal
use Rattle.mol_spell.specs.units.MemberTrees.{param_tree}

abbrev pub invariant-loop-param : goal.invariant-loop-param
invariant-loop-param g l = l.trees ≡ map (param_tree (g.P.Places.writer l.places)) (take l.param-index l.params)
