use Rattle.mol_scope_classes.specs.hierarchy.Paths.{AreDrawn}
use Rattle.mol_scope_classes.proofs.hierarchy.hierarchy.Hierarchy.paths.Given as goal

abbrev pub invariant-loop-class : goal.invariant-loop-class
invariant-loop-class l = AreDrawn l.self l.drawing.positions.entries l.drawing.lasts.entries
