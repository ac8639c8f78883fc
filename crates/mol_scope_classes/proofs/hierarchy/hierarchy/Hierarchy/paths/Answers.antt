use Rattle.std.proofs.Common.{sym, subst}
use Rattle.mol_scope_classes.specs.hierarchy.Forest.{ArePlaces}
use Rattle.mol_scope_classes.proofs.hierarchy.hierarchy.Hierarchy.paths.Goals as goal

pub heaviest-requires : goal.heaviest-requires
heaviest-requires c = subst ArePlaces (sym c.as_slice.ensures.value) c.self.invariant.placed.forest

pub loop-class-init : goal.loop-class-init
loop-class-init c = c.new-drawing.ensures c.args.self.now
