use Rattle.indexmap.specs.IndexSet.{index_set_len}
use Rattle.mol_scope_classes.specs.hierarchy.Placed.{ArePlaced, AreNew, IsLine, Keeps}
use Rattle.mol_scope_classes.proofs.hierarchy.forest.Forest.note.Given as goal

abbrev pub invariant-loop-below : goal.invariant-loop-below
invariant-loop-below l = record {
  placed : ArePlaced l.table l.self.numbers.entries l.self.places.items;
  line : IsLine l.table l.self.numbers.entries l.class l.classes.keys l.above;
  unplaced : AreNew l.self.numbers.entries l.classes.keys;
  kept : Keeps l.fn.self.numbers.entries l.self.numbers.entries;
}

abbrev pub decreases-loop-below : goal.decreases-loop-below
decreases-loop-below l = index_set_len l.classes
