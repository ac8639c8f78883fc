use Rattle.std.proofs.Common.{Some}
use Rattle.std.specs.FinMap.{get}
use Rattle.std.specs.Prelude.{IsSome}
use Rattle.mol_scope_classes.specs.hierarchy.Placed.{AreNew, ArePlaced, Keeps}
use Rattle.mol_table_rules.specs.Heights.{Leads}
use Rattle.mol_scope_classes.proofs.hierarchy_lemmas.OnWays.{left}
use Rattle.mol_scope_classes.proofs.hierarchy.forest.Forest.line_up.Given as goal

abbrev pub invariant-up : goal.invariant-up
invariant-up l = record {
  leads : Leads l.table (Some l.fn.class) l.classes.keys (Some l.at);
  unplaced : AreNew l.self.numbers.entries l.classes.keys;
  known : IsSome (get l.table.known l.at);
  placed : ArePlaced l.table l.self.numbers.entries l.self.places.items;
  kept : Keeps l.fn.self.numbers.entries l.self.numbers.entries;
}

abbrev pub decreases-up : goal.decreases-up
decreases-up l = left l.table l.classes.keys
