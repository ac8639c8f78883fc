use Rattle.std.proofs.Common.{◌≡◌, None, Some, Contains, take}
use Rattle.mol_base.specs.declared.ident.Id.{Id}
use Rattle.mol_table_rules.specs.Heights.{upward}
use Rattle.mol_scope_classes.specs.hierarchy.Placed.{number_in, ArePlaced}
use Rattle.mol_scope_classes.proofs.hierarchy.hierarchy.Hierarchy.new.Given as goal

abbrev pub invariant-loop-id : goal.invariant-loop-id
invariant-loop-id l = record {
  placed : ArePlaced l.table l.forest.numbers.entries l.forest.places.items;
  whole : (id : Id) → Contains (take l.id-index l.id-items) id → number_in l.forest.numbers.entries id ≡ None
      → upward l.table (Some id) ≡ None;
}
