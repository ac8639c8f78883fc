use Rattle.mol_base.specs.declared.ident.Id.{Id}
use Rattle.std.proofs.Common.{List, ◌≡◌, ◌≤◌, ◌+◌, length}
use Rattle.std.specs.Vec.Iter.{into_iter_items}
use Rattle.indexmap.specs.IndexMap.{spare}
use Rattle.mol_table_rules.specs.Counting.{Counted}
use Rattle.mol_table.specs.Maps.{program_in, counts_in, StartsWith}
use Rattle.mol_table_rules.specs.Room.{values_in, names_of, AreFresh, AreApart}
use Rattle.mol_table_rules.specs.Writes.{with_entities}
use Rattle.mol_table.proofs.maps.Maps.put_entities.Given as goal

abbrev pub invariant-loop-entity : goal.invariant-loop-entity
invariant-loop-entity l = record {
  program : with_entities (program_in l.self) (into_iter_items l.entity-iterator) ≡ with_entities (program_in l.fn.self) l.fn.entities.items;
  counted : Counted (program_in l.self) (counts_in l.self);
  starts : (ids : List Id) → StartsWith ids l.fn.self.known.entries → StartsWith ids l.self.known.entries;
  count : length l.self.known.entries + names_of (into_iter_items l.entity-iterator) ≤ length l.fn.self.known.entries + names_of l.fn.entities.items;
  fresh : AreFresh (program_in l.self).known (into_iter_items l.entity-iterator);
  differ : AreApart (into_iter_items l.entity-iterator);
  cells : values_in (into_iter_items l.entity-iterator) ≤ spare l.self.cells;
  names : names_of (into_iter_items l.entity-iterator) ≤ spare l.self.known;
  living : length (into_iter_items l.entity-iterator) ≤ spare l.self.living;
}
