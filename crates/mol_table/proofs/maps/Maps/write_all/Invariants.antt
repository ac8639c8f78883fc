use Rattle.mol_base.specs.declared.ident.Id.{Id}
use Rattle.std.proofs.Common.{List, ◌≡◌, ◌≤◌, ◌+◌, length}
use Rattle.std.specs.Vec.Iter.{into_iter_items}
use Rattle.indexmap.specs.IndexMap.{spare}
use Rattle.mol_table.specs.Maps.{program_in, StartsWith}
use Rattle.mol_table_rules.specs.Room.{names_among}
use Rattle.mol_table_rules.specs.Writes.{with_values}
use Rattle.mol_table.proofs.maps.Maps.write_all.Given as goal

abbrev pub invariant-loop-value : goal.invariant-loop-value
invariant-loop-value l = record {
  program : with_values (program_in l.self) l.id (into_iter_items l.value-iterator) ≡ with_values (program_in l.fn.self) l.id l.fn.values.items;
  starts : (ids : List Id) → StartsWith ids l.fn.self.known.entries → StartsWith ids l.self.known.entries;
  count : length l.self.known.entries + names_among (into_iter_items l.value-iterator) ≤ length l.fn.self.known.entries + names_among l.fn.values.items;
  cells_room : length (into_iter_items l.value-iterator) ≤ spare l.self.cells;
  known_room : names_among (into_iter_items l.value-iterator) ≤ spare l.self.known;
  cells_used : spare l.fn.self.cells + length (into_iter_items l.value-iterator) ≤ spare l.self.cells + length l.fn.values.items;
  known_used : spare l.fn.self.known + names_among (into_iter_items l.value-iterator) ≤ spare l.self.known + names_among l.fn.values.items;
  rest : l.self.living ≡ l.fn.self.living;
}
