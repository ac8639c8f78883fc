use Rattle.std.proofs.Common.{◌≡◌}
use Rattle.mol_table.proofs.TidiedInPlace.{changed_to}
use Rattle.mol_table.proofs.maps.Maps.tidy_values.Given as goal
use Rattle.mol_table.specs.Tidying.{value_by}

abbrev pub invariant-loop-place : goal.invariant-loop-place
invariant-loop-place l = record {
  entries : l.self.cells.entries ≡ changed_to (value_by l.fn.self l.fn.index.entries) l.place l.fn.self.cells.entries;
  rest : l.self ≡ record l.fn.self { cells = l.self.cells };
}
