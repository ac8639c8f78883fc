use Rattle.std.proofs.Common.{◌≡◌}
use Rattle.mol_table.proofs.maps.Maps.note_first_cells.Given as goal

abbrev pub invariant-loop-place : goal.invariant-loop-place
invariant-loop-place l = l.self ≡ record l.fn.self { first_cells = l.self.first_cells }
