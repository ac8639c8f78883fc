use Rattle.std.proofs.Common.{◌≡◌, map, take}
use Rattle.mol_base.specs.Paths.{slash_for_dot}
use Rattle.mol_table_numbers.proofs.paths.path.Given as goal

abbrev pub invariant-loop-byte : goal.invariant-loop-byte
invariant-loop-byte l = l.path.items ≡ map slash_for_dot (take l.byte-index l.byte-items)
