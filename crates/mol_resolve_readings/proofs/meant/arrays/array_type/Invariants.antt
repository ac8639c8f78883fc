use Rattle.std.proofs.Common.{◌≡◌}
use Rattle.jav_names.specs.seen.Kept.{view_type}
use Rattle.mol_resolve_rules.specs.ReadTrees.{arrays}
use Rattle.mol_resolve_readings.proofs.meant.arrays.array_type.Given as goal

abbrev pub invariant-loop-level : goal.invariant-loop-level
invariant-loop-level l = view_type l.ty ≡ arrays l._level (view_type l.fn.item)
