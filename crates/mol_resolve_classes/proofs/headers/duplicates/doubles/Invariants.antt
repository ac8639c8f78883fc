use Rattle.std.proofs.Common.{◌≡◌, length, take}
use Rattle.jav_names.specs.UnitViews.{numbered}
use Rattle.mol_resolve_classes.specs.headers.Doubles.{shows_double}
use Rattle.mol_resolve_classes.specs.headers.Marks.{Marked}
use Rattle.mol_resolve_classes.proofs.headers.duplicates.doubles.Given as goal

abbrev pub invariant-loop-place : goal.invariant-loop-place
invariant-loop-place l = record {
  size : length l.doubles.items ≡ length l.sources;
  marked : Marked (shows_double l.sources) (numbered (take l.place l.sources)) l.doubles.items;
}
