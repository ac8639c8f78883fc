use Rattle.std.proofs.Common.{◌≡◌, length}
use Rattle.mol_resolve_classes.specs.related.Tables.{AreKeptOf}
use Rattle.mol_resolve_classes.proofs.related.related.classes_of.Given as goal

abbrev pub invariant-loop-unit : goal.invariant-loop-unit
invariant-loop-unit l = record { size : length l.classes.items ≡ l.unit; kept : AreKeptOf l.members l.classes.items }
