use Rattle.std.proofs.Common.{◌≡◌, map, take}
use Rattle.jav_names.specs.UnitViews.{numbered}
use Rattle.mol_resolve_rules.specs.FaultKinds.{package_is_class}
use Rattle.mol_resolve_classes.specs.headers.Headers.{fails}
use Rattle.mol_resolve_classes.proofs.headers.package_classes.packages.Given as goal

abbrev pub invariant-loop-source : goal.invariant-loop-source
invariant-loop-source l = l.packages.items ≡ map (fails l.sources package_is_class) (numbered (take l.source-index l.sources))
