use Rattle.std.proofs.Common.{◌≡◌, map, take}
use Rattle.mol_resolve_classes.specs.headers.Packages.{dotted_package}
use Rattle.mol_resolve_classes.proofs.headers.package_classes.dotted_packages.Given as goal

abbrev pub invariant-loop-source : goal.invariant-loop-source
invariant-loop-source l = l.packages.items ≡ map dotted_package (take l.source-index l.sources)
