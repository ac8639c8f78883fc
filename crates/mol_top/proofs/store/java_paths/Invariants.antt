use Rattle.std.proofs.Common.{◌≡◌, take}
use Rattle.std.specs.Prelude.{filter}
use Rattle.mol_top.specs.Files.{is_java}
use Rattle.mol_top.proofs.store.java_paths.Given as goal

abbrev pub invariant-loop-path : goal.invariant-loop-path
invariant-loop-path l = l.chosen.items ≡ filter is_java (take l.path-index l.paths)
