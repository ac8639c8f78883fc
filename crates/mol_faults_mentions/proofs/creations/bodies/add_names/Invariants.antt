use Rattle.std.proofs.Common.{◌≡◌, ◌++◌, drop}
use Rattle.mol_faults_mentions.specs.creations.Parts.{names_creations}
use Rattle.mol_faults_mentions.proofs.creations.bodies.add_names.Given as goal

abbrev pub invariant-loop-name : goal.invariant-loop-name
invariant-loop-name l = l.classes.items ++ names_creations (drop l.name-index l.names) ≡ l.initial.classes.items ++ names_creations l.names
