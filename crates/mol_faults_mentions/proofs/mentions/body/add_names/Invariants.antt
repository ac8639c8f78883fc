use Rattle.std.proofs.Common.{◌≡◌, ◌++◌, drop}
use Rattle.mol_faults_mentions.specs.mentions.Parts.{names_mentions}
use Rattle.mol_faults_mentions.proofs.mentions.body.add_names.Given as goal

abbrev pub invariant-loop-name : goal.invariant-loop-name
invariant-loop-name l = l.mentions ++ names_mentions (drop l.name-index l.names) ≡ l.initial.mentions ++ names_mentions l.names
