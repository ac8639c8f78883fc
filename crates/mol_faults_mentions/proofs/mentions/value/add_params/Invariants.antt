use Rattle.std.proofs.Common.{◌≡◌, ◌++◌, drop}
use Rattle.std.specs.List.{flat_map}
use Rattle.mol_table_rules.specs.Mentions.{param_mentions}
use Rattle.mol_faults_mentions.proofs.mentions.value.add_params.Given as goal

abbrev pub invariant-loop-param : goal.invariant-loop-param
invariant-loop-param l =
    l.mentions ++ flat_map param_mentions (drop l.param-index l.params) ≡ l.initial.mentions ++ flat_map param_mentions l.params
