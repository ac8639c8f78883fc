use Rattle.std.proofs.Common.{◌≡◌, ◌++◌, map, drop}
use Rattle.mol_faults_mentions.specs.mentions.Kept.{kept_mention}
use Rattle.mol_faults_values.proofs.missing_faults.collected.add_mentions.Given as goal
use Rattle.mol_faults_values.specs.missing_faults.Gone.{gone_among}

abbrev pub invariant-loop-mention : goal.invariant-loop-mention
invariant-loop-mention l = l.gone.items ++ gone_among l.table l.at (map kept_mention (drop l.mention-index l.mentions))
    ≡ l.initial.gone.items ++ gone_among l.table l.at (map kept_mention l.mentions)
