use Rattle.std.proofs.Common.{◌≡◌, ◌++◌, map, drop}
use Rattle.mol_conflict.proofs.gone.add_mentions.Given as goal
use Rattle.mol_conflict.specs.Found.{used_among}
use Rattle.mol_faults_mentions.specs.mentions.Kept.{kept_mention}

abbrev pub invariant-loop-mention : goal.invariant-loop-mention
invariant-loop-mention l =
    l.found.items
    ++ used_among l.programs.base.now l.programs.gone.now l.programs.other.now l.at (map kept_mention (drop l.mention-index l.mentions))
    ≡ l.initial.found.items
    ++ used_among l.programs.base.now l.programs.gone.now l.programs.other.now l.at (map kept_mention l.mentions)
