use Rattle.std.proofs.Common.{◌≡◌, filter_map, take}
use Rattle.mol_faults_mentions.specs.mentions.Kept.{kept_mention}
use Rattle.mol_faults_support.specs.Calls.{called_by}
use Rattle.mol_faults_support.proofs.calls.called_among.Given as goal

abbrev pub invariant-loop-mention : goal.invariant-loop-mention
invariant-loop-mention l = l.methods.items ≡ filter_map (λ mention. called_by (kept_mention mention)) (take l.mention-index l.mentions)
