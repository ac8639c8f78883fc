use Rattle.std.proofs.Common.{map}
use Rattle.std.proofs.lemmas.Result.{on_ok_weaker}
use Rattle.mol_faults.proofs.MetAdded.{both-added}
use Rattle.mol_faults_rules.specs.Met.{kept_met}
use Rattle.mol_faults.proofs.supports.add_both.Goals as goal

pub returns : goal.returns
returns c =
    on_ok_weaker c.add_some-2.result (both-added (map kept_met c.args.met.now.items) _ _ c.args.name.now.named c.args.name.now.instead
    c.in_ok-add_some.ensures) c.add_some-2.ensures
