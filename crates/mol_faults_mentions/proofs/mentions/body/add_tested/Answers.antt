use Rattle.std.proofs.lemmas.Result.{on_ok_weaker}
use Rattle.mol_base.proofs.Added.{adds-both}
use Rattle.mol_faults_mentions.proofs.mentions.body.add_tested.Goals as goal

pub returns : goal.returns
returns c = on_ok_weaker c.add_maybe.result (adds-both c.args.mentions.now _ _ _ _ c.in_ok-add_start.ensures) c.add_maybe.ensures
