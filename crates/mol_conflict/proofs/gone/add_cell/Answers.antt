use Rattle.std.proofs.lemmas.Result.{on_ok_weaker}
use Rattle.mol_base.proofs.Added.{adds-both}
use Rattle.mol_conflict.proofs.gone.add_cell.Goals as goal

pub returns : goal.returns
returns c = on_ok_weaker c.add_used.result (adds-both c.args.found.now.items _ _ _ _ c.in_ok-add_changed.ensures) c.add_used.ensures
