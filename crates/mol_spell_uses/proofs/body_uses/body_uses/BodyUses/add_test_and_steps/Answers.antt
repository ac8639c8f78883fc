use Rattle.std.proofs.lemmas.Result.{on_ok_weaker}
use Rattle.mol_spell_uses.proofs.body_uses.body_uses.BodyUses.add_test_and_steps.Goals as goal
use Rattle.mol_spell_uses.proofs.uses_lemmas.Added.{adds-both}

pub returns : goal.returns
returns g c = on_ok_weaker c.add_all.result (adds-both c.args.uses.now _ _ _ _ c.in_ok-add_maybe.ensures) c.add_all.ensures
