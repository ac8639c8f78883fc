use Rattle.mol_spell.proofs.FilesSpelt.{one-more}
use Rattle.mol_spell.proofs.spelling.units_of.Goals as goal

pub loop-key-preserved : goal.loop-key-preserved
loop-key-preserved c =
    one-more c.args.program.now c.loop-key.yielded c.in-Some.key c.loop-key.units _ _ c.loop-key.invariant c.in_ok-unit.ensures
    c.in_ok-add.ensures.ok
