use Rattle.bench_table.proofs.Filling.{classes-more}
use Rattle.bench_table.proofs.classes.classes.Goals as goal

pub loop-index-preserved : goal.loop-index-preserved
loop-index-preserved c =
    classes-more c.args.tag c.loop-index.index c.loop-index.entities c.add.new.self c.in_ok-class_entity.field-0 c.loop-index.invariant c.in_ok-class_entity.ensures c.in_ok-add.ensures.ok
