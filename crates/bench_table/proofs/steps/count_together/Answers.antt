use Rattle.bench_table.specs.Classes.{id_of}
use Rattle.bench_table.proofs.steps.count_together.Goals as goal

pub fill-requires : goal.fill-requires
fill-requires c = λ number. c.in_ok-table.ensures (id_of c.args.lesser number) c.requires.some_lesser c.requires.apart
