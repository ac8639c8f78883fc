use Rattle.bench_table.specs.Classes.{id_of}
use Rattle.bench_table.proofs.steps.count_each.Goals as goal

pub fill_each-requires : goal.fill_each-requires
fill_each-requires c = λ number. c.in_ok-table.ensures (id_of c.args.lesser number) c.requires.some_lesser c.requires.apart
