use Rattle.std.proofs.Common.{◌∙◌}
use Rattle.bench_table.specs.Classes.{id_of}
use Rattle.bench_table.proofs.steps.with_greater.Goals as goal

pub fill-requires : goal.fill-requires
fill-requires c = λ number. c.in_ok-table.ensures.elsewhere (id_of c.args.greater number) c.requires

pub returns : goal.returns
returns c = λ id some apart. c.in_ok-fill.ensures.elsewhere id apart ∙ c.in_ok-table.ensures.elsewhere id some
