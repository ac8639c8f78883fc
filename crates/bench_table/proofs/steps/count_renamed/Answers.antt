use Rattle.bench_table.proofs.steps.count_renamed.Goals as goal

pub rename_all-requires : goal.rename_all-requires
rename_all-requires c = c.in_ok-table.ensures.known
