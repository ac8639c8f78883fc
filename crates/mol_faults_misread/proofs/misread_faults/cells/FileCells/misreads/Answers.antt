use Rattle.mol_faults_misread.proofs.misread_faults.cells.FileCells.misreads.Goals as goal

pub misreads_in-requires-clause-places : goal.misreads_in-requires-clause-places
misreads_in-requires-clause-places g c = c.in-Ok.ensures c.args.at.now.slot
