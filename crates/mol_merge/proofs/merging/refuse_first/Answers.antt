use Rattle.mol_merge.proofs.merging.refuse_first.Goals as goal

pub returns-in-Err-clause-refused : goal.returns-in-Err-clause-refused
returns-in-Err-clause-refused c = λ other.
    let told = c.of_first.ensures.told other in
    record { why = c.in-Err.fault; is = told.1; refuses = c.in-Err.ensures.refused told.0 }
