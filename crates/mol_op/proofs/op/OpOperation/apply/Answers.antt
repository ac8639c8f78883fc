use Rattle.mol_op.proofs.op.OpOperation.apply.Goals as goal

pub returns-in-AddMethod-clause-ok : goal.returns-in-AddMethod-clause-ok
returns-in-AddMethod-clause-ok c = rw c.in-AddMethod.is c.apply-in-AddMethod.ensures.ok

pub returns-in-AddConstructor-clause-ok : goal.returns-in-AddConstructor-clause-ok
returns-in-AddConstructor-clause-ok c = rw c.in-AddConstructor.is c.apply-in-AddConstructor.ensures.ok
