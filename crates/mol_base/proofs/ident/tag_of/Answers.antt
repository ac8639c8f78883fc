use Rattle.mol_base.proofs.Identities.{no_fault}
use Rattle.mol_base.proofs.ident.tag_of.Goals as goal

pub returns-in-Err-clause-none : goal.returns-in-Err-clause-none
returns-in-Err-clause-none c = λ tag. no_fault c.args.bytes.now c.in-Err.field-0 tag c.in-Err.ensures
