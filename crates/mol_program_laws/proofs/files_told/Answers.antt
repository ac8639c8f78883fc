use Rattle.mol_program_laws.proofs.Told.{told}
use Rattle.mol_program_laws.proofs.files_told.Goals as goal

pub returns : goal.returns
returns c = told c.args.alloc
