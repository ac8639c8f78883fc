use Rattle.mol_top_laws.proofs.Exactly.{all_exact}
use Rattle.mol_top_laws.proofs.answers_exact.Goals as goal

pub returns : goal.returns
returns c = all_exact c.args.alloc
