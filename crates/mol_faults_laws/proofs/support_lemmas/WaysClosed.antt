-- What is above a class on a way is on the way.
use Rattle.std.proofs.Common.{[]}
use Rattle.jav_names.proofs.Lists.{stands_nowhere}
use Rattle.mol_base.specs.declared.ident.Id.{Id}
use Rattle.mol_faults_laws.proofs.support_lemmas.Climbs.{IsClosedWay}
use Rattle.mol_faults_support.proofs.UpWays.{met-closed}
use Rattle.mol_table_rules.specs.Program.{Program}
use Rattle.mol_table_rules.specs.Rules.{IsProgram}

pub way-closed : (program : Program) → IsProgram program → (lower : Id) → IsClosedWay program lower
way-closed program rules lower = met-closed program rules [] (λ class above never. absurd (stands_nowhere class never)) lower
