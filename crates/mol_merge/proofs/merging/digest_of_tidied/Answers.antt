use Rattle.std.proofs.Common.{◌≡◌, subst}
use Rattle.std.specs.Prelude.{IfOk}
use Rattle.mol_merge.proofs.merging.digest_of_tidied.Goals as goal
use Rattle.mol_spell_files.specs.Bundle.{digest_of}
use Rattle.mol_table_rules.specs.Program.{Program}

pub returns : goal.returns
returns c =
    subst (λ (program : Program). IfOk c.digest_of_program.result (λ digest. digest ≡ digest_of program)) c.in_ok-program.ensures
    c.digest_of_program.ensures
