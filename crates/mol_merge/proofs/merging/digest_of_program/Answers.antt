use Rattle.std.proofs.Common.{◌≡◌, ◌∙◌, ap, subst, List}
use Rattle.std.specs.Prelude.{IfOk}
use Rattle.sha2.specs.Sha256.{sha256}
use Rattle.mol_base.specs.Files.{FilePair, file_pairs}
use Rattle.mol_merge.proofs.merging.digest_of_program.Goals as goal
use Rattle.mol_spell_files.specs.Bundle.{bundle}

pub returns : goal.returns
returns c =
    subst (λ (texts : List FilePair). IfOk c.digest_of_files.result (λ digest. digest ≡ sha256 (bundle texts)))
    (ap file_pairs c.as_slice.ensures.value ∙ c.in_ok-files.ensures.texts) c.digest_of_files.ensures
