use Rattle.std.proofs.Common.{◌∙◌, ◌++◌, sym, ap, subst, take}
use Rattle.sha2.specs.Hashers.{Holds256}
use Rattle.mol_base.specs.Files.{file_pair, file_pairs}
use Rattle.mol_base.specs.declared.file.File.{File}
use Rattle.mol_spell_files.proofs.FilesInTurn.{bundle-more}
use Rattle.mol_spell_files.proofs.bundle.digest_of_files.Goals as goal
use Rattle.mol_spell_files.specs.Bundle.{bundle, bundled}

pub loop-file-preserved : goal.loop-file-preserved
loop-file-preserved c =
    let files = c.args.files.now in
    let before = bundle (file_pairs (take c.loop-file.file-index files)) in
    subst (Holds256 c.add_file.new.hasher)
    (ap (λ (file : File). before ++ bundled (file_pair file)) c.file-item.is
    ∙ sym (bundle-more files c.loop-file.file-index c.file-item.result c.loop-file-test.true))
    (c.in_ok-add_file.ensures before c.loop-file.invariant)
