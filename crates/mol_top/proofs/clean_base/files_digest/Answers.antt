use Rattle.mol_top.proofs.clean_base.files_digest.Goals as goal

pub returns : goal.returns
returns c = rw (c.as_slice.ensures.value, c.in_ok-files.ensures.texts) at c.digest_of_files.ensures
