use Rattle.std.proofs.Common.{◌∙◌, map, sym}
use Rattle.std.proofs.lemmas.Result.{on_ok_weaker}
use Rattle.mol_faults_misread.proofs.misread_faults_lemmas.SameFile.{same-file}
use Rattle.mol_faults_misread.proofs.misread_faults.files.add_by_names.Goals as goal
use Rattle.mol_faults_misread.specs.misread_faults.Found.{kept_name}
use Rattle.mol_base.proofs.Added.{adds}

pub returns : goal.returns
returns c =
    on_ok_weaker c.add_by_imports.result (adds (map kept_name c.args.found.now.items) _ _ _
    (sym (same-file c.args.names.now c.args.index.now c.args.class.now _ c.requires.names (c.items.ensures ∙ c.in_ok-imports.ensures))))
    c.add_by_imports.ensures
