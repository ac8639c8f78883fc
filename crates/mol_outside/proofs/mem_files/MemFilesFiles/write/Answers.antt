use Rattle.std.proofs.Common.{◌∙◌, ap}
use Rattle.std.specs.Prelude.{Some}
use Rattle.std.specs.FinMap.{remove}
use Rattle.mol_outside.specs.Contents.{Contents}
use Rattle.mol_outside.specs.Memory.{FilesState}
use Rattle.mol_outside.proofs.Storing.{remove-insert}
use Rattle.mol_outside.proofs.mem_files.MemFilesFiles.write.Goals as goal

pub returns-clause-elsewhere : goal.returns-clause-elsewhere
returns-clause-elsewhere c =
    ap (λ (s : FilesState). Some (remove s.files c.args.path.now)) c.store.ensures
    ∙ ap (λ (held : Contents). Some held) (remove-insert _ c.args.path.now c.args.bytes.now)
    ∙ ap (λ (s : FilesState). Some (remove s.files c.args.path.now)) c.self.view_is
