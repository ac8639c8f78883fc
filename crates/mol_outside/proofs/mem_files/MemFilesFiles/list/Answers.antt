use Rattle.std.proofs.Common.{ap}
use Rattle.mol_outside.specs.Memory.{FilesState}
use Rattle.mol_outside.specs.Stored.{all_stored}
use Rattle.mol_outside.proofs.Storing.{keys_sorted, below_sorted}
use Rattle.mol_outside.proofs.mem_files.MemFilesFiles.list.Goals as goal

pub returns-clause-paths : goal.returns-clause-paths
returns-clause-paths c =
    let m = c.self.inside in
    rw (c.from_vec.ensures, ← ap (λ (s : FilesState). s.files) c.self.view_is, keys_sorted (all_stored m.buffer.items m.spans.items) c.self.invariant.ascend, ← c.bytes.ensures.bytes, ← c.deref.ensures.value, ← c.deref-2.ensures.value) c.in_ok-paths.ensures

pub returns-clause-ascending : goal.returns-clause-ascending
returns-clause-ascending c =
    let m = c.self.inside in
    rw (c.from_vec.ensures, c.in_ok-paths.ensures, c.bytes.ensures.bytes, c.deref.ensures.value, c.deref-2.ensures.value) (below_sorted c.args.folder.now (all_stored m.buffer.items m.spans.items) c.self.invariant.ascend)
