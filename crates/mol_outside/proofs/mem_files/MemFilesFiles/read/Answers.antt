use Rattle.std.proofs.Common.{ap}
use Rattle.std.specs.Ordering.{nat_cmp}
use Rattle.std.specs.Cmp.Lexicographic.{slice_cmp}
use Rattle.std.specs.FinMap.{get-from_sorted}
use Rattle.mol_outside.specs.Memory.{FilesState}
use Rattle.mol_outside.specs.Stored.{all_stored}
use Rattle.mol_outside.proofs.mem_files.MemFilesFiles.read.Goals as goal

pub returns-clause-found : goal.returns-clause-found
returns-clause-found c =
    let m = c.self.inside in
    rw (← ap (λ (s : FilesState). s.files) c.self.view_is, get-from_sorted (slice_cmp nat_cmp) (all_stored m.buffer.items m.spans.items) c.args.path.now c.self.invariant.ascend, ← c.bytes.ensures.bytes, ← c.deref.ensures.value, ← c.deref-2.ensures.value) c.in_ok-find_file.ensures
