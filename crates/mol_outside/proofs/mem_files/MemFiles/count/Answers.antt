use Rattle.std.proofs.Common.{◌∙◌, ap}
use Rattle.std.proofs.lemmas.List.{length-map}
use Rattle.mol_outside.specs.Memory.{FilesState}
use Rattle.mol_outside.specs.Stored.{all_stored, stored}
use Rattle.mol_outside.proofs.Storing.{len_sorted}
use Rattle.mol_outside.proofs.mem_files.MemFiles.count.Goals as goal

pub returns : goal.returns
returns c =
    let m = c.self.inside in
    rw (← ap (λ (s : FilesState). s.files) c.self.view_is, len_sorted (all_stored m.buffer.items m.spans.items) c.self.invariant.ascend, length-map m.spans.items (stored m.buffer.items)) (c.len.ensures ∙ m.spans.ok.0)
