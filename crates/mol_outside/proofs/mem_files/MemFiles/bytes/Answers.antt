use Rattle.std.proofs.Common.{◌≡◌, ◌∙◌, ap, sym}
use Rattle.std.proofs.lemmas.List.{length-map}
use Rattle.std.proofs.lemmas.Option.{slice_get-map}
use Rattle.std.specs.Prelude.{Some, slice_get}
use Rattle.mol_outside.specs.Memory.{FilesState}
use Rattle.mol_outside.specs.Stored.{StoredFile, all_stored, stored}
use Rattle.mol_outside.proofs.Storing.{values_sorted, len_sorted}
use Rattle.mol_outside.proofs.mem_files.MemFiles.bytes.Goals as goal

pub span_at-requires-clause-inside : goal.span_at-requires-clause-inside
span_at-requires-clause-inside c =
    let m = c.self.inside in
    rw (c.deref.ensures.value, ← length-map m.spans.items (stored m.buffer.items), ← len_sorted (all_stored m.buffer.items m.spans.items) c.self.invariant.ascend, ap (λ (s : FilesState). s.files) c.self.view_is) c.requires

pub returns : goal.returns
returns c =
    let m = c.self.inside in
    let at : slice_get m.spans.items c.args.k ≡ Some c.span_at.result = rw (← c.deref.ensures.value) c.span_at.ensures.at in
    rw (← ap (λ (s : FilesState). s.files) c.self.view_is, values_sorted (all_stored m.buffer.items m.spans.items) c.self.invariant.ascend, slice_get-map (λ (file : StoredFile). file.1) (all_stored m.buffer.items m.spans.items) c.args.k, slice_get-map (stored m.buffer.items) m.spans.items c.args.k, at)
    (ap Some (ap (λ b. (stored b c.span_at.result).1) (sym c.deref-2.ensures.value) ∙ sym c.bytes.ensures))
