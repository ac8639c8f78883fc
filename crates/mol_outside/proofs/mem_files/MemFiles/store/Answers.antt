use Rattle.std.proofs.Common.{◌≡◌, ◌+◌, ◌-◌, ◌∙◌, arith, ap, subst, sym, length, IsUtf8}
use Rattle.std.specs.Ordering.{nat_cmp}
use Rattle.std.specs.Cmp.Lexicographic.{slice_cmp, nat_list_cmp_total}
use Rattle.std.specs.FinMap.{from_sorted, insert}
use Rattle.std.specs.FinMap.Entries.{is_sorted-put}
use Rattle.mol_outside.specs.Memory.{FilesState}
use Rattle.mol_outside.specs.Stored.{all_stored}
use Rattle.mol_outside.proofs.Storing.{texts-put, contents-put}
use Rattle.mol_outside.proofs.mem_files.MemFiles.store.Goals as goal

pub invariant_of-self : goal.invariant_of-self
invariant_of-self c =
    let kept = c.self.invariant in
    let m = c.self.inside in
    let left = rw (ap (λ (s : FilesState). s.left) (sym c.self.view_is)) at c.requires.room in
    let places = rw (ap (λ (s : FilesState). s.places) (sym c.self.view_is)) at c.requires.places in
    record {
      ascend = rw c.put_file.ensures.files (is_sorted-put (slice_cmp nat_cmp) nat_list_cmp_total _ c.args.bytes.now (all_stored m.buffer.items m.spans.items) kept.ascend);
      texts = rw c.put_file.ensures.files (texts-put _ c.args.bytes.now (all_stored m.buffer.items m.spans.items) (subst IsUtf8 (sym c.bytes.ensures.bytes) c.bytes.ensures.utf8) kept.texts);
      within = c.put_file.ensures.within;
      room = omega (arith, kept.room, left, c.put_file.ensures.len, c.put_file.ensures.capacity, ap length c.bytes.ensures.bytes, ap length c.bytes-2.ensures.bytes);
      spare = omega (arith, kept.spare, places, c.put_file.ensures.one_more, c.put_file.ensures.spans_capacity);
    }

pub returns : goal.returns
returns c =
    let m = c.self.inside in
    let held : from_sorted {R = slice_cmp nat_cmp} (all_stored c.put_file.new.buffer.items c.put_file.new.spans.items) ≡ insert c.args.self.now.files c.args.path.now c.args.bytes.now =
    ap (from_sorted {R = slice_cmp nat_cmp}) c.put_file.ensures.files
    ∙ contents-put (all_stored m.buffer.items m.spans.items) c.bytes.result.now c.args.bytes.now c.self.invariant.ascend
    ∙ ap (λ (s : FilesState). insert s.files c.bytes.result.now c.args.bytes.now) c.self.view_is
    ∙ ap (λ p. insert c.args.self.now.files p c.args.bytes.now) c.bytes.ensures.bytes in
    λ i. record {
      files = held i;
      failing = (c.self.view_is i).failing;
      calls = (c.self.view_is i).calls;
      left = (c.self.view_is i).left - (length (c.bytes-2.ensures.bytes i) + length c.args.bytes.now);
      places = (c.self.view_is i).places - 1;
      read_faults = (c.self.view_is i).read_faults;
      write_faults = (c.self.view_is i).write_faults;
    }
