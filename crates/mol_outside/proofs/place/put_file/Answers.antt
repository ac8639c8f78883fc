use Rattle.std.proofs.Common.{◌≡◌, ◌+◌, ◌∙◌, ap, arith, length, vec_len}
use Rattle.mol_outside.proofs.Placing.{put_over, put_new, wider, within_set, within_insert}
use Rattle.mol_outside.proofs.place.put_file.Goals as goal

pub returns-in-Ok-at-clause-within : goal.returns-in-Ok-at-clause-within
returns-in-Ok-at-clause-within c =
    let now : vec_len c.extend_from_slice-2.new.self ≡ vec_len c.args.buffer.now + length c.args.path.now + length c.args.bytes.now = c.in-Ok-extend_from_slice.ensures.len ∙ ap (λ n. n + length c.args.bytes.now) c.in-Ok.ensures.len in
    let start : c.len-start.result ≡ vec_len c.args.buffer.now = c.len-start.ensures in
    within_set _ c.args.spans.now.items c.in-Ok-at.i _ (wider (vec_len c.args.buffer.now) (vec_len c.extend_from_slice-2.new.self) c.args.spans.now.items (omega arith) c.requires.within) (omega arith, omega arith, omega arith)

pub returns-in-Ok-at-clause-files : goal.returns-in-Ok-at-clause-files
returns-in-Ok-at-clause-files c =
    let buffer = c.args.buffer.now in
    let spans = c.args.spans.now.items in
    let path = c.args.path.now in
    let bytes = c.args.bytes.now in
    let start : c.len-start.result ≡ length buffer.items = c.len-start.ensures ∙ buffer.ok.0 in
    let found = rw (c.deref.ensures.value, c.deref-2.ensures.value) at c.in-Ok-at.ensures.found in
    rw (c.in-Ok-extend_from_slice.ensures.items, c.in-Ok.ensures.items) (put_over buffer.items path bytes spans c.in-Ok-at.i _ (rw (← buffer.ok.0) c.requires.within) start (ap (λ n. n + length path) start) (ap (λ n. n + length path + length bytes) start) found.0 found.1)

pub returns-in-Ok-insert-clause-within : goal.returns-in-Ok-insert-clause-within
returns-in-Ok-insert-clause-within c =
    let now : vec_len c.extend_from_slice-2.new.self ≡ vec_len c.args.buffer.now + length c.args.path.now + length c.args.bytes.now = c.in-Ok-extend_from_slice.ensures.len ∙ ap (λ n. n + length c.args.bytes.now) c.in-Ok.ensures.len in
    let start : c.len-start.result ≡ vec_len c.args.buffer.now = c.len-start.ensures in
    rw c.in-Ok-insert.ensures.items (within_insert _ c.args.spans.now.items c.in-Err.i _ (wider (vec_len c.args.buffer.now) (vec_len c.extend_from_slice-2.new.self) c.args.spans.now.items (omega arith) c.requires.within) (omega arith, omega arith, omega arith))

pub returns-in-Ok-insert-clause-files : goal.returns-in-Ok-insert-clause-files
returns-in-Ok-insert-clause-files c =
    let buffer = c.args.buffer.now in
    let spans = c.args.spans.now.items in
    let path = c.args.path.now in
    let bytes = c.args.bytes.now in
    let start : c.len-start.result ≡ length buffer.items = c.len-start.ensures ∙ buffer.ok.0 in
    let absent = rw (c.deref.ensures.value, c.deref-2.ensures.value) at c.in-Err.ensures.absent in
    rw (c.in-Ok-insert.ensures.items, c.in-Ok-extend_from_slice.ensures.items, c.in-Ok.ensures.items) (put_new buffer.items path bytes spans c.in-Err.i _ (rw (← buffer.ok.0) c.requires.within) start (ap (λ n. n + length path) start) (ap (λ n. n + length path + length bytes) start) absent.0 absent.1 absent.2)
