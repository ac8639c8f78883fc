use Rattle.std.proofs.Common.{◌≡◌, ◌∙◌, ap, sym, subst, add-one, refl, IsUtf8}
use Rattle.std.specs.Prelude.{Some, slice_get, option_map}
use Rattle.std.proofs.lemmas.List.{append-nil}
use Rattle.std.proofs.lemmas.Option.{slice_get-map}
use Rattle.mol_outside.specs.Stored.{stored, all_stored}
use Rattle.mol_outside.proofs.Storing.{below_more, text_at, text_below}
use Rattle.mol_outside.proofs.mem_files.list_paths.Goals.{in-Some+in-Ok+in_ok-from_str+in_ok-push, in_default}
use Rattle.mol_outside.proofs.mem_files.list_paths.Goals as goal

pub loop-i-preserved : goal.loop-i-preserved
loop-i-preserved c =
    let files = all_stored c.args.buffer.now c.args.spans.now in
    let at : slice_get files c.loop-i.i ≡ Some (stored c.args.buffer.now c.span_at-span.result) = slice_get-map (stored c.args.buffer.now) c.args.spans.now c.loop-i.i ∙ ap (option_map (stored c.args.buffer.now)) c.span_at-span.ensures.at in
    rw (add-one, below_more c.args.folder.now files c.loop-i.i _ at, ← c.loop-i.invariant, ← c.path.ensures)
    (elim c.match-below.branch [ in-Some+in-Ok+in_ok-from_str+in_ok-push w ↦ rw (w.paths-is, w.in_ok-push.ensures.items, w.in_ok-from_str.ensures, w.in-Ok.ensures.cases.0, ← w.in-Some.ensures) refl | in_default w ↦ rw (w.paths-is, ← w.in_default.ensures) (sym (append-nil c.loop-i.paths.items)) ])

pub unreachable-requires : goal.unreachable-requires
unreachable-requires c =
    let files = all_stored c.args.buffer.now c.args.spans.now in
    let here : slice_get files c.loop-i.i ≡ Some (stored c.args.buffer.now c.span_at-span.result) = slice_get-map (stored c.args.buffer.now) c.args.spans.now c.loop-i.i ∙ ap (option_map (stored c.args.buffer.now)) c.span_at-span.ensures.at in
    c.in_default-from_utf8.ensures.cases.0 (text_below c.args.folder.now c.path.result.now c.in-Some.path.now (sym c.in-Some.ensures) (subst IsUtf8 (sym c.path.ensures) (text_at files c.loop-i.i _ c.requires.texts here)))
