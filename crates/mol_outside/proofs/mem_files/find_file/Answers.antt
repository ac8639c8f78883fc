use Rattle.std.proofs.Common.{◌∙◌, ap, sym}
use Rattle.std.specs.Prelude.{Some, option_map}
use Rattle.std.proofs.lemmas.List.{length-map}
use Rattle.std.proofs.lemmas.Option.{slice_get-map}
use Rattle.mol_outside.specs.Stored.{stored, all_stored}
use Rattle.mol_outside.proofs.Storing.{find_found, find_absent}
use Rattle.mol_outside.proofs.mem_files.find_file.Goals as goal

pub returns-in_ok-from_slice-in-Ok : goal.returns-in_ok-from_slice-in-Ok
returns-in_ok-from_slice-in-Ok c =
    let files = all_stored c.args.buffer.now c.args.spans.now in
    let here = slice_get-map (stored c.args.buffer.now) c.args.spans.now c.in-Ok.i ∙ ap (option_map (stored c.args.buffer.now)) c.span_at-span.ensures.at in
    let equal = rw here at c.in-Ok.ensures.found.1 in
    ap Some (c.in_ok-from_slice-in-Ok.ensures ∙ c.bytes.ensures) ∙ sym (find_found c.args.path.now files c.in-Ok.i _ c.in-Ok.ensures.found.0 here equal)

pub returns-in-Err : goal.returns-in-Err
returns-in-Err c =
    let files = all_stored c.args.buffer.now c.args.spans.now in
    let absent = c.in-Err.ensures.absent in
    sym (find_absent c.args.path.now files c.in-Err.field-0 c.requires.ascend (rw (length-map c.args.spans.now (stored c.args.buffer.now)) absent.0) absent.1 absent.2)
