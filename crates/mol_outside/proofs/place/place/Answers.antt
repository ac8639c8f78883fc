use Rattle.std.proofs.Common.{◌∙◌, ap, sym, arith}
use Rattle.std.specs.Prelude.{option_map}
use Rattle.std.specs.Ordering.{nat_cmp}
use Rattle.std.specs.Cmp.Lexicographic.{slice_cmp}
use Rattle.std.proofs.lemmas.Option.{slice_get-map}
use Rattle.mol_outside.specs.Stored.{stored, all_stored}
use Rattle.mol_outside.proofs.Placing.{before_past, before_found}
use Rattle.mol_outside.proofs.place.place.Goals as goal

pub loop-low-preserved-in-Greater : goal.loop-low-preserved-in-Greater
loop-low-preserved-in-Greater c =
    let files = all_stored c.args.buffer.now c.args.spans.now in
    let kept = c.loop-low.invariant in
    let here = slice_get-map (stored c.args.buffer.now) c.args.spans.now _ ∙ ap (option_map (stored c.args.buffer.now)) c.span_at-span.ensures.at in
    (omega arith, kept.1, before_past c.args.path.now files _ (stored c.args.buffer.now c.span_at-span.result) c.requires.ascend here (ap (slice_cmp nat_cmp c.args.path.now) (sym c.path.ensures) ∙ sym c.cmp.ensures ∙ c.in-Greater.is), kept.3)

pub returns-in-Equal-clause-found : goal.returns-in-Equal-clause-found
returns-in-Equal-clause-found c =
    let files = all_stored c.args.buffer.now c.args.spans.now in
    let kept = c.loop-low.invariant in
    let here = slice_get-map (stored c.args.buffer.now) c.args.spans.now _ ∙ ap (option_map (stored c.args.buffer.now)) c.span_at-span.ensures.at in
    let equal = ap (slice_cmp nat_cmp c.args.path.now) (sym c.path.ensures) ∙ sym c.cmp.ensures ∙ c.in-Equal.is in
    (before_found c.args.path.now files _ (stored c.args.buffer.now c.span_at-span.result) c.requires.ascend here equal, rw here equal, omega (arith, kept.1))

pub loop-low-preserved : goal.loop-low-preserved
loop-low-preserved c =
    let kept = c.loop-low.invariant in
    let here = slice_get-map (stored c.args.buffer.now) c.args.spans.now _ ∙ ap (option_map (stored c.args.buffer.now)) c.span_at-span.ensures.at in
    (omega arith, omega (arith, kept.1), kept.2, rw here (ap (slice_cmp nat_cmp c.args.path.now) (sym c.path.ensures) ∙ sym c.cmp.ensures ∙ c.in-Less.is))
