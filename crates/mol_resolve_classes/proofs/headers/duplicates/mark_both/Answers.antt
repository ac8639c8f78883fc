use Rattle.mol_resolve_classes.proofs.headers_lemmas.Marking.{marks-set, no_marks}
use Rattle.mol_resolve_classes.proofs.headers.duplicates.mark_both.Goals as goal

pub returns-then-first-place-clause-marks : goal.returns-then-first-place-clause-marks
returns-then-first-place-clause-marks c = λ number below.
    marks-set c.args.doubles.now.items c.args.first c.args.place number c.requires.first c.requires.place c.if-first-place.true

pub returns-else-first-place-clause-marks : goal.returns-else-first-place-clause-marks
returns-else-first-place-clause-marks c = λ number below.
    no_marks c.args.doubles.now.items c.args.first c.args.place number c.if-first-place.false
