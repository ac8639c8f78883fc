use Rattle.std.proofs.Common.{◌≡◌, Some, sym, ◌∙◌, ap, arith}
use Rattle.jav_scope.specs.Entries.{view_in}
use Rattle.jav_names.specs.LookUps.{class_above, is_outside}
use Rattle.mol_resolve_members.specs.numbers.Marks.{unmarked}
use Rattle.mol_resolve_members.proofs.numbers_lemmas.Answered.{found-is, outside-is, nowhere-is, mapped-itself}
use Rattle.mol_resolve_members.proofs.numbers_lemmas.Walks.{above-below}
use Rattle.mol_resolve_members.proofs.numbers.ways.above_unmet.Goals as goal

pub unmarked-requires : goal.unmarked-requires
unmarked-requires c =
    let view = view_in c.args.scope.now in
    let above : Some c.in-Found.above ≡ class_above view c.args.class =
    found-is (λ number. number) (class_above view c.args.class) (is_outside (view.superclass c.args.class)) c.in-Found.above
    c.in-Found.ensures ∙ mapped-itself (class_above view c.args.class) in
    omega (arith, above-below c.args.scope.now c.args.class c.in-Found.above (sym above), c.requires)

pub returns-in-Found : goal.returns-in-Found
returns-in-Found c =
    let view = view_in c.args.scope.now in
    c.unmarked.ensures ∙ ap (unmarked c.args.met.now c.args.walk)
    (found-is (λ number. number) (class_above view c.args.class) (is_outside (view.superclass c.args.class)) c.in-Found.above
    c.in-Found.ensures ∙ mapped-itself (class_above view c.args.class))

pub returns-in-Outside : goal.returns-in-Outside
returns-in-Outside c =
    let view = view_in c.args.scope.now in
    ap (unmarked c.args.met.now c.args.walk)
    (outside-is (λ number. number) (class_above view c.args.class) (is_outside (view.superclass c.args.class)) c.in-Outside.ensures
    ∙ mapped-itself (class_above view c.args.class))

pub returns-in-NotFound : goal.returns-in-NotFound
returns-in-NotFound c =
    let view = view_in c.args.scope.now in
    ap (unmarked c.args.met.now c.args.walk)
    (nowhere-is (λ number. number) (class_above view c.args.class) (is_outside (view.superclass c.args.class)) c.in-NotFound.ensures
    ∙ mapped-itself (class_above view c.args.class))
