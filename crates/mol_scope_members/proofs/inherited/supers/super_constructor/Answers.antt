use Rattle.std.proofs.Common.{◌≡◌, ◌∙◌, ap}
use Rattle.jav_scope.specs.Answers.{answered}
use Rattle.jav_scope.specs.Climbs.{above}
use Rattle.jav_scope.specs.declared.found.Found.TheVariants as answer
use Rattle.jav_names.specs.LookUps.{class_above, is_outside, constructor_from}
use Rattle.mol_base.specs.declared.ident.Id.{Id}
use Rattle.mol_resolve_rules.specs.ProgramViews.{program_view}
use Rattle.mol_table_rules.specs.Program.{Program}
use Rattle.mol_scope_members.specs.declaring.Indexed.{constructor_id}
use Rattle.mol_scope_members.proofs.inherited_lemmas.SupersFound.{from-above, from-outside, from-nothing}
use Rattle.mol_scope_members.proofs.inherited.supers.super_constructor.Goals as goal

pub returns-in-Found : goal.returns-in-Found
returns-in-Found c =
    let view = program_view c.args.members.now in
    let up : answer.Found c.in-Found.above ≡ answered (λ (id : Id). id) (above view c.args.class.now) =
    c.in-Found.ensures
    ∙ ap (λ (p : Program). answered (λ (id : Id). id) (above (program_view p) c.args.class.now)) c.table.ensures in
    c.constructor_of.ensures
    ∙ from-above constructor_id (λ class. constructor_from view class c.args.arity) (class_above view c.args.class.now)
    (is_outside (view.superclass c.args.class.now)) c.in-Found.above up (is_outside (view.superclass c.args.class.now))

pub returns-in-Outside : goal.returns-in-Outside
returns-in-Outside c =
    let view = program_view c.args.members.now in
    let up : answer.Outside ≡ answered (λ (id : Id). id) (above view c.args.class.now) =
    c.in-Outside.ensures
    ∙ ap (λ (p : Program). answered (λ (id : Id). id) (above (program_view p) c.args.class.now)) c.table.ensures in
    from-outside constructor_id (λ class. constructor_from view class c.args.arity) (class_above view c.args.class.now)
    (is_outside (view.superclass c.args.class.now)) up

pub returns-in-NotFound : goal.returns-in-NotFound
returns-in-NotFound c =
    let view = program_view c.args.members.now in
    let up : answer.NotFound ≡ answered (λ (id : Id). id) (above view c.args.class.now) =
    c.in-NotFound.ensures
    ∙ ap (λ (p : Program). answered (λ (id : Id). id) (above (program_view p) c.args.class.now)) c.table.ensures in
    from-nothing constructor_id (λ class. constructor_from view class c.args.arity) (class_above view c.args.class.now)
    (is_outside (view.superclass c.args.class.now)) up
