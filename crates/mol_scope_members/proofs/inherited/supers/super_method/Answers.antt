use Rattle.std.proofs.Common.{◌≡◌, ◌∙◌, ◌||◌, ap}
use Rattle.jav_scope.specs.Answers.{answered, or_of_object}
use Rattle.jav_scope.specs.Climbs.{above}
use Rattle.jav_scope.specs.declared.found.Found.TheVariants as answer
use Rattle.jav_names.specs.LookUps.{class_above, is_outside, method_from}
use Rattle.jav_names.specs.Members.{is_object_method}
use Rattle.jav_names.specs.Views.{ViewDeclaration}
use Rattle.mol_base.specs.declared.ident.Id.{Id}
use Rattle.mol_resolve_rules.specs.ProgramViews.{program_view}
use Rattle.mol_table_rules.specs.Program.{Program}
use Rattle.mol_scope_members.proofs.inherited_lemmas.SupersFound.{from-above, from-outside-or, from-nothing-or}
use Rattle.mol_scope_members.proofs.inherited.supers.super_method.Goals as goal

pub returns-in-Found : goal.returns-in-Found
returns-in-Found c =
    let view = program_view c.args.members.now in
    let up : answer.Found c.in-Found.above ≡ answered (λ (id : Id). id) (above view c.args.class.now) =
    c.in-Found.ensures
    ∙ ap (λ (p : Program). answered (λ (id : Id). id) (above (program_view p) c.args.class.now)) c.table.ensures in
    c.method_of.ensures
    ∙ from-above (λ (d : ViewDeclaration Id Id). d.key) (λ class. method_from view class c.args.name.now c.args.arity)
    (class_above view c.args.class.now) (is_outside (view.superclass c.args.class.now)) c.in-Found.above up
    (is_outside (view.superclass c.args.class.now) || is_object_method c.args.name.now c.args.arity)

pub returns-in-Outside : goal.returns-in-Outside
returns-in-Outside c =
    let view = program_view c.args.members.now in
    let up : answer.Outside ≡ answered (λ (id : Id). id) (above view c.args.class.now) =
    c.in-Outside.ensures
    ∙ ap (λ (p : Program). answered (λ (id : Id). id) (above (program_view p) c.args.class.now)) c.table.ensures in
    from-outside-or (λ (d : ViewDeclaration Id Id). d.key) (λ class. method_from view class c.args.name.now c.args.arity)
    (class_above view c.args.class.now) (is_outside (view.superclass c.args.class.now)) up (is_object_method c.args.name.now c.args.arity)

pub returns-in-NotFound : goal.returns-in-NotFound
returns-in-NotFound c =
    let view = program_view c.args.members.now in
    let up : answer.NotFound ≡ answered (λ (id : Id). id) (above view c.args.class.now) =
    c.in-NotFound.ensures
    ∙ ap (λ (p : Program). answered (λ (id : Id). id) (above (program_view p) c.args.class.now)) c.table.ensures in
    c.or_of_object.ensures ∙ ap (λ b. or_of_object b answer.NotFound) c.is_object_method.ensures
    ∙ from-nothing-or (λ (d : ViewDeclaration Id Id). d.key) (λ class. method_from view class c.args.name.now c.args.arity)
    (class_above view c.args.class.now) (is_outside (view.superclass c.args.class.now)) up (is_object_method c.args.name.now c.args.arity)
