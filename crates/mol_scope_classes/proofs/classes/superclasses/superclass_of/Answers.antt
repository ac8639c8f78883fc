use Rattle.std.proofs.Common.{◌∙◌, Option, ap}
use Rattle.jav_scope.specs.Answers.{answered}
use Rattle.jav_names.specs.LookUps.{class_in, found_or, is_outside}
use Rattle.jav_names.specs.Views.{ViewType}
use Rattle.mol_base.specs.declared.ident.Id.{Id}
use Rattle.mol_resolve_rules.specs.ProgramViews.{program_view}
use Rattle.mol_scope_classes.proofs.classes.superclasses.superclass_of.Goals as goal

pub returns-in-Some : goal.returns-in-Some
returns-in-Some c =
    let classes = (program_view c.args.table.now).classes in
    c.extended.ensures
    ∙ ap (λ (type : Option (ViewType Id)). answered (λ (class : Id). class) (found_or (class_in classes type) (is_outside type)))
    c.in-Some.ensures

pub returns-in-None : goal.returns-in-None
returns-in-None c =
    let classes = (program_view c.args.table.now).classes in
    ap (λ (type : Option (ViewType Id)). answered (λ (class : Id). class) (found_or (class_in classes type) (is_outside type)))
    c.in-None.ensures
