use Rattle.std.proofs.Common.{◌∙◌, suc, length, option_map, ap}
use Rattle.jav_scope.specs.Answers.{answered, or_of_object}
use Rattle.jav_scope.specs.Climbs.{climb}
use Rattle.jav_names.specs.DottedNames.{Name}
use Rattle.jav_names.specs.Members.{is_object_method}
use Rattle.mol_base.specs.declared.ident.Id.{Id}
use Rattle.mol_scope_members.specs.declaring.Indexed.{declared_method}
use Rattle.mol_resolve_rules.specs.ProgramViews.{program_view}
use Rattle.mol_scope_members.proofs.inherited_lemmas.NearestFound.{method-found}
use Rattle.mol_scope_members.proofs.inherited.members.method_of.Goals as goal

pub returns : goal.returns
returns c =
    let view = program_view c.args.members.now in
    c.or_of_object.ensures
    ∙ (λ i. or_of_object (c.is_object_method.ensures i) (c.climbed-found.ensures i))
    ∙ ap (λ (name : Name). or_of_object (is_object_method c.args.name.now c.args.arity) (answered (λ (id : Id). id)
    (climb (suc (length view.classes.items)) view
    (λ class. option_map (λ declared. declared.key) (declared_method view class name c.args.arity)) c.args.class.now))) c.as_str.ensures
    ∙ method-found c.args.members.now c.args.class.now c.args.name.now c.args.arity
