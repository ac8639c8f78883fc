use Rattle.std.proofs.Common.{◌≡◌, None, sym, subst}
use Rattle.jav_names.specs.Views.{ViewDeclaration, ViewField}
use Rattle.mol_base.specs.declared.ident.Id.{Id}
use Rattle.mol_scope_members.specs.declaring.Indexed.{declared_field, declared_method}
use Rattle.mol_scope_members.specs.declaring.Owners.{IsNearest}
use Rattle.mol_resolve_rules.specs.ProgramViews.{program_view}
use Rattle.mol_scope_members.specs.inherited.Soughts.{found_in_class}
use Rattle.mol_scope_members.specs.declared.inherited.sought.Sought.{Sought}
use Rattle.mol_scope_members.proofs.inherited_lemmas.NearestClimbed.{nearest-made}
use Rattle.mol_scope_members.proofs.inherited.climbed.nearest.Goals as goal

pub returns-in-Field : goal.returns-in-Field
returns-in-Field c =
    let view = program_view c.args.members.now in
    subst (λ (sought : Sought). IsNearest c.args.members.now (λ at. found_in_class view sought at ≡ None) c.args.class.now
    c.nearest_field_owner.result) (sym c.in-Field.is)
    (nearest-made c.args.members.now (λ at. declared_field view at c.in-Field.name.now) (λ (field : ViewField Id Id). field.key)
    c.args.class.now c.nearest_field_owner.result c.nearest_field_owner.ensures)

pub returns-in-Method : goal.returns-in-Method
returns-in-Method c =
    let view = program_view c.args.members.now in
    subst (λ (sought : Sought). IsNearest c.args.members.now (λ at. found_in_class view sought at ≡ None) c.args.class.now
    c.nearest_method_owner.result) (sym c.in-Method.is)
    (nearest-made c.args.members.now (λ at. declared_method view at c.in-Method.name.now c.in-Method.arity)
    (λ (declared : ViewDeclaration Id Id). declared.key) c.args.class.now c.nearest_method_owner.result c.nearest_method_owner.ensures)
