use Rattle.std.proofs.Common.{◌≡◌, ◌∙◌, Bool, false, Option, ap, subst, arith}
use Rattle.std.specs.Option.{option_map_or}
use Rattle.std.specs.Prelude.{IfOk}
use Rattle.jav_names.specs.StaticTypes.{same_type}
use Rattle.jav_names.specs.Views.{ViewType}
use Rattle.mol_base.specs.Order.{id_cmp}
use Rattle.mol_base.specs.declared.ident.Id.{Id}
use Rattle.mol_resolve_rules.specs.ProgramViews.{seen}
use Rattle.mol_scope.proofs.types_lemmas.ItemsFound.{same-below, same-above}
use Rattle.mol_scope.proofs.types.equal_values.same_arrays.Goals as goal

pub returns-in-Some : goal.returns-in-Some
returns-in-Some c =
    let first = seen c.args.first.now in
    let second = seen c.args.second.now in
    subst (λ (b : Bool). IfOk c.same_types.result (λ (same : Bool). same ≡ b))
    (ap (λ (o : Option (ViewType Id)). option_map_or (λ item. same_type id_cmp item second) o false) c.in-Some.ensures
    ∙ same-below id_cmp c.args.more c.args.further first second (omega (arith, c.if-more-further.true)))
    c.same_types.ensures

pub returns-in-None : goal.returns-in-None
returns-in-None c =
    let first = seen c.args.first.now in
    let second = seen c.args.second.now in
    ap (λ (o : Option (ViewType Id)). option_map_or (λ item. same_type id_cmp item second) o false) c.in-None.ensures
    ∙ same-below id_cmp c.args.more c.args.further first second (omega (arith, c.if-more-further.true))

pub returns-in-Some-item_at : goal.returns-in-Some-item_at
returns-in-Some-item_at c =
    let first = seen c.args.first.now in
    let second = seen c.args.second.now in
    subst (λ (b : Bool). IfOk c.same_types-in-Some-item_at.result (λ (same : Bool). same ≡ b))
    (ap (λ (o : Option (ViewType Id)). option_map_or (λ item. same_type id_cmp first item) o false) c.in-Some-item_at.ensures
    ∙ same-above id_cmp c.args.more c.args.further first second (omega (arith, c.if-more-further.false)))
    c.same_types-in-Some-item_at.ensures

pub returns-in-None-item_at : goal.returns-in-None-item_at
returns-in-None-item_at c =
    let first = seen c.args.first.now in
    let second = seen c.args.second.now in
    ap (λ (o : Option (ViewType Id)). option_map_or (λ item. same_type id_cmp first item) o false) c.in-None-item_at.ensures
    ∙ same-above id_cmp c.args.more c.args.further first second (omega (arith, c.if-more-further.false))
