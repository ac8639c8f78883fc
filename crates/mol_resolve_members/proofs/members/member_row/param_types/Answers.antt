use Rattle.std.proofs.Common.{◌≡◌, ◌∷◌, ◌++◌, [], map, take, sym, ◌∙◌, ap}
use Rattle.std.proofs.lemmas.List.{map-append}
use Rattle.jav_tree.specs.declared.unit.Param.{Param}
use Rattle.jav_names.specs.seen.Kept.{view_type}
use Rattle.jav_scope.proofs.Numbered.{one-more}
use Rattle.mol_resolve_members.specs.members.Rows.{type_at, types_of_params}
use Rattle.mol_resolve_members.proofs.members.member_row.param_types.Goals as goal

pub loop-param-preserved : goal.loop-param-preserved
loop-param-preserved c = λ source at.
    let params = c.args.params.now in
    let index = c.loop-param.param-index in
    let param : Param = c.param-item.result in
    let see = type_at c.args.scope.now c.args.unit source in
    ap (map view_type) c.in_ok-push.ensures.items ∙ map-append view_type c.loop-param.types.items _
    ∙ (λ i. c.loop-param.invariant source at i ++ c.in_ok-ty.ensures source at i ∷ [])
    ∙ sym (ap (types_of_params see) (one-more params index param c.loop-param-test.true c.param-item.is)
    ∙ map-append (λ (param : Param). see param.ty) (take index params) (param ∷ []))
