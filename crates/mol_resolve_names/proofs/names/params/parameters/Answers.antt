use Rattle.std.proofs.Common.{◌∙◌, map, ap}
use Rattle.mol_resolve_names.specs.chains.InMembers.{view_param}
use Rattle.mol_resolve_members.specs.members.Rows.{type_at}
use Rattle.mol_resolve_names.proofs.names_lemmas.GivenParams.{given-all, given-more}
use Rattle.mol_resolve_names.proofs.names.params.parameters.Goals as goal

pub loop-place-preserved : goal.loop-place-preserved
loop-place-preserved c = λ source at.
    ap (map view_param) c.in_ok-push.ensures.items
    ∙ given-more (type_at c.args.scope.now c.args.unit source) c.args.ids.now c.args.params.now c.requires.ids c.loop-place.place
    c.loop-place.given.items c.in_ok-parameter.parameter c.index-params-place.result c.index-ids-place.result c.loop-place-test.true
    c.index-params-place.is c.index-ids-place.is (c.in_ok-parameter.ensures source at) (c.loop-place.invariant source at)

pub returns : goal.returns
returns c = λ source at.
    c.loop-place.invariant source at ∙ given-all (type_at c.args.scope.now c.args.unit source) c.args.ids.now c.args.params.now
    c.requires.ids c.loop-place.place c.loop-place-test.false
