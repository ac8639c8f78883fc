use Rattle.std.proofs.lemmas.Result.{IfOk-weaker}
use Rattle.mol_resolve_names.proofs.accesses.arguments.arguments_of.Goals as goal
use Rattle.std.proofs.Common.{◌∙◌, ℕ, sym, ap}
use Rattle.mol_resolve_rules.specs.Readers.{Ids}
use Rattle.mol_resolve_rules.specs.ReadTrees.{with_params}
use Rattle.jav_names.specs.UnitViews.{MemberKey}

pub returns : goal.returns
returns c = IfOk-weaker c.with_params.result _ _ (λ args made reader declared over is.
    made ∙ ap (λ ids. with_params ids c.args.values) (c.as_slice.ensures.value ∙ c.in_ok-params.ensures declared is
    ∙ ap (λ (ids : Ids ℕ MemberKey). ids.param_ids declared) (sym over.ids)))
    c.with_params.ensures
