use Rattle.std.proofs.Common.{List, subst, arith}
use Rattle.std.proofs.lemmas.List.{take_all}
use Rattle.mol_values_types.specs.declared.param.Param.{Param}
use Rattle.mol_spell_places.specs.scope_names.Params.{param_names, AreFirst}
use Rattle.mol_spell_places.proofs.scope_names_lemmas.ParamsPut.{none-first, one-more}
use Rattle.mol_spell_places.proofs.scope_names.param_names.first_places.Goals as goal

pub loop-place-init : goal.loop-place-init
loop-place-init c = rw c.new-first.ensures.empty none-first

pub loop-place-preserved : goal.loop-place-preserved
loop-place-preserved c =
    one-more c.args.params.now c.loop-place.place c.index-params-place.result c.loop-place-test.true c.index-params-place.is
    c.loop-place.first.entries _ c.loop-place.invariant c.as_str.result.now c.as_str.ensures c.in_ok-put_first.ensures

pub returns : goal.returns
returns c =
    subst (λ (params : List Param). AreFirst (param_names params) c.loop-place.first.entries)
    (take_all c.loop-place.place c.args.params.now (omega (arith, c.loop-place-test.false))) c.loop-place.invariant
