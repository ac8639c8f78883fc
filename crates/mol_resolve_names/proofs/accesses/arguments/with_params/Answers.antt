use Rattle.std.proofs.Common.{◌∷◌, [], ◌++◌, length, ◌∙◌, ap, arith}
use Rattle.mol_resolve_names.proofs.accesses_lemmas.MoreArguments.{argument-more, argument-none, none-given}
use Rattle.mol_resolve_names.proofs.accesses.arguments.with_params.Goals as goal

pub loop-value-init : goal.loop-value-init
loop-value-init c = c.in_ok-args.ensures ∙ none-given c.args.params.now

pub loop-value-preserved-then-place-params : goal.loop-value-preserved-then-place-params
loop-value-preserved-then-place-params c = c.loop-value.invariant
    ∙ argument-none c.args.params.now c.loop-value.yielded c.in-Some.value _ (ap length (c.items-place.ensures ∙ c.loop-value.invariant))
    (omega (arith, c.if-place-params.true))

pub loop-value-preserved : goal.loop-value-preserved
loop-value-preserved c = c.in_ok-add.ensures.ok
    ∙ ap (λ args. args ++ record { param = c.index-params-place.result; value = c.in-Some.value } ∷ []) c.loop-value.invariant
    ∙ argument-more c.args.params.now c.loop-value.yielded c.in-Some.value _ c.index-params-place.result
    (ap length (c.items-place.ensures ∙ c.loop-value.invariant)) (omega (arith, c.if-place-params.false)) c.index-params-place.is
