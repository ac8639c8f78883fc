use Rattle.std.proofs.Common.{rules, refl}
use Rattle.jav_names.specs.index.Seeking.{sought_of, sought_cmp}
use Rattle.jav_names.proofs.index_lemmas.Searched.{sorted-by_closure, stable-by_closure, first-kept}
use Rattle.jav_names.proofs.index_lemmas.Sought.{sought_cmp-total}
use Rattle.jav_names.proofs.index.index.Index.new.Goals as goal

pub invariant_of-result : goal.invariant_of-result
invariant_of-result c = sorted-by_closure sought_cmp sought_cmp-total sought_of (λ a r q k. search rules) _ c.in_ok-sort_by.ensures.sorted

pub returns : goal.returns
returns c = λ owner arity name.
    first-kept sought_cmp sought_cmp-total sought_of (record { owner = owner; arity = arity; name = name })
    (record { owner = owner; arity = arity; name = name; place = 0 }) refl _ _
    (stable-by_closure sought_cmp sought_cmp-total sought_of (λ a r q k. search rules) _ _ c.in_ok-sort_by.ensures.stable)
