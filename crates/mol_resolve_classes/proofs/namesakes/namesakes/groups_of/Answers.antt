use Rattle.std.proofs.Common.{◌≡◌, ◌∙◌, ◌+◌, ◌++◌, ◌∷◌, [], sym, ap, take, length, Option, Some, cond, arith}
use Rattle.std.proofs.lemmas.List.{take_all, take_more}
use Rattle.mol_resolve_classes.specs.namesakes.Groups.{group_in, grown}
use Rattle.mol_resolve_classes.specs.declared.namesakes.declaration.Declaration.{Declaration}
use Rattle.mol_resolve_classes.specs.declared.namesakes.group.Group.{Group}
use Rattle.mol_resolve_classes.proofs.namesakes_lemmas.Grouped.{group_in-more, tied-keys}
use Rattle.mol_resolve_classes.proofs.namesakes.namesakes.groups_of.Goals as goal

pub loop-declaration-preserved : goal.loop-declaration-preserved
loop-declaration-preserved c = λ d.
    let declared = c.args.declared.now in
    let i = c.loop-declaration.declaration-index in
    let x : Declaration = c.declaration-item.result in
    let made : c.grown-group.result ≡ grown (group_in x (take i declared)) x =
    c.grown-group.ensures ∙ ap (λ (o : Option Group). grown o x) (c.get.ensures.value ∙ c.loop-declaration.invariant x) in
    let one_more : take (i + 1) declared ≡ take i declared ++ x ∷ [] =
    take_more declared i x c.loop-declaration-test.true ∙ ap (λ y. take i declared ++ y ∷ []) (sym c.declaration-item.is) in
    c.in_ok-insert.ensures.updates.0 (length d.params.now, d.name)
    ∙ (λ k. cond (tied-keys x d k) (Some (made k)) (c.loop-declaration.invariant d k))
    ∙ group_in-more x d (take i declared)
    ∙ ap (group_in d) (sym one_more)

pub returns : goal.returns
returns c = λ d.
    c.loop-declaration.invariant d
    ∙ ap (group_in d) (take_all c.loop-declaration.declaration-index c.args.declared.now (omega (arith, c.loop-declaration-test.false)))
