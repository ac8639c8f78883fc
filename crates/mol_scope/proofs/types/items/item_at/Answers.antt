use Rattle.std.proofs.Common.{◌≡◌, ◌∙◌, ◌-◌, ◌+◌, ℕ, sym, ap, arith}
use Rattle.mol_resolve_rules.specs.ProgramViews.{seen}
use Rattle.mol_scope.specs.types.Items.{item_at}
use Rattle.mol_scope.proofs.types_lemmas.ItemsFound.{item-next, item-none}
use Rattle.mol_scope.proofs.types.items.item_at.Goals as goal

pub loop-dimension-preserved : goal.loop-dimension-preserved
loop-dimension-preserved c =
    let left : ℕ = c.args.dimensions - c.loop-dimension._dimension in
    let less : left - 1 ≡ c.args.dimensions - (c.loop-dimension._dimension + 1) = omega arith in
    c.loop-dimension.invariant
    ∙ item-next left (seen c.loop-dimension.at.now) (seen c.in-Some.item.now) (omega (arith, c.loop-dimension-test.true)) c.in-Some.ensures
    ∙ ap (λ n. item_at n (seen c.in-Some.item.now)) less

pub returns-in-None : goal.returns-in-None
returns-in-None c =
    let left : ℕ = c.args.dimensions - c.loop-dimension._dimension in
    item-none left (seen c.loop-dimension.at.now) (omega (arith, c.loop-dimension-test.true)) c.in-None.ensures
    ∙ sym c.loop-dimension.invariant
