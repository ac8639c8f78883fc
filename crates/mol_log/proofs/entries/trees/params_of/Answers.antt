use Rattle.std.proofs.Common.{◌≡◌, ◌∷◌, [], ◌++◌, length, sym, ap, ◌∙◌, subst, arith, rules}
use Rattle.std.specs.Vec.Iter.{into_iter_items}
use Rattle.std.proofs.lemmas.List.{nil_from_length}
use Rattle.mol_log.proofs.entries_lemmas.ReadParams.{Leaves, leaves-start, leaves-more, leaves-none, leaves-failed}
use Rattle.mol_log.proofs.entries_lemmas.Refusals.{refused}
use Rattle.mol_log.proofs.entries.trees.params_of.Goals as goal

pub loop-row-init : goal.loop-row-init
loop-row-init c =
    let same = sym c.into_vec-row-items.ensures ∙ sym c.into_iter-row-iterator.ensures.into_iter_gives.0 in
    (leaves-start c.args.rows _ _ c.new-params.ensures same, search rules)

pub loop-row-preserved : goal.loop-row-preserved
loop-row-preserved c =
    let at = c.loop-row in
    let steps : into_iter_items at.row-iterator ≡ c.in-Some.row ∷ into_iter_items c.next.new.self = c.in-Some.ensures.steps.0 in
    let more = leaves-more c.args.rows (into_iter_items c.next.new.self) at.params c.in-Some.row c.in_ok-param.param
    (subst (Leaves c.args.rows at.params) steps at.invariant.0) c.in_ok-param.ensures in
    let pushed : c.add.new.self ≡ at.params ++ c.in_ok-param.param ∷ [] = search rules in (
      subst (λ params. Leaves c.args.rows params (into_iter_items c.next.new.self)) (sym pushed) more,
      let was = at.invariant.1 in
          let gone = c.in-Some.ensures.steps.1 in
          let short = ap length steps in
          omega arith,
    )

pub returns-in_err-param : goal.returns-in_err-param
returns-in_err-param c =
    let at = c.loop-row in
    let steps : into_iter_items at.row-iterator ≡ c.in-Some.row ∷ into_iter_items c.next.new.self = c.in-Some.ensures.steps.0 in
    refused _ _ c.from_residual.result _ c.from_residual.ensures.1
    (leaves-failed c.args.rows (into_iter_items c.next.new.self) at.params c.in-Some.row _
    (subst (Leaves c.args.rows at.params) steps at.invariant.0) c.in_err-param.ensures)

pub returns : goal.returns
returns c =
    let at = c.loop-row in
    let none = c.in-None.ensures.steps in
    let empty : into_iter_items at.row-iterator ≡ [] = nil_from_length _ (sym at.invariant.1 ∙ none.0) in
    leaves-none c.args.rows at.params (subst (Leaves c.args.rows at.params) empty at.invariant.0)
