use Rattle.std.proofs.Common.{◌≡◌, ◌∷◌, [], ◌++◌, length, sym, ap, ◌∙◌, arith, rules, option_map}
use Rattle.std.specs.Vec.Iter.{into_iter_items}
use Rattle.serde_json.specs.View.{view, items_view}
use Rattle.mol_log_rows.specs.lines.Reader.{texts_in}
use Rattle.mol_log_rows.proofs.lines_lemmas.Refused.{gives_err}
use Rattle.mol_log_rows.proofs.lines_lemmas.ItemTexts.{texts_start, texts_more, texts_stop, texts_end, nothing_left}
use Rattle.mol_log_rows.proofs.lines.parts.texts_of.Goals as goal

pub loop-item-init : goal.loop-item-init
loop-item-init c = (texts_start _ c.new-texts.ensures _, search rules)

pub loop-item-preserved : goal.loop-item-preserved
loop-item-preserved c =
    let at = c.loop-item in
    let rest = items_view (into_iter_items c.next.new.self) in
    let steps : into_iter_items at.item-iterator ≡ c.in-Some.item ∷ into_iter_items c.next.new.self = c.in-Some.ensures.steps.0 in
    let more = texts_more at.texts (view c.in-Some.item) rest c.in_ok-text.field-0 c.in_ok-text.ensures in
    let pushed : c.add.new.self ≡ at.texts ++ c.in_ok-text.field-0 ∷ [] = c.in_ok-add.ensures.ok in (
      at.invariant.0 ∙ ap (λ items. option_map (λ texts. at.texts ++ texts) (texts_in (items_view items))) steps ∙ more
          ∙ ap (λ done. option_map (λ texts. done ++ texts) (texts_in rest)) (sym pushed),
      let was = at.invariant.1 in
          let gone = c.in-Some.ensures.steps.1 in
          let short = ap length steps in
          omega arith,
    )

pub returns-in_err-text : goal.returns-in_err-text
returns-in_err-text c =
    let at = c.loop-item in
    let rest = items_view (into_iter_items c.next.new.self) in
    let steps : into_iter_items at.item-iterator ≡ c.in-Some.item ∷ into_iter_items c.next.new.self = c.in-Some.ensures.steps.0 in
    gives_err _ c.from_residual.result _ c.from_residual.ensures.1
    (λ wrong. ap (λ items. texts_in (items_view items)) (sym c.into_iter-item-iterator.ensures.into_iter_gives.0) ∙ at.invariant.0
    ∙ ap (λ items. option_map (λ texts. at.texts ++ texts) (texts_in (items_view items))) steps
    ∙ texts_stop at.texts (view c.in-Some.item) rest (c.in_err-text.ensures wrong))

pub returns : goal.returns
returns c =
    let at = c.loop-item in
    let none = c.in-None.ensures.steps in
    let empty : into_iter_items at.item-iterator ≡ [] = nothing_left _ (sym at.invariant.1 ∙ none.0) in
    ap (λ items. texts_in (items_view items)) (sym c.into_iter-item-iterator.ensures.into_iter_gives.0) ∙ at.invariant.0
    ∙ ap (λ items. option_map (λ texts. at.texts ++ texts) (texts_in (items_view items))) empty
    ∙ texts_end at.texts
