use Rattle.std.proofs.Common.{sym, ◌∙◌, ap, arith, Less}
use Rattle.std.specs.Ordering.{ordering_then}
use Rattle.jav_names.proofs.index_lemmas.Fronts.{short-before, begins-so, differs-before}
use Rattle.jav_names.proofs.index.spelling.after_front.Goals as goal

pub returns-then-text-front-clause-order : goal.returns-then-text-front-clause-order
returns-then-text-front-clause-order c = λ back.
    short-before c.args.text.now c.args.front.now back c.if-text-front.true
    ∙ sym (c.then.ensures ∙ ap (λ o. ordering_then o Less) c.cmp.ensures)

pub returns-in-Equal-clause-rest : goal.returns-in-Equal-clause-rest
returns-in-Equal-clause-rest c =
    begins-so c.args.text.now c.args.front.now c.split_at.result.0.now c.split_at.result.1.now
    c.split_at.ensures.front c.split_at.ensures.back c.split_at.ensures.front_len
    (omega (arith, c.split_at.ensures.back_len, c.if-text-front.false))
    (sym (c.then-2.ensures ∙ (λ i. ordering_then (c.cmp-2.ensures i) (c.cmp-3.ensures i))) ∙ c.in-Equal.is)

pub returns-in_default : goal.returns-in_default
returns-in_default c = record {
  rest = tt;
  order = λ back. differs-before c.args.text.now c.args.front.now c.split_at.result.0.now c.split_at.result.1.now
      c.split_at.ensures.front c.split_at.ensures.back c.split_at.ensures.front_len back
      (omega (arith, c.split_at.ensures.back_len, c.if-text-front.false))
      (λ is. c.in_default.not-Equal (c.then-2.ensures ∙ (λ i. ordering_then (c.cmp-2.ensures i) (c.cmp-3.ensures i)) ∙ is))
      ∙ sym (c.then-2.ensures ∙ (λ i. ordering_then (c.cmp-2.ensures i) (c.cmp-3.ensures i)));
}
