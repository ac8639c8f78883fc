use Rattle.std.proofs.Common.{rules}
use Rattle.std.specs.Ordering.{is_lt}
use Rattle.std.proofs.lemmas.List.Sorted.{answers_always}
use Rattle.mol_base.specs.Order.{tag_cmp}
use Rattle.mol_log_rows.proofs.lines_lemmas.Ascending.{ascend-answer}
use Rattle.mol_log_rows.proofs.lines.header.ascend.Goals as goal

pub returns : goal.returns
returns c =
    ascend-answer c.args.tags.now c.is_sorted_by.result (c.is_sorted_by.ensures.cases (λ tag next. is_lt (tag_cmp tag next)) (answers_always _ _ _ (λ f a r g called. search rules)))
