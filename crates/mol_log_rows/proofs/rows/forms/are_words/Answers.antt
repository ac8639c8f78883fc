use Rattle.std.proofs.Common.{ap, sym, ◌∙◌}
use Rattle.std.specs.Prelude.{◌&&◌}
use Rattle.mol_log_rows.proofs.rows_lemmas.OrderedWords.{words_tested, words_refused}
use Rattle.mol_log_rows.proofs.rows.forms.are_words.Goals as goal

pub returns-then-allows : goal.returns-then-allows
returns-then-allows c =
    ap (λ allowed. allowed && c.are_in_order.result) (sym c.if-allows.true)
    ∙ words_tested c.args.of c.args.texts.now c.allows.result c.are_in_order.result c.requires c.allows.ensures c.are_in_order.ensures

pub returns-else-allows : goal.returns-else-allows
returns-else-allows c = words_refused c.args.of c.args.texts.now c.allows.result c.requires c.allows.ensures c.if-allows.false
