use Rattle.std.proofs.Common.{true, false, sym, ◌∙◌}
use Rattle.mol_log_words.specs.Words.{counts, count_fits}
use Rattle.mol_log_words.proofs.Counted.{cut_fits, cut_kept, cut_none}
use Rattle.mol_log_words.proofs.count.count_of.Goals as goal

pub returns-then-count_fits : goal.returns-then-count_fits
returns-then-count_fits c =
    cut_kept (count_fits c.args.bounds c.args.deeper) (cut_fits c.args.bounds c.args.deeper) (counts c.args.word.now) c.in-Some.count true
    c.in-Some.ensures (sym c.count_fits.ensures ∙ c.if-count_fits.true)

pub returns-else-count_fits : goal.returns-else-count_fits
returns-else-count_fits c =
    cut_kept (count_fits c.args.bounds c.args.deeper) (cut_fits c.args.bounds c.args.deeper) (counts c.args.word.now) c.in-Some.count false
    c.in-Some.ensures (sym c.count_fits.ensures ∙ c.if-count_fits.false)

pub returns-in-None : goal.returns-in-None
returns-in-None c = cut_none (count_fits c.args.bounds c.args.deeper) (counts c.args.word.now) c.in-None.ensures
