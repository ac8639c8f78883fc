use Rattle.std.proofs.Common.{true, false, sym, ◌∙◌, arith}
use Rattle.mol_log_words.specs.Words.{counts, kept, pairs_fit}
use Rattle.mol_log_words.proofs.Counted.{cut_pairs, cut_kept, pairs_small, uncut, uncut_none}
use Rattle.mol_log_words.proofs.count.pairs_of.Goals as goal

pub overflow_cast-pairs : goal.overflow_cast-pairs
overflow_cast-pairs c =
    let low = pairs_small c.args.sizes c.in-Some.count (sym c.pairs_fit.ensures ∙ c.if-pairs_fit.true) in
    omega (arith, low)

pub returns-then-pairs_fit : goal.returns-then-pairs_fit
returns-then-pairs_fit c =
    (uncut (pairs_fit c.args.sizes) (pairs_small c.args.sizes) (counts c.args.word.now) c.in-Some.count
    (cut_kept (pairs_fit c.args.sizes) (cut_pairs c.args.sizes) (counts c.args.word.now) c.in-Some.count true c.in-Some.ensures
    (sym c.pairs_fit.ensures ∙ c.if-pairs_fit.true))).0

pub returns-else-pairs_fit : goal.returns-else-pairs_fit
returns-else-pairs_fit c =
    uncut_none (kept (pairs_fit c.args.sizes) (counts c.args.word.now))
    (cut_kept (pairs_fit c.args.sizes) (cut_pairs c.args.sizes) (counts c.args.word.now) c.in-Some.count false c.in-Some.ensures
    (sym c.pairs_fit.ensures ∙ c.if-pairs_fit.false))
