use Rattle.std.proofs.Common.{arith}
use Rattle.mol_log_words.specs.Words.{counts, count_fits, count_of}
use Rattle.mol_log_words.specs.declared.bounds.Bounds.TheVariants.{Few}
use Rattle.mol_log_words.proofs.Counted.{few_small, uncut, uncut_none}
use Rattle.mol_log_words.proofs.count.few_of.Goals as goal

pub overflow_cast-few : goal.overflow_cast-few
overflow_cast-few c =
    let low = (uncut (count_fits Few c.args.deeper) (few_small c.args.deeper) (counts c.args.word.now) c.in-Some.count
    c.in-Some.ensures).1 in
    omega (arith, low)

pub returns-in-Some : goal.returns-in-Some
returns-in-Some c =
    (uncut (count_fits Few c.args.deeper) (few_small c.args.deeper) (counts c.args.word.now) c.in-Some.count c.in-Some.ensures).0

pub returns-in-None : goal.returns-in-None
returns-in-None c = uncut_none (count_of Few c.args.deeper c.args.word.now) c.in-None.ensures
