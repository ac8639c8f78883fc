use Rattle.std.proofs.Common.{◌≡◌, ◌∙◌, true, sym, ap, Some}
use Rattle.std.specs.Str.Parse.{ParsesUnsigned}
use Rattle.mol_log_words.specs.Words.{counts, is_count}
use Rattle.mol_log_words.proofs.Parsed.{parsed, utf8_count}
use Rattle.mol_log_words.proofs.count.counts.Goals as goal

pub returns-in-Ok : goal.returns-in-Ok
unfolding counts
returns-in-Ok c =
    let is : is_count c.args.word.now ≡ true = sym c.is_count.ensures ∙ c.if-not-is_count.false in
    let read : ParsesUnsigned 64 10 c.args.word.now c.parse.result = rw (← c.in-Ok.ensures.cases.0) c.parse.ensures.value.0 in
    rw (is, c.unwrap_or.ensures) (ap Some (parsed c.args.word.now c.parse.result is read))

pub returns-in-Err : goal.returns-in-Err
returns-in-Err c =
    let is : is_count c.args.word.now ≡ true = sym c.is_count.ensures ∙ c.if-not-is_count.false in
    absurd (c.in-Err.ensures.cases.0 (utf8_count c.args.word.now is))
