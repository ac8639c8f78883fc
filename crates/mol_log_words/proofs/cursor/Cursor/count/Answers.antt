use Rattle.std.proofs.Common.{◌∙◌, ap, option_map}
use Rattle.mol_log_words.specs.Words.{Word, count_of}
use Rattle.mol_log_words.proofs.Counted.{cut}
use Rattle.mol_log_words.proofs.Accepted.{accepted_cut, none_left_cut}
use Rattle.mol_log_words.proofs.cursor.Cursor.count.Goals as goal

pub returns-in_err-next_word : goal.returns-in_err-next_word
returns-in_err-next_word c = none_left_cut _ (count_of c.args.bounds c.args.deeper) c.args.self.now c.from_residual.result
    c.in_err-next_word.ensures.none.1 c.from_residual.ensures.1

pub returns : goal.returns
returns c =
    let found = c.count_of-found.ensures
    ∙ ap (λ (w : Word). option_map cut (count_of c.args.bounds c.args.deeper w)) c.bytes.ensures.bytes in
    accepted_cut (count_of c.args.bounds c.args.deeper) c.count_of-found.result c.in_ok-next_word.field-0.now c.args.self.now
    c.accept.new.self c.accept.result c.in_ok-next_word.ensures.next found c.accept.ensures
