use Rattle.std.proofs.Common.{◌∙◌, ap}
use Rattle.mol_log_words.specs.Words.{pairs_of}
use Rattle.mol_log_words.proofs.Accepted.{accepted, none_left}
use Rattle.mol_log_words.proofs.cursor.Cursor.pairs.Goals as goal

pub returns-in_err-next_word : goal.returns-in_err-next_word
returns-in_err-next_word c =
    none_left _ (pairs_of c.args.sizes) c.args.self.now c.from_residual.result c.in_err-next_word.ensures.none.1 c.from_residual.ensures.1

pub returns : goal.returns
returns c =
    let found = c.pairs_of-found.ensures ∙ ap (pairs_of c.args.sizes) c.bytes.ensures.bytes in
    accepted (pairs_of c.args.sizes) c.pairs_of-found.result c.in_ok-next_word.field-0.now c.args.self.now c.accept.new.self c.accept.result
    c.in_ok-next_word.ensures.next found c.accept.ensures
