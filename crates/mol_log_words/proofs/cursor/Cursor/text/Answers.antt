use Rattle.mol_log_words.specs.Reader.{passing}
use Rattle.mol_log_words.specs.Words.{has_form}
use Rattle.mol_log_words.proofs.Accepted.{accepted, none_left}
use Rattle.mol_log_words.proofs.cursor.Cursor.text.Goals as goal

pub returns-in_err-word : goal.returns-in_err-word
returns-in_err-word c = none_left _ (passing (has_form c.args.form)) c.args.self.now c.from_residual.result
    c.in_err-word.ensures.none.1 c.from_residual.ensures.1

pub returns : goal.returns
returns c =
    accepted (passing (has_form c.args.form)) c.in_ok-found.found c.in_ok-word.word.now c.args.self.now c.accept.new.self c.accept.result
    c.in_ok-word.ensures.next c.in_ok-found.ensures c.accept.ensures
