use Rattle.std.proofs.Common.{◌∙◌, ap}
use Rattle.mol_base.specs.Spelled.{id_of}
use Rattle.mol_log_words.proofs.Accepted.{accepted, none_left}
use Rattle.mol_log_words.proofs.cursor.Cursor.id.Goals as goal

pub returns-in_err-next_word : goal.returns-in_err-next_word
returns-in_err-next_word c =
    none_left _ id_of c.args.self.now c.from_residual.result c.in_err-next_word.ensures.none.1 c.from_residual.ensures.1

pub returns : goal.returns
returns c =
    let found = c.id_of_word-found.ensures ∙ ap id_of c.bytes.ensures.bytes in
    accepted id_of c.id_of_word-found.result c.in_ok-next_word.field-0.now c.args.self.now c.accept.new.self c.accept.result
    c.in_ok-next_word.ensures.next found c.accept.ensures
