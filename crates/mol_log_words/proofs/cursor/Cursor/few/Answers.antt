use Rattle.std.proofs.Common.{◌∙◌, ap}
use Rattle.mol_log_words.specs.Words.{count_of}
use Rattle.mol_log_words.specs.declared.bounds.Bounds.TheVariants.{Few}
use Rattle.mol_log_words.proofs.Accepted.{accepted, none_left}
use Rattle.mol_log_words.proofs.cursor.Cursor.few.Goals as goal

pub returns-in_err-next_word : goal.returns-in_err-next_word
returns-in_err-next_word c = none_left _ (count_of Few c.args.deeper) c.args.self.now c.from_residual.result
    c.in_err-next_word.ensures.none.1 c.from_residual.ensures.1

pub returns : goal.returns
returns c =
    let found = c.few_of-found.ensures ∙ ap (count_of Few c.args.deeper) c.bytes.ensures.bytes in
    accepted (count_of Few c.args.deeper) c.few_of-found.result c.in_ok-next_word.field-0.now c.args.self.now c.accept.new.self
    c.accept.result c.in_ok-next_word.ensures.next found c.accept.ensures
