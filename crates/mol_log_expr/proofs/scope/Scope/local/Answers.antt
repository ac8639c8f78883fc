use Rattle.std.proofs.Common.{◌∙◌, ap}
use Rattle.mol_log_expr.specs.Scope.{local_of}
use Rattle.mol_log_words.proofs.Accepted.{accepted, none_left}
use Rattle.mol_log_expr.proofs.scope.Scope.local.Goals as goal

pub returns-in_err-next_word : goal.returns-in_err-next_word
returns-in_err-next_word c = none_left _ (local_of c.args.self.now.locals) c.args.words.now c.from_residual.result
    c.in_err-next_word.ensures.none.1 c.from_residual.ensures.1

pub returns : goal.returns
returns c =
    let found = c.local_of-found.ensures ∙ ap (local_of c.args.self.now.locals) c.bytes.ensures.bytes in
    accepted (local_of c.args.self.now.locals) c.local_of-found.result c.in_ok-next_word.field-0.now c.args.words.now
    c.accept.new.self c.accept.result c.in_ok-next_word.ensures.next found c.accept.ensures
