use Rattle.std.proofs.Common.{Bool, ◌∙◌, ap}
use Rattle.std.specs.Bool.{then_some}
use Rattle.mol_log_words.proofs.Accepted.{accepted, none_left}
use Rattle.mol_log_body.specs.StatementHeads.{is_block, marked}
use Rattle.mol_log_body.proofs.take.take_block.Goals as goal

pub returns-in_err-next_word : goal.returns-in_err-next_word
returns-in_err-next_word c = none_left _ (marked is_block) c.args.words.now c.from_residual.result c.in_err-next_word.ensures.none.1
    c.from_residual.ensures.1

pub returns : goal.returns
returns c =
    let same = c.is_block.ensures ∙ ap is_block c.bytes.ensures.bytes in
    let found = c.then_some-found.ensures ∙ ap (λ (b : Bool). then_some b (tt {0})) same in
    accepted (marked is_block) c.then_some-found.result c.in_ok-next_word.field-0.now c.args.words.now
    c.accept.new.self c.accept.result c.in_ok-next_word.ensures.next found c.accept.ensures
