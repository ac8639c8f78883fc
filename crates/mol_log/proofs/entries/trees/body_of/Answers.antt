use Rattle.mol_log.proofs.entries_lemmas.Refusals.{refused, body-read, body-failed, none-read}
use Rattle.mol_log.specs.entries.Trees.{SpellsBody}
use Rattle.mol_log.proofs.entries.trees.body_of.Goals as goal

pub returns-in_err-read_body-in-Some : goal.returns-in_err-read_body-in-Some
returns-in_err-read_body-in-Some c =
    refused _ _ c.from_residual.result _ c.from_residual.ensures.1
    (body-failed c.args.words.now _ _ _ c.in-Some.is c.items.ensures c.in_err-read_body-in-Some.ensures)

pub returns-in_ok-read_body-in-Some : goal.returns-in_ok-read_body-in-Some
returns-in_ok-read_body-in-Some c = body-read c.args.words.now _ _ _ c.in-Some.is c.items.ensures c.in_ok-read_body-in-Some.ensures

pub returns-in-None : goal.returns-in-None
returns-in-None c = none-read SpellsBody c.args.words.now c.in-None.is
