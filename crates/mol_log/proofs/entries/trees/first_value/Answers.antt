use Rattle.mol_log.proofs.entries_lemmas.Refusals.{refused, value-read, value-failed, none-read}
use Rattle.mol_log.specs.entries.Trees.{SpellsValue}
use Rattle.mol_log.proofs.entries.trees.first_value.Goals as goal

pub returns-in_err-read_expr-in-Some : goal.returns-in_err-read_expr-in-Some
returns-in_err-read_expr-in-Some c =
    refused _ _ c.from_residual.result _ c.from_residual.ensures.1
    (value-failed c.args.words.now _ _ _ c.in-Some.is c.items.ensures c.in_err-read_expr-in-Some.ensures)

pub returns-in_ok-read_expr-in-Some : goal.returns-in_ok-read_expr-in-Some
returns-in_ok-read_expr-in-Some c = value-read c.args.words.now _ _ _ c.in-Some.is c.items.ensures c.in_ok-read_expr-in-Some.ensures

pub returns-in-None : goal.returns-in-None
returns-in-None c = none-read SpellsValue c.args.words.now c.in-None.is
