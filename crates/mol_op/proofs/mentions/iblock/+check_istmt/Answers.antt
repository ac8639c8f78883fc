use Rattle.std.proofs.Common.{◌+◌, ◌∙◌, sym, ap, drop}
use Rattle.mol_op.specs.Seen.{seen_by}
use Rattle.mol_op.specs.Statements.{statement_mentions, statements_mentions}
use Rattle.mol_op.specs.Tests.{mentions_fault}
use Rattle.mol_op.proofs.Mentioned.{fault-found, fault-passed, joined-map, refused}
use Rattle.mol_op.proofs.StatementFaults.{statement-mentions}
use Rattle.mol_op.proofs.mentions.iblock.+check_istmt.Goals as goal

pub check_statements-returns-in_err-check_node : goal.check_statements-returns-in_err-check_node
check_statements-returns-in_err-check_node t c =
    let known = seen_by c.args.seen.now in
    let why = c.in_err-check_node.field-0.0 in
    let items = c.args.items.now in
    let i = c.loop-item.item-index in
    refused (mentions_fault known (statements_mentions items)) c.from_residual.result why c.from_residual.ensures.1
    (sym c.loop-item.invariant
    ∙ ap (mentions_fault known) (joined-map statement_mentions (drop i items))
    ∙ fault-found known statement_mentions items i c.item-item.result c.loop-item-test.true c.item-item.is why
    (ap (mentions_fault known) (statement-mentions c.item-item.result) ∙ c.in_err-check_node.ensures))

pub check_statements-loop-item-preserved : goal.check_statements-loop-item-preserved
check_statements-loop-item-preserved t c =
    let known = seen_by c.args.seen.now in
    let items = c.args.items.now in
    let i = c.loop-item.item-index in
    ap (mentions_fault known) (joined-map statement_mentions (drop (i + 1) items))
    ∙ fault-passed known statement_mentions items i c.item-item.result c.loop-item-test.true c.item-item.is
    (ap (mentions_fault known) (statement-mentions c.item-item.result) ∙ c.in_ok-check_node.ensures)
    ∙ sym (ap (mentions_fault known) (joined-map statement_mentions (drop i items)))
    ∙ c.loop-item.invariant
