use Rattle.std.proofs.Common.{◌∙◌, sym}
use Rattle.mol_table_rules.specs.Mentions.{expr_mentions, exprs_mentions, arguments_mentions}
use Rattle.mol_values_types.specs.declared.iexpr.Argument.{Argument}
use Rattle.mol_op.specs.Seen.{seen_by}
use Rattle.mol_op.specs.Tests.{mentions_fault}
use Rattle.mol_op.proofs.Mentioned.{fault-found, fault-passed, refused}
use Rattle.mol_op.proofs.mentions.iexpr.+check_iexpr.Goals as goal

pub check_all-returns-in_err-check_expr : goal.check_all-returns-in_err-check_expr
check_all-returns-in_err-check_expr t c =
    let known = seen_by c.args.seen.now in
    let why = c.in_err-check_expr.field-0.0 in
    refused (mentions_fault known (exprs_mentions c.args.items.now)) c.from_residual.result why c.from_residual.ensures.1
    (sym c.loop-item.invariant
    ∙ fault-found known expr_mentions c.args.items.now c.loop-item.item-index c.item-item.result c.loop-item-test.true c.item-item.is why c.in_err-check_expr.ensures)

pub check_all-loop-item-preserved : goal.check_all-loop-item-preserved
check_all-loop-item-preserved t c =
    fault-passed (seen_by c.args.seen.now) expr_mentions c.args.items.now c.loop-item.item-index c.item-item.result c.loop-item-test.true c.item-item.is
    c.in_ok-check_expr.ensures
    ∙ c.loop-item.invariant

pub check_arguments-returns-in_err-check_expr : goal.check_arguments-returns-in_err-check_expr
check_arguments-returns-in_err-check_expr t c =
    let known = seen_by c.args.seen.now in
    let why = c.in_err-check_expr.field-0.0 in
    refused (mentions_fault known (arguments_mentions c.args.args.now)) c.from_residual.result why c.from_residual.ensures.1
    (sym c.loop-arg.invariant
    ∙ fault-found known (λ (argument : Argument). expr_mentions argument.value) c.args.args.now c.loop-arg.arg-index c.arg-item.result c.loop-arg-test.true
    c.arg-item.is why c.in_err-check_expr.ensures)

pub check_arguments-loop-arg-preserved : goal.check_arguments-loop-arg-preserved
check_arguments-loop-arg-preserved t c =
    fault-passed (seen_by c.args.seen.now) (λ (argument : Argument). expr_mentions argument.value) c.args.args.now c.loop-arg.arg-index c.arg-item.result
    c.loop-arg-test.true c.arg-item.is c.in_ok-check_expr.ensures
    ∙ c.loop-arg.invariant
