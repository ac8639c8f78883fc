use Rattle.std.proofs.Common.{◌∙◌, sym, ap}
use Rattle.std.specs.FinMap.{get}
use Rattle.mol_table_rules.specs.Mentions.{type_mentions}
use Rattle.mol_values_types.specs.declared.known.Known.TheVariants as knowns
use Rattle.mol_op.specs.Rows.{param_tests}
use Rattle.mol_op.specs.Tests.{makes, new_fault, mentions_fault, tests_fault}
use Rattle.mol_op.proofs.Mentioned.{refused}
use Rattle.mol_op.specs.Parts.{makes-param, named-at, own-refused, type-refused, both-passed}
use Rattle.mol_op.proofs.params.new_params.Goals as goal

pub returns-in_err-fresh : goal.returns-in_err-fresh
returns-in_err-fresh c =
    let known = c.args.table.now.known in
    let tag = c.args.tag.now in
    let method = c.args.method.now in
    let entities = c.args.entities.now in
    let params = c.args.params.now in
    let id = c.index-params-at.result.id in
    let why = c.in_err-fresh.field-0.0 in
    refused (tests_fault tag entities known (param_tests (makes (knowns.Param method)) params)) c.from_residual.result why c.from_residual.ensures.1
    (sym c.loop-at.invariant
    ∙ own-refused method (makes (knowns.Param method)) (makes-param method) tag known entities params c.loop-at.at c.index-params-at.result c.loop-at-test.true c.index-params-at.is why
    (ap (λ named. new_fault tag named id (get known id)) (named-at method entities params c.loop-at.at id ∙ sym c.is_named-named.ensures) ∙ c.in_err-fresh.ensures))

pub returns-in_err-check_type : goal.returns-in_err-check_type
returns-in_err-check_type c =
    let known = c.args.table.now.known in
    let tag = c.args.tag.now in
    let method = c.args.method.now in
    let entities = c.args.entities.now in
    let params = c.args.params.now in
    let param = c.index-params-at.result in
    let why = c.in_err-check_type.field-0.0 in
    refused (tests_fault tag entities known (param_tests (makes (knowns.Param method)) params)) c.from_residual-in_err-check_type.result why c.from_residual-in_err-check_type.ensures.1
    (sym c.loop-at.invariant
    ∙ type-refused method (makes (knowns.Param method)) (makes-param method) tag known entities params c.loop-at.at param c.loop-at-test.true c.index-params-at.is why
    (ap (λ named. new_fault tag named param.id (get known param.id)) (named-at method entities params c.loop-at.at param.id ∙ sym c.is_named-named.ensures) ∙ c.in_ok-fresh.ensures)
    (ap (λ seen. mentions_fault seen (type_mentions param.ty)) (sym c.of-seen.ensures) ∙ c.in_err-check_type.ensures))

pub loop-at-preserved : goal.loop-at-preserved
loop-at-preserved c =
    let known = c.args.table.now.known in
    let tag = c.args.tag.now in
    let method = c.args.method.now in
    let entities = c.args.entities.now in
    let params = c.args.params.now in
    let param = c.index-params-at.result in
    both-passed method (makes (knowns.Param method)) (makes-param method) tag known entities params c.loop-at.at param c.loop-at-test.true c.index-params-at.is
    (ap (λ named. new_fault tag named param.id (get known param.id)) (named-at method entities params c.loop-at.at param.id ∙ sym c.is_named-named.ensures) ∙ c.in_ok-fresh.ensures)
    (ap (λ seen. mentions_fault seen (type_mentions param.ty)) (sym c.of-seen.ensures) ∙ c.in_ok-check_type.ensures)
    ∙ c.loop-at.invariant
