use Rattle.std.proofs.Common.{◌∙◌, sym, ap, []}
use Rattle.std.specs.FinMap.{get}
use Rattle.mol_table_rules.specs.Mentions.{type_mentions}
use Rattle.mol_op.specs.Rows.{param_tests}
use Rattle.mol_op.specs.Tests.{lists, list_fault, mentions_fault, tests_fault}
use Rattle.mol_op.proofs.Mentioned.{refused}
use Rattle.mol_op.specs.Parts.{lists-param, named-at, own-refused, type-refused, both-passed}
use Rattle.mol_op.proofs.params.known_params.Goals as goal

pub returns-in_err-listed : goal.returns-in_err-listed
returns-in_err-listed c =
    let known = c.args.table.now.known in
    let tag = c.args.tag.now in
    let method = c.args.method.now in
    let params = c.args.params.now in
    let id = c.index-params-at.result.id in
    let why = c.in_err-listed.field-0.0 in
    refused (tests_fault tag [] known (param_tests (lists method) params)) c.from_residual.result why c.from_residual.ensures.1
    (sym c.loop-at.invariant
    ∙ own-refused method (lists method) (lists-param method) tag known [] params c.loop-at.at c.index-params-at.result c.loop-at-test.true c.index-params-at.is why
    (ap (λ named. list_fault tag named method id (get known id)) (named-at method [] params c.loop-at.at id ∙ sym c.is_listed-named.ensures) ∙ c.in_err-listed.ensures))

pub returns-in_err-check_type : goal.returns-in_err-check_type
returns-in_err-check_type c =
    let known = c.args.table.now.known in
    let tag = c.args.tag.now in
    let method = c.args.method.now in
    let params = c.args.params.now in
    let param = c.index-params-at.result in
    let why = c.in_err-check_type.field-0.0 in
    refused (tests_fault tag [] known (param_tests (lists method) params)) c.from_residual-in_err-check_type.result why c.from_residual-in_err-check_type.ensures.1
    (sym c.loop-at.invariant
    ∙ type-refused method (lists method) (lists-param method) tag known [] params c.loop-at.at param c.loop-at-test.true c.index-params-at.is why
    (ap (λ named. list_fault tag named method param.id (get known param.id)) (named-at method [] params c.loop-at.at param.id ∙ sym c.is_listed-named.ensures) ∙ c.in_ok-listed.ensures)
    (ap (λ seen. mentions_fault seen (type_mentions param.ty)) (sym c.of-seen.ensures) ∙ c.in_err-check_type.ensures))

pub loop-at-preserved : goal.loop-at-preserved
loop-at-preserved c =
    let known = c.args.table.now.known in
    let tag = c.args.tag.now in
    let method = c.args.method.now in
    let params = c.args.params.now in
    let param = c.index-params-at.result in
    both-passed method (lists method) (lists-param method) tag known [] params c.loop-at.at param c.loop-at-test.true c.index-params-at.is
    (ap (λ named. list_fault tag named method param.id (get known param.id)) (named-at method [] params c.loop-at.at param.id ∙ sym c.is_listed-named.ensures) ∙ c.in_ok-listed.ensures)
    (ap (λ seen. mentions_fault seen (type_mentions param.ty)) (sym c.of-seen.ensures) ∙ c.in_ok-check_type.ensures)
    ∙ c.loop-at.invariant
