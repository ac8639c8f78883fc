use Rattle.std.proofs.Common.{◌∙◌, sym}
use Rattle.mol_table_rules.specs.Mentions.{maybe_mentions}
use Rattle.mol_values_types.specs.declared.iblock.IDeclarator.{IDeclarator}
use Rattle.mol_op.specs.Seen.{seen_by}
use Rattle.mol_op.specs.Statements.{names_mentions}
use Rattle.mol_op.specs.Tests.{mentions_fault}
use Rattle.mol_op.proofs.Mentioned.{fault-found, fault-passed, refused}
use Rattle.mol_op.proofs.mentions.iblock.check_names.Goals as goal

pub returns-in_err-check_maybe : goal.returns-in_err-check_maybe
returns-in_err-check_maybe c =
    let known = seen_by c.args.seen.now in
    let why = c.in_err-check_maybe.field-0.0 in
    refused (mentions_fault known (names_mentions c.args.names.now)) c.from_residual.result why c.from_residual.ensures.1
    (sym c.loop-name.invariant
    ∙ fault-found known (λ (name : IDeclarator). maybe_mentions name.init) c.args.names.now c.loop-name.name-index c.name-item.result c.loop-name-test.true
    c.name-item.is why c.in_err-check_maybe.ensures)

pub loop-name-preserved : goal.loop-name-preserved
loop-name-preserved c =
    fault-passed (seen_by c.args.seen.now) (λ (name : IDeclarator). maybe_mentions name.init) c.args.names.now c.loop-name.name-index c.name-item.result
    c.loop-name-test.true c.name-item.is c.in_ok-check_maybe.ensures
    ∙ c.loop-name.invariant
