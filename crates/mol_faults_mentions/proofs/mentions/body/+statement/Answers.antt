-- What each part mentions, put together as the definitions do it.
use Rattle.std.proofs.Common.{◌∙◌, ◌++◌, refl, sym, ap}
use Rattle.std.proofs.lemmas.Result.{on_ok_weaker}
use Rattle.mol_base.proofs.Added.{adds, adds-both, adds-more, adds-none, adds-whole}
use Rattle.mol_faults_mentions.proofs.mentions_lemmas.Statements as statements
use Rattle.mol_faults_mentions.proofs.mentions.body.+statement.Goals as goal
use Rattle.mol_faults_mentions.specs.mentions.Parts.{each_argument, each_expr, if_mentions, statement_mentions, statements_mentions}
use Rattle.mol_table_rules.specs.Mentions.{a_constructor, block_mentions, maybe_mentions, named, start_mentions}

-- # Each kind of statement

pub add_node-returns-in-Block : goal.add_node-returns-in-Block
add_node-returns-in-Block t c =
    on_ok_weaker c.add_block.result (adds c.args.mentions.now _ _ _
    (statements.mentions-Block c.args.node.now _ c.in-Block.is)) c.add_block.ensures

pub add_node-returns-in-Let : goal.add_node-returns-in-Let
add_node-returns-in-Let t c =
    on_ok_weaker c.add_let.result (adds c.args.mentions.now _ _ _
    (statements.mentions-Let c.args.node.now _ c.in-Let.is)) c.add_let.ensures

pub add_node-returns-in-Do : goal.add_node-returns-in-Do
add_node-returns-in-Do t c =
    on_ok_weaker c.add_expr.result (adds c.args.mentions.now _ _ _
    (statements.mentions-Do c.args.node.now _ c.in-Do.is)) c.add_expr.ensures

pub add_node-returns-in-If : goal.add_node-returns-in-If
add_node-returns-in-If t c =
    on_ok_weaker c.add_if.result (adds c.args.mentions.now _ _ _
    (statements.mentions-If c.args.node.now _ c.in-If.is)) c.add_if.ensures

pub add_node-returns-in-While : goal.add_node-returns-in-While
add_node-returns-in-While t c =
    on_ok_weaker c.add_tested_block.result (adds c.args.mentions.now _ _ _
    (statements.mentions-While c.args.node.now _ _ c.in-While.is)) c.add_tested_block.ensures

pub add_node-returns-in-For : goal.add_node-returns-in-For
add_node-returns-in-For t c =
    on_ok_weaker c.add_for.result (adds c.args.mentions.now _ _ _
    (statements.mentions-For c.args.node.now _ _ _ _ c.in-For.is
    ∙ (λ i. start_mentions c.in-For.start ++ maybe_mentions c.in-For.test ++ each_expr (sym c.items.ensures i) ++ block_mentions
    c.in-For.block)))
    c.add_for.ensures

pub add_node-returns-in-Each : goal.add_node-returns-in-Each
add_node-returns-in-Each t c =
    on_ok_weaker c.add_each.result (adds c.args.mentions.now _ _ _
    (statements.mentions-Each c.args.node.now _ _ _ _ _ c.in-Each.is)) c.add_each.ensures

pub add_node-returns-in-Return : goal.add_node-returns-in-Return
add_node-returns-in-Return t c =
    on_ok_weaker c.add_maybe.result (adds c.args.mentions.now _ _ _
    (statements.mentions-Return c.args.node.now _ c.in-Return.is)) c.add_maybe.ensures

pub add_node-returns-in-Throw : goal.add_node-returns-in-Throw
add_node-returns-in-Throw t c =
    on_ok_weaker c.add_expr-in-Throw.result (adds c.args.mentions.now _ _ _
    (statements.mentions-Throw c.args.node.now _ c.in-Throw.is)) c.add_expr-in-Throw.ensures

pub add_node-returns-in-Break : goal.add_node-returns-in-Break
add_node-returns-in-Break t c = adds-none c.args.mentions.now _ (statements.mentions-Break c.args.node.now c.in-Break.is)

pub add_node-returns-in-Continue : goal.add_node-returns-in-Continue
add_node-returns-in-Continue t c = adds-none c.args.mentions.now _ (statements.mentions-Continue c.args.node.now c.in-Continue.is)

pub add_node-returns-in-Empty : goal.add_node-returns-in-Empty
add_node-returns-in-Empty t c = adds-none c.args.mentions.now _ (statements.mentions-Empty c.args.node.now c.in-Empty.is)

pub add_node-returns-in-Super : goal.add_node-returns-in-Super
add_node-returns-in-Super t c =
    on_ok_weaker c.add_call.result (adds c.args.mentions.now _ _ _
    (statements.mentions-Super c.args.node.now _ _ c.in-Super.is
    ∙ (λ i. named a_constructor c.in-Super.constructor ++ each_argument (sym c.items-in-Super.ensures i)))) c.add_call.ensures

pub add_node-returns-in-SuperDefault : goal.add_node-returns-in-SuperDefault
add_node-returns-in-SuperDefault t c =
    on_ok_weaker c.add.result (adds c.args.mentions.now _ _ _
    (statements.mentions-SuperDefault c.args.node.now _ c.in-SuperDefault.is)) c.add.ensures

pub add_node-returns-in-SuperOutside : goal.add_node-returns-in-SuperOutside
add_node-returns-in-SuperOutside t c =
    on_ok_weaker c.add_all.result (adds c.args.mentions.now _ _ _
    (statements.mentions-SuperOutside c.args.node.now _ c.in-SuperOutside.is
    ∙ (λ i. each_expr (sym c.items-in-SuperOutside.ensures i)))) c.add_all.ensures

-- # Other parts

pub add_block-returns : goal.add_block-returns
add_block-returns t c =
    on_ok_weaker c.add_statements.result (adds c.args.mentions.now _ _ _
    (statements.mentions-block c.args.block.now ∙ ap statements_mentions (sym c.items.ensures))) c.add_statements.ensures

pub add_statement-returns : goal.add_statement-returns
add_statement-returns t c =
    on_ok_weaker c.add_node.result (adds c.args.mentions.now _ _ _ (statements.mentions-statement c.args.statement.now)) c.add_node.ensures

pub add_tested_block-returns : goal.add_tested_block-returns
add_tested_block-returns t c =
    on_ok_weaker c.add_block.result (adds-both c.args.mentions.now _ _ _ _ c.in_ok-add_expr.ensures) c.add_block.ensures

pub add_for-returns : goal.add_for-returns
add_for-returns t c = on_ok_weaker c.add_block.result (adds-both c.args.mentions.now _ _ _ _ c.in_ok-add_header.ensures) c.add_block.ensures

pub add_each-returns : goal.add_each-returns
add_each-returns t c = on_ok_weaker c.add_block.result (adds-both c.args.mentions.now _ _ _ _ c.in_ok-add_items.ensures) c.add_block.ensures

pub add_if-returns : goal.add_if-returns
add_if-returns t c =
    on_ok_weaker c.add_else.result (λ next. adds c.args.mentions.now _ _ _ (statements.mentions-if c.args.branch.now)
    (adds-both c.args.mentions.now _ _ _ _ c.in_ok-add_tested_block.ensures next)) c.add_else.ensures

pub add_else-returns-in-None : goal.add_else-returns-in-None
add_else-returns-in-None t c = adds-none c.args.mentions.now _ (statements.mentions-no-else c.args.rest.now c.in-None.is)

pub add_else-returns-in-Block : goal.add_else-returns-in-Block
add_else-returns-in-Block t c =
    on_ok_weaker c.add_block.result (adds c.args.mentions.now _ _ _ (statements.mentions-else-block c.args.rest.now _ c.in-Block.is))
    c.add_block.ensures

pub add_else-returns-in-If : goal.add_else-returns-in-If
add_else-returns-in-If t c =
    on_ok_weaker c.add_if.result (adds c.args.mentions.now _ _ _
    (statements.mentions-else-if c.args.rest.now _ c.in-If.is ∙ ap if_mentions (sym c.get.ensures))) c.add_if.ensures

pub add_statements-loop-item-preserved : goal.add_statements-loop-item-preserved
add_statements-loop-item-preserved t c =
    adds-more statements_mentions statement_mentions refl (λ x rest. refl)
    c.args.items.now c.loop-item.item-index c.item-item.result _ _ _ c.loop-item-test.true c.item-item.is
    c.loop-item.invariant c.in_ok-add_statement.ensures

pub add_statements-returns : goal.add_statements-returns
add_statements-returns t c =
    adds-whole statements_mentions statement_mentions refl (λ x rest. refl)
    c.args.items.now c.loop-item.item-index _ _ c.loop-item-test.false c.loop-item.invariant
