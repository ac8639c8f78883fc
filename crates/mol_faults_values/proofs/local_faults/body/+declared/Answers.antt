-- What each part declares, put together as the definitions do it, and that what was in scope stays so.
use Rattle.std.proofs.Common.{◌∙◌, refl, sym, ap, length, take}
use Rattle.std.proofs.lemmas.Result.{on_ok_weaker}
use Rattle.mol_faults_values.proofs.local_faults_lemmas.InTurn.{stays, goes, goes-both, turn-more, turn-done, kept-own, kept-same, kept-declared, kept-further, ended-kept, ended-scope}
use Rattle.mol_faults_values.proofs.local_faults_lemmas.Scoped as parts
use Rattle.mol_faults_values.proofs.local_faults.body.+declared.Goals as goal
use Rattle.mol_faults_values.specs.local_faults.PartScopes.{else_scopes, each_scopes, for_scopes, if_scopes, names_scopes, node_scopes, statement_scopes, statements_scopes}
use Rattle.mol_values_types.specs.declared.iblock.IIf.{out-IIf}
use Rattle.mol_spell_rules.specs.LocalClashes.{block_scopes, declaring, in_block, start_scopes, then_next}

-- # Each kind of statement

pub declare_node-returns-in-Block-clause-scope : goal.declare_node-returns-in-Block-clause-scope
declare_node-returns-in-Block-clause-scope t c =
    on_ok_weaker c.declare_block.result (goes c.args.scope.now _ _ (node_scopes c.args.node.now)
    (parts.scopes-Block c.args.node.now _ c.in-Block.is)) c.declare_block.ensures.scope

pub declare_node-returns-in-Block-clause-kept : goal.declare_node-returns-in-Block-clause-kept
declare_node-returns-in-Block-clause-kept t c =
    on_ok_weaker c.declare_block.result (kept-same c.args.scope.now.in_scope _) c.declare_block.ensures.kept

pub declare_node-returns-in-Let-clause-scope : goal.declare_node-returns-in-Let-clause-scope
declare_node-returns-in-Let-clause-scope t c =
    on_ok_weaker c.declare_names.result (goes c.args.scope.now _ _ (node_scopes c.args.node.now)
    (parts.scopes-Let c.args.node.now _ c.in-Let.is ∙ ap names_scopes (sym c.items.ensures))) c.declare_names.ensures.scope

pub declare_node-returns-in-Let-clause-kept : goal.declare_node-returns-in-Let-clause-kept
declare_node-returns-in-Let-clause-kept t c = c.declare_names.ensures.kept

pub declare_node-returns-in-Do-clause-scope : goal.declare_node-returns-in-Do-clause-scope
declare_node-returns-in-Do-clause-scope t c =
    stays c.args.scope.now (node_scopes c.args.node.now) (parts.scopes-Do c.args.node.now _ c.in-Do.is)

pub declare_node-returns-in-Do-clause-kept : goal.declare_node-returns-in-Do-clause-kept
declare_node-returns-in-Do-clause-kept t c = kept-own c.args.scope.now.in_scope

pub declare_node-returns-in-If-clause-scope : goal.declare_node-returns-in-If-clause-scope
declare_node-returns-in-If-clause-scope t c =
    on_ok_weaker c.declare_if.result (goes c.args.scope.now _ _ (node_scopes c.args.node.now)
    (parts.scopes-If c.args.node.now _ c.in-If.is)) c.declare_if.ensures.scope

pub declare_node-returns-in-If-clause-kept : goal.declare_node-returns-in-If-clause-kept
declare_node-returns-in-If-clause-kept t c =
    on_ok_weaker c.declare_if.result (kept-same c.args.scope.now.in_scope _) c.declare_if.ensures.kept

pub declare_node-returns-in-While-clause-scope : goal.declare_node-returns-in-While-clause-scope
declare_node-returns-in-While-clause-scope t c =
    on_ok_weaker c.declare_block-in-While.result (goes c.args.scope.now _ _ (node_scopes c.args.node.now)
    (parts.scopes-While c.args.node.now _ _ c.in-While.is)) c.declare_block-in-While.ensures.scope

pub declare_node-returns-in-While-clause-kept : goal.declare_node-returns-in-While-clause-kept
declare_node-returns-in-While-clause-kept t c =
    on_ok_weaker c.declare_block-in-While.result (kept-same c.args.scope.now.in_scope _) c.declare_block-in-While.ensures.kept

pub declare_node-returns-in-For-clause-scope : goal.declare_node-returns-in-For-clause-scope
declare_node-returns-in-For-clause-scope t c =
    on_ok_weaker c.declare_for.result (goes c.args.scope.now _ _ (node_scopes c.args.node.now)
    (parts.scopes-For c.args.node.now _ _ _ _ c.in-For.is)) c.declare_for.ensures.scope

pub declare_node-returns-in-For-clause-kept : goal.declare_node-returns-in-For-clause-kept
declare_node-returns-in-For-clause-kept t c =
    on_ok_weaker c.declare_for.result (kept-same c.args.scope.now.in_scope _) c.declare_for.ensures.kept

pub declare_node-returns-in-Each-clause-scope : goal.declare_node-returns-in-Each-clause-scope
declare_node-returns-in-Each-clause-scope t c =
    on_ok_weaker c.declare_each.result (goes c.args.scope.now _ _ (node_scopes c.args.node.now)
    (parts.scopes-Each c.args.node.now _ _ _ _ _ c.in-Each.is)) c.declare_each.ensures.scope

pub declare_node-returns-in-Each-clause-kept : goal.declare_node-returns-in-Each-clause-kept
declare_node-returns-in-Each-clause-kept t c =
    on_ok_weaker c.declare_each.result (kept-same c.args.scope.now.in_scope _) c.declare_each.ensures.kept

pub declare_node-returns-in-Return-clause-scope : goal.declare_node-returns-in-Return-clause-scope
declare_node-returns-in-Return-clause-scope t c =
    stays c.args.scope.now (node_scopes c.args.node.now) (parts.scopes-Return c.args.node.now _ c.in-Return.is)

pub declare_node-returns-in-Return-clause-kept : goal.declare_node-returns-in-Return-clause-kept
declare_node-returns-in-Return-clause-kept t c = kept-own c.args.scope.now.in_scope

pub declare_node-returns-in-Throw-clause-scope : goal.declare_node-returns-in-Throw-clause-scope
declare_node-returns-in-Throw-clause-scope t c =
    stays c.args.scope.now (node_scopes c.args.node.now) (parts.scopes-Throw c.args.node.now _ c.in-Throw.is)

pub declare_node-returns-in-Throw-clause-kept : goal.declare_node-returns-in-Throw-clause-kept
declare_node-returns-in-Throw-clause-kept t c = kept-own c.args.scope.now.in_scope

pub declare_node-returns-in-Break-clause-scope : goal.declare_node-returns-in-Break-clause-scope
declare_node-returns-in-Break-clause-scope t c =
    stays c.args.scope.now (node_scopes c.args.node.now) (parts.scopes-Break c.args.node.now c.in-Break.is)

pub declare_node-returns-in-Break-clause-kept : goal.declare_node-returns-in-Break-clause-kept
declare_node-returns-in-Break-clause-kept t c = kept-own c.args.scope.now.in_scope

pub declare_node-returns-in-Continue-clause-scope : goal.declare_node-returns-in-Continue-clause-scope
declare_node-returns-in-Continue-clause-scope t c =
    stays c.args.scope.now (node_scopes c.args.node.now) (parts.scopes-Continue c.args.node.now c.in-Continue.is)

pub declare_node-returns-in-Continue-clause-kept : goal.declare_node-returns-in-Continue-clause-kept
declare_node-returns-in-Continue-clause-kept t c = kept-own c.args.scope.now.in_scope

pub declare_node-returns-in-Empty-clause-scope : goal.declare_node-returns-in-Empty-clause-scope
declare_node-returns-in-Empty-clause-scope t c =
    stays c.args.scope.now (node_scopes c.args.node.now) (parts.scopes-Empty c.args.node.now c.in-Empty.is)

pub declare_node-returns-in-Empty-clause-kept : goal.declare_node-returns-in-Empty-clause-kept
declare_node-returns-in-Empty-clause-kept t c = kept-own c.args.scope.now.in_scope

pub declare_node-returns-in-Super-clause-scope : goal.declare_node-returns-in-Super-clause-scope
declare_node-returns-in-Super-clause-scope t c =
    stays c.args.scope.now (node_scopes c.args.node.now) (parts.scopes-Super c.args.node.now _ _ c.in-Super.is)

pub declare_node-returns-in-Super-clause-kept : goal.declare_node-returns-in-Super-clause-kept
declare_node-returns-in-Super-clause-kept t c = kept-own c.args.scope.now.in_scope

pub declare_node-returns-in-SuperDefault-clause-scope : goal.declare_node-returns-in-SuperDefault-clause-scope
declare_node-returns-in-SuperDefault-clause-scope t c =
    stays c.args.scope.now (node_scopes c.args.node.now) (parts.scopes-SuperDefault c.args.node.now _ c.in-SuperDefault.is)

pub declare_node-returns-in-SuperDefault-clause-kept : goal.declare_node-returns-in-SuperDefault-clause-kept
declare_node-returns-in-SuperDefault-clause-kept t c = kept-own c.args.scope.now.in_scope

pub declare_node-returns-in-SuperOutside-clause-scope : goal.declare_node-returns-in-SuperOutside-clause-scope
declare_node-returns-in-SuperOutside-clause-scope t c =
    stays c.args.scope.now (node_scopes c.args.node.now) (parts.scopes-SuperOutside c.args.node.now _ c.in-SuperOutside.is)

pub declare_node-returns-in-SuperOutside-clause-kept : goal.declare_node-returns-in-SuperOutside-clause-kept
declare_node-returns-in-SuperOutside-clause-kept t c = kept-own c.args.scope.now.in_scope

pub declare_statement-returns-clause-scope : goal.declare_statement-returns-clause-scope
declare_statement-returns-clause-scope t c =
    on_ok_weaker c.declare_node.result (goes c.args.scope.now _ _ (statement_scopes c.args.statement.now)
    (parts.scopes-statement c.args.statement.now)) c.declare_node.ensures.scope

pub declare_statement-returns-clause-kept : goal.declare_statement-returns-clause-kept
declare_statement-returns-clause-kept t c = c.declare_node.ensures.kept

-- # Blocks

pub declare_block-returns-clause-scope : goal.declare_block-returns-clause-scope
declare_block-returns-clause-scope t c =
    ended-scope c.args.scope.now _ _ _ (statements_scopes c.items.result.now) (block_scopes c.args.block.now) c.mark-mark.ensures
    c.in_ok-declare_statements.ensures.scope c.in_ok-declare_statements.ensures.kept c.end_block.ensures
    (parts.scopes-block c.args.block.now ∙ ap (λ items names. in_block names (statements_scopes items names)) (sym c.items.ensures))

pub declare_block-returns-clause-kept : goal.declare_block-returns-clause-kept
declare_block-returns-clause-kept t c =
    ended-kept c.args.scope.now _ _ _ (statements_scopes c.items.result.now) (block_scopes c.args.block.now) c.mark-mark.ensures
    c.in_ok-declare_statements.ensures.scope c.in_ok-declare_statements.ensures.kept c.end_block.ensures
    (parts.scopes-block c.args.block.now ∙ ap (λ items names. in_block names (statements_scopes items names)) (sym c.items.ensures))

pub declare_for-returns-clause-scope : goal.declare_for-returns-clause-scope
declare_for-returns-clause-scope t c =
    let start = start_scopes c.args.start.now in
    let block = block_scopes c.args.block.now in
    ended-scope c.args.scope.now _ _ _ (λ names. then_next (start names) block) (for_scopes c.args.start.now c.args.block.now)
    c.mark-mark.ensures
    (goes-both c.args.scope.now _ _ start block c.in_ok-declare_start.ensures.scope c.in_ok-declare_block.ensures.scope)
    (ap (take (length c.args.scope.now.in_scope)) c.in_ok-declare_block.ensures.kept ∙ c.in_ok-declare_start.ensures.kept)
    c.end_block.ensures refl

pub declare_for-returns-clause-kept : goal.declare_for-returns-clause-kept
declare_for-returns-clause-kept t c =
    let start = start_scopes c.args.start.now in
    let block = block_scopes c.args.block.now in
    ended-kept c.args.scope.now _ _ _ (λ names. then_next (start names) block) (for_scopes c.args.start.now c.args.block.now)
    c.mark-mark.ensures
    (goes-both c.args.scope.now _ _ start block c.in_ok-declare_start.ensures.scope c.in_ok-declare_block.ensures.scope)
    (ap (take (length c.args.scope.now.in_scope)) c.in_ok-declare_block.ensures.kept ∙ c.in_ok-declare_start.ensures.kept)
    c.end_block.ensures refl

pub declare_each-returns-clause-scope : goal.declare_each-returns-clause-scope
declare_each-returns-clause-scope t c =
    let name = c.args.name.now in
    let block = block_scopes c.args.block.now in
    let declared = c.in_ok-declare.ensures ∙ ap (λ own. then_next c.args.scope.now (declaring own)) c.as_str.ensures in
    ended-scope c.args.scope.now _ _ _ (λ names. then_next (declaring name names) block) (each_scopes name c.args.block.now)
    c.mark-mark.ensures
    (goes-both c.args.scope.now _ _ (declaring name) block declared c.in_ok-declare_block.ensures.scope)
    (ap (take (length c.args.scope.now.in_scope)) c.in_ok-declare_block.ensures.kept ∙ kept-declared c.args.scope.now _ name declared)
    c.end_block.ensures refl

pub declare_each-returns-clause-kept : goal.declare_each-returns-clause-kept
declare_each-returns-clause-kept t c =
    let name = c.args.name.now in
    let block = block_scopes c.args.block.now in
    let declared = c.in_ok-declare.ensures ∙ ap (λ own. then_next c.args.scope.now (declaring own)) c.as_str.ensures in
    ended-kept c.args.scope.now _ _ _ (λ names. then_next (declaring name names) block) (each_scopes name c.args.block.now)
    c.mark-mark.ensures
    (goes-both c.args.scope.now _ _ (declaring name) block declared c.in_ok-declare_block.ensures.scope)
    (ap (take (length c.args.scope.now.in_scope)) c.in_ok-declare_block.ensures.kept ∙ kept-declared c.args.scope.now _ name declared)
    c.end_block.ensures refl

-- # Branches

pub declare_if-returns-clause-scope : goal.declare_if-returns-clause-scope
declare_if-returns-clause-scope t c =
    on_ok_weaker c.declare_else.result (λ next. goes c.args.scope.now _ _ (if_scopes c.args.branch.now) (parts.scopes-if c.args.branch.now)
    (goes-both c.args.scope.now _ _ (block_scopes (out-IIf c.args.branch.now).then)
    (else_scopes (out-IIf c.args.branch.now).rest)
    c.in_ok-declare_block.ensures.scope next)) c.declare_else.ensures.scope

pub declare_if-returns-clause-kept : goal.declare_if-returns-clause-kept
declare_if-returns-clause-kept t c =
    on_ok_weaker c.declare_else.result (λ next. next ∙ c.in_ok-declare_block.ensures.kept) c.declare_else.ensures.kept

pub declare_else-returns-in-None-clause-scope : goal.declare_else-returns-in-None-clause-scope
declare_else-returns-in-None-clause-scope t c =
    stays c.args.scope.now (else_scopes c.args.rest.now) (parts.scopes-no-else c.args.rest.now c.in-None.is)

pub declare_else-returns-in-None-clause-kept : goal.declare_else-returns-in-None-clause-kept
declare_else-returns-in-None-clause-kept t c = refl

pub declare_else-returns-in-Block-clause-scope : goal.declare_else-returns-in-Block-clause-scope
declare_else-returns-in-Block-clause-scope t c =
    on_ok_weaker c.declare_block.result (goes c.args.scope.now _ _ (else_scopes c.args.rest.now)
    (parts.scopes-else-block c.args.rest.now _ c.in-Block.is)) c.declare_block.ensures.scope

pub declare_else-returns-in-Block-clause-kept : goal.declare_else-returns-in-Block-clause-kept
declare_else-returns-in-Block-clause-kept t c = c.declare_block.ensures.kept

pub declare_else-returns-in-If-clause-scope : goal.declare_else-returns-in-If-clause-scope
declare_else-returns-in-If-clause-scope t c =
    on_ok_weaker c.declare_if.result (goes c.args.scope.now _ _ (else_scopes c.args.rest.now)
    (parts.scopes-else-if c.args.rest.now _ c.in-If.is ∙ ap if_scopes (sym c.get.ensures))) c.declare_if.ensures.scope

pub declare_else-returns-in-If-clause-kept : goal.declare_else-returns-in-If-clause-kept
declare_else-returns-in-If-clause-kept t c = c.declare_if.ensures.kept

-- # Several

pub declare_statements-loop-statement-init : goal.declare_statements-loop-statement-init
declare_statements-loop-statement-init t c = record { scope = refl; kept = kept-own c.args.scope.now.in_scope }

pub declare_statements-loop-statement-preserved : goal.declare_statements-loop-statement-preserved
declare_statements-loop-statement-preserved t c =
    let before = c.loop-statement.scope in
    record {
      scope = turn-more statement_scopes c.args.items.now c.loop-statement.statement-index c.statement-item.result _ before _
          c.loop-statement-test.true c.statement-item.is c.loop-statement.invariant.scope c.in_ok-declare_statement.ensures.scope;
      kept = kept-further c.args.scope.now.in_scope before.in_scope _ c.loop-statement.invariant.kept
          c.in_ok-declare_statement.ensures.kept;
    }

pub declare_statements-returns-clause-scope : goal.declare_statements-returns-clause-scope
declare_statements-returns-clause-scope t c =
    turn-done statement_scopes c.args.items.now c.loop-statement.statement-index _ c.loop-statement.scope c.loop-statement-test.false
    c.loop-statement.invariant.scope

pub declare_statements-returns-clause-kept : goal.declare_statements-returns-clause-kept
declare_statements-returns-clause-kept t c = c.loop-statement.invariant.kept
