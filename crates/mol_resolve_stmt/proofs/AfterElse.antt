-- What a statement after `else` reads as: an `if` by its branches, any other in a block of its own.
use Rattle.std.proofs.Common.{◌≡◌, ◌≢◌, ℕ, List, length, Option, refl, sym, ap, ◌∙◌, subst}
use Rattle.std.specs.Prelude.{⊤}
use Rattle.jav_tree.proofs.StatementFolds.{fold-else-block, fold-else-if, fold-no-else, fold-node-If, fold-stmt}
use Rattle.jav_tree.specs.declared.expr.Expr.{Expr}
use Rattle.jav_tree.specs.declared.stmt.Block.{Block}
use Rattle.jav_tree.specs.declared.stmt.Else.{Else}
use Rattle.jav_tree.specs.declared.stmt.Else.TheVariants as otherwise
use Rattle.jav_tree.specs.declared.stmt.Else.TheFolds.{fold-roll-StmtNode, ind-Stmt, map-StmtNode}
use Rattle.jav_tree.specs.declared.stmt.Else.TheOpen.{StmtNode-F, Stmt-F}
use Rattle.jav_tree.specs.declared.stmt.Else.TheViews.{roll-StmtNode}
use Rattle.jav_tree.specs.declared.stmt.Stmt.{Stmt}
use Rattle.jav_tree.specs.declared.stmt.StmtNode.{StmtNode}
use Rattle.jav_tree.specs.declared.stmt.StmtNode.TheVariants as node
use Rattle.jav_names.specs.LookUps.{super_constructor}
use Rattle.jav_names.specs.UnitViews.{MemberKey}
use Rattle.mol_resolve_rules.proofs.ReadEquations.{statement}
use Rattle.mol_resolve_rules.specs.Locals.{Locals}
use Rattle.mol_resolve_rules.specs.Outcomes.{Outcome, fine, mapped, beside, both}
use Rattle.mol_resolve_rules.specs.Readers.{Reader}
use Rattle.mol_resolve_rules.specs.ReadStatements as spell
use Rattle.mol_resolve_rules.specs.ReadStatements.{ReadOn, ReadsTo, ReadNode, ReadStatement, mapped_on, then_next, declaring_none, in_block, block_reading, node_step}
use Rattle.mol_resolve_rules.specs.ReadTrees.{read_expr}
use Rattle.mol_resolve_rules.specs.ReadTypes.{ReadType, read_type, seen_type}
use Rattle.mol_resolve_stmt.proofs.BlockStatements.{at-statement}
use Rattle.mol_resolve_stmt.proofs.StatementNodes.{twice-mapped, twice-on}
use Rattle.mol_resolve_stmt.specs.Made as made
use Rattle.mol_resolve_stmt.specs.Statements.{stmt_reading, node_reading, else_reading, node_of, statement_of, branches_of, else_if_of}
use Rattle.mol_values_types.specs.declared.iblock.IBlock.{IBlock}
use Rattle.mol_values_types.specs.declared.iblock.IElse.{IElse}
use Rattle.mol_values_types.specs.declared.iblock.IElse.TheVariants as elses
use Rattle.mol_values_types.specs.declared.iblock.IForStart.{IForStart}
use Rattle.mol_values_types.specs.declared.iblock.IStmtNode.{IStmtNode}
use Rattle.mol_values_types.specs.declared.iblock.IStmtNode.TheVariants as nodes
use Rattle.mol_values_types.specs.declared.iexpr.IExpr.{IExpr}

abbrev alone : ReadNode → IStmtNode
alone read = read.node

plainly : {A : Type 0} (make : A → IStmtNode) (part : Outcome A)
    → mapped (λ a. spell.plain (make a)) part ≡ mapped spell.plain (mapped alone (mapped (λ a. spell.plain (make a)) part))
plainly make part = sym (twice-mapped spell.plain alone (mapped (λ a. spell.plain (make a)) part)
    ∙ twice-mapped (λ (read : ReadNode). spell.plain read.node) (λ a. spell.plain (make a)) part)

plainly-on : {A : Type 0} (make : A → IStmtNode) (part : ReadOn ℕ A)
    → mapped_on (λ a. spell.plain (make a)) part
    ≡ mapped_on spell.plain (mapped_on alone (mapped_on (λ a. spell.plain (make a)) part))
plainly-on make part = λ i. record { locals = part.locals; outcome = plainly make part.outcome i }

module _ (reader : Reader ℕ MemberKey) where
  -- only an `if` has branches
  abbrev HasNone : StmtNode → Type 0
  HasNone n = ((test : Expr) (block : Block) (rest : Else) → n ≢ node.If test block rest) → (at : ℕ) (locals : Locals ℕ)
      → node_reading reader n at locals ≡ mapped_on spell.plain (node_of reader n at locals)

  abbrev parts : StmtNode-F Else StmtNode Block Stmt
      → StmtNode-F (ReadsTo ℕ IElse) (ℕ → ReadsTo ℕ ReadNode) (ReadsTo ℕ IBlock) (ReadsTo ℕ ReadStatement)
  parts x = map-StmtNode _ _ _ _ _ _ _ _ (else_reading reader) (node_reading reader) (block_reading reader) (stmt_reading reader) x

  by_parts : (x : StmtNode-F Else StmtNode Block Stmt)
      → ((at : ℕ) (locals : Locals ℕ) → node_step reader (parts x) at locals
      ≡ mapped_on spell.plain (mapped_on alone (node_step reader (parts x) at locals)))
      → HasNone (roll-StmtNode x)
  by_parts x same no_if at locals =
      let rolled : node_reading reader (roll-StmtNode x) ≡ node_step reader (parts x) =
      fold-roll-StmtNode _ _ _ _ (spell.else_step reader) (node_step reader) (spell.block_step reader) (spell.stmt_step reader) x
      in
      ap (λ (step : ℕ → ReadsTo ℕ ReadNode). step at locals) rolled ∙ same at locals
      ∙ sym (ap (λ (step : ℕ → ReadsTo ℕ ReadNode). mapped_on spell.plain (mapped_on alone (step at locals))) rolled)

  none_node : (x : StmtNode-F Else StmtNode Block Stmt) → HasNone (roll-StmtNode x)
  none_node (StmtNode-F.StmtNode::If test block rest) = λ no_if at locals. absurd (no_if test block rest (node.rolls-If test block rest))
  none_node (StmtNode-F.StmtNode::Block block) = by_parts (StmtNode-F.StmtNode::Block block)
      (λ at locals. plainly-on (λ block. nodes.Block block) (block_reading reader block locals))
  none_node (StmtNode-F.Let declared) = by_parts (StmtNode-F.Let declared)
      (λ at locals. plainly-on (λ declared. nodes.Let declared) (spell.read_let reader at declared locals))
  none_node (StmtNode-F.Do e) = by_parts (StmtNode-F.Do e)
      (λ at locals. ap (declaring_none locals) (plainly (λ e. nodes.Do e) (read_expr reader locals e)))
  none_node (StmtNode-F.While test block) = by_parts (StmtNode-F.While test block)
      (λ at locals. plainly-on (λ (parts : IExpr × IBlock). nodes.While parts.0 parts.1)
      (then_next (declaring_none locals (read_expr reader locals test)) (block_reading reader block)))
  none_node (StmtNode-F.For start test steps block) = by_parts (StmtNode-F.For start test steps block)
      (λ at locals. ap (in_block locals) (plainly-on (λ (parts : (IForStart × (Option IExpr × List IExpr)) × IBlock).
      nodes.For parts.0.0 parts.0.1.0 parts.0.1.1 parts.1) (then_next (then_next (spell.read_start reader at start locals)
      (λ inside. declaring_none inside (spell.read_header reader inside test steps))) (block_reading reader block))))
  none_node (StmtNode-F.Each is_final type name e block) = by_parts (StmtNode-F.Each is_final type name e block)
      (λ at locals. plainly-on (λ (parts : (ReadType ℕ × IExpr) × IBlock). nodes.Each is_final parts.0.0.tree name parts.0.1 parts.1)
      (then_next (declaring_none locals (both (read_type reader at type) (read_expr reader locals e)))
      (spell.read_each reader at (seen_type reader type) name (block_reading reader block))))
  none_node (StmtNode-F.Return e) = by_parts (StmtNode-F.Return e)
      (λ at locals. ap (declaring_none locals) (plainly (λ e. nodes.Return e) (spell.read_maybe reader locals e)))
  none_node (StmtNode-F.Throw e) = by_parts (StmtNode-F.Throw e)
      (λ at locals. ap (declaring_none locals) (plainly (λ e. nodes.Throw e) (read_expr reader locals e)))
  none_node StmtNode-F.Break = by_parts StmtNode-F.Break (λ at locals. refl)
  none_node StmtNode-F.Continue = by_parts StmtNode-F.Continue (λ at locals. refl)
  none_node StmtNode-F.Empty = by_parts StmtNode-F.Empty (λ at locals. refl)
  none_node (StmtNode-F.SuperInit args) = by_parts (StmtNode-F.SuperInit args)
      (λ at locals. ap (declaring_none locals) (plainly (λ made. made) (beside (spell.read_exprs reader locals args)
      (λ values. spell.super_if reader reader.in_constructor at values (super_constructor reader.view reader.class (length args))))))

  has_none : (s : Stmt) → HasNone s.node
  has_none = ind-Stmt (λ _. ⊤) HasNone (λ _. ⊤) (λ s. HasNone s.node) (λ x y is. tt) (λ x y is. none_node x) (λ x y is. tt)
      (λ x y is. subst (λ (z : Stmt-F Else StmtNode Block Stmt). HasNone z.node) is y.node.1)

  by_else : (s : Stmt) (locals : Locals ℕ)
      → else_if_of reader s locals
      ≡ mapped_on (λ (read : ReadNode). spell.else_of reader (spell.statement_of s.notes read)) (node_reading reader s.node s.at locals)
  by_else s locals =
      ap (λ (read : ReadsTo ℕ ReadStatement). mapped_on (spell.else_of reader) (read locals))
      (fold-stmt (statement reader) (node_step reader) s.notes s.at s.node)
      ∙ twice-on (spell.else_of reader) (spell.statement_of s.notes) (node_reading reader s.node s.at locals)

  pub else_other : (s : Stmt) (locals : Locals ℕ) → ((test : Expr) (block : Block) (rest : Else) → s.node ≢ node.If test block rest)
      → else_if_of reader s locals ≡ mapped_on made.else_block (statement_of reader s locals)
  else_other s locals no_if =
      let one : ReadOn ℕ IStmtNode = node_of reader s.node s.at locals in
      by_else s locals
      ∙ ap (mapped_on (λ (read : ReadNode). spell.else_of reader (spell.statement_of s.notes read))) (has_none s no_if s.at locals)
      ∙ twice-on (λ (read : ReadNode). spell.else_of reader (spell.statement_of s.notes read)) spell.plain one
      ∙ sym (twice-on made.else_block (made.statement s.notes) one)
      ∙ sym (ap (mapped_on made.else_block) (at-statement reader locals s))

  pub else_branches : (s : Stmt) (locals : Locals ℕ) (test : Expr) (block : Block) (rest : Else) → s.node ≡ node.If test block rest
      → else_if_of reader s locals ≡ mapped_on made.else_if (branches_of reader test block rest locals)
  else_branches s locals test block rest is =
      let parts = then_next (then_next (declaring_none locals (read_expr reader locals test)) (block_reading reader block))
      (else_reading reader rest)
      in
      by_else s locals
      ∙ ap (λ (step : ℕ → ReadsTo ℕ ReadNode).
      mapped_on (λ (read : ReadNode). spell.else_of reader (spell.statement_of s.notes read)) (step s.at locals))
      (ap (node_reading reader) is ∙ fold-node-If (statement reader) (node_step reader) test block rest)
      ∙ twice-on (λ (read : ReadNode). spell.else_of reader (spell.statement_of s.notes read))
      (λ parts. spell.branching (made.branches parts)) parts
      ∙ sym (twice-on made.else_if made.branches parts)

  -- # What follows `else`

  pub no_else : (locals : Locals ℕ) (rest : Else) → rest ≡ otherwise.None
      → else_reading reader rest locals ≡ declaring_none locals (fine elses.None)
  no_else locals rest is =
      ap (λ rest. else_reading reader rest locals) is
      ∙ ap (λ (read : ReadsTo ℕ IElse). read locals) (fold-no-else (statement reader) (node_step reader))

  pub block_else : (locals : Locals ℕ) (rest : Else) (block : Block) → rest ≡ otherwise.Block block
      → else_reading reader rest locals ≡ mapped_on (λ block. elses.Block block) (block_reading reader block locals)
  block_else locals rest block is =
      ap (λ rest. else_reading reader rest locals) is
      ∙ ap (λ (read : ReadsTo ℕ IElse). read locals) (fold-else-block (statement reader) (node_step reader) block)

  -- the statement may be found as another value
  pub if_else : (locals : Locals ℕ) (rest : Else) (s found : Stmt) → rest ≡ otherwise.If s → found ≡ s
      → else_reading reader rest locals ≡ else_if_of reader found locals
  if_else locals rest s found is same =
      ap (λ rest. else_reading reader rest locals) is
      ∙ ap (λ (read : ReadsTo ℕ IElse). read locals) (fold-else-if (statement reader) (node_step reader) s)
      ∙ ap (λ s. else_if_of reader s locals) (sym same)
