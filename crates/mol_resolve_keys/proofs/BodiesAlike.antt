-- Readers that are alike read statements, bodies and first values alike.
use Rattle.std.proofs.Common.{◌≡◌, ℕ, List, [], ◌∷◌, map, length, Option, Some, None, option_map, refl, sym, ◌∙◌, ap, subst}
use Rattle.std.specs.Option.{option_map_or}
use Rattle.mol_base.specs.declared.ident.Id.{Id}
use Rattle.jav_tree.proofs.StatementFolds.{folded_else, folded_node, folded_block, folded_stmt, fold-node-Block, fold-node-Let, fold-node-Do, fold-node-If, fold-node-While, fold-node-For, fold-node-Each, fold-node-Return, fold-node-Throw, fold-node-Break, fold-node-Continue, fold-node-Empty, fold-node-SuperInit, fold-no-else, fold-else-block, fold-else-if, fold-block, fold-stmt}
use Rattle.jav_tree.specs.Blocks as java
use Rattle.jav_tree.specs.declared.expr.Expr.{Expr}
use Rattle.jav_tree.specs.declared.stmt.Block.{Block}
use Rattle.jav_tree.specs.declared.stmt.Else.{Else}
use Rattle.jav_tree.specs.declared.stmt.Else.TheFolds.{map-Else, map-StmtNode, ind-Block}
use Rattle.jav_tree.specs.declared.stmt.Else.TheOpen.{Else-F, StmtNode-F, Block-F, Stmt-F}
use Rattle.jav_tree.specs.declared.stmt.Else.TheVariants as otherwise
use Rattle.jav_tree.specs.declared.stmt.Else.TheViews.{roll-Else, roll-StmtNode, roll-Block, roll-Stmt}
use Rattle.jav_tree.specs.declared.stmt.Stmt.{Stmt}
use Rattle.jav_tree.specs.declared.stmt.StmtNode.{StmtNode}
use Rattle.jav_tree.specs.declared.stmt.StmtNode.TheVariants as stmt
use Rattle.jav_names_laws.specs.Keys.{Keys}
use Rattle.mol_resolve_keys.specs.Alike.{locals_as, ReadersAlike}
use Rattle.mol_resolve_rules.specs.Locals.{Locals, no_locals}
use Rattle.mol_resolve_rules.specs.Outcomes.{fine, mapped, beside, put_first}
use Rattle.mol_resolve_rules.specs.Readers.{Reader}
use Rattle.mol_resolve_rules.specs.ReadStatements as statements
use Rattle.mol_resolve_rules.specs.ReadStatements.{ReadsTo, declaring_none, each, ReadNode, ReadStatement, plain, statement_of, branching, read_exprs, read_header, else_of, super_if, block_reading, read_body}
use Rattle.mol_resolve_rules.specs.ReadTrees.{read_expr}
use Rattle.mol_resolve_rules.specs.ReadTypes.{ReadType, seen_type}
use Rattle.mol_resolve_rules.proofs.ReadEquations.{statement}
use Rattle.jav_names.specs.DottedNames.{Name}
use Rattle.jav_names.specs.LookUps.{super_constructor}
use Rattle.jav_names.specs.Views.{ViewType}
use Rattle.mol_values_types.specs.Blocks.{block_of, branch_of}
use Rattle.mol_values_types.specs.Renamed.{rename_expr, rename_let, rename_start, rename_else, rename_node, rename_block, rename_if, rename_statement, rename_body}
use Rattle.mol_values_types.specs.declared.iblock.IBlock.{IBlock}
use Rattle.mol_values_types.specs.declared.iblock.IElse.{IElse}
use Rattle.mol_values_types.specs.declared.iblock.IElse.TheVariants as elses
use Rattle.mol_values_types.specs.declared.iblock.IForStart.{IForStart}
use Rattle.mol_values_types.specs.declared.iblock.IIf.{IIf}
use Rattle.mol_values_types.specs.declared.iblock.ILet.{ILet}
use Rattle.mol_values_types.specs.declared.iblock.IStmt.{IStmt}
use Rattle.mol_values_types.specs.declared.iblock.IStmtNode.{IStmtNode}
use Rattle.mol_values_types.specs.declared.iblock.IStmtNode.TheVariants as nodes
use Rattle.mol_values_types.specs.declared.iexpr.IExpr.{IExpr}
use Rattle.mol_resolve_keys.proofs.ExpressionsAlike.{expression-alike}
use Rattle.mol_resolve_keys.proofs.OutcomesAlike.{Made, made-outcome, Both, alike-fine, alike-mapped, alike-beside, alike-both}
use Rattle.mol_resolve_keys.proofs.RenamedStatements as renamed
use Rattle.mol_resolve_keys.proofs.StatementsAlike.{OnAlike, ToAlike, on-none, on-block, on-mapped, on-then, maybe-alike, exprs-alike, let-alike, super-alike, start-alike, header-alike, each-alike}
use Rattle.mol_resolve_keys.proofs.TypesAlike.{TypesAlike, seen-alike, type-alike}

module _ {C M D N : Type 0} (keys : Keys C M D N) (name : Id → Id) (first : Reader C M) (second : Reader D N)
    (alike : ReadersAlike keys name first second) where
  abbrev others : Locals C → Locals D
  others = locals_as keys.class

  abbrev first_step : StmtNode-F (ReadsTo C IElse) (ℕ → ReadsTo C ReadNode) (ReadsTo C IBlock) (ReadsTo C ReadStatement) → ℕ
      → ReadsTo C ReadNode
  first_step = statements.node_step first

  abbrev second_step : StmtNode-F (ReadsTo D IElse) (ℕ → ReadsTo D ReadNode) (ReadsTo D IBlock) (ReadsTo D ReadStatement) → ℕ
      → ReadsTo D ReadNode
  second_step = statements.node_step second

  -- ---- what is read

  abbrev Expressions : IExpr → IExpr → Type 0
  Expressions = Made (rename_expr name)

  abbrev Blocks : IBlock → IBlock → Type 0
  Blocks = Made (rename_block name)

  abbrev Elses : IElse → IElse → Type 0
  Elses = Made (rename_else name)

  abbrev Types : ReadType C → ReadType D → Type 0
  Types = TypesAlike keys name first second alike

  abbrev Starts : IForStart → IForStart → Type 0
  Starts = Made (rename_start name)

  abbrev Headers : Option IExpr × List IExpr → Option IExpr × List IExpr → Type 0
  Headers = Both (Made (option_map (rename_expr name))) (Made (map (rename_expr name)))

  -- a statement, and its branches
  record Nodes (read other : ReadNode) : Type 0 where
    node : read.node ≡ rename_node name other.node
    branches : read.branches ≡ option_map (rename_if name) other.branches

  record Statements (read other : ReadStatement) : Type 0 where
    statement : read.statement ≡ rename_statement name other.statement
    branches : read.branches ≡ option_map (rename_if name) other.branches

  -- statements in turn, without their branches
  abbrev Items : List ReadStatement → List ReadStatement → Type 0
  Items reads others = map (λ (read : ReadStatement). read.statement) reads
      ≡ map (rename_statement name) (map (λ (read : ReadStatement). read.statement) others)

  plain-alike : (node other : IStmtNode) → node ≡ rename_node name other → Nodes (plain node) (plain other)
  plain-alike node other same = record { node = same; branches = refl }

  statement-alike : (notes : List Name) (read other : ReadNode) → Nodes read other
      → Statements (statement_of notes read) (statement_of notes other)
  statement-alike notes read other same = record {
    statement = (λ i. record { notes = notes; node = same.node i }) ∙ sym (renamed.renamed-statement name notes other.node);
    branches = same.branches;
  }

  branching-alike : (branch other : IIf) → branch ≡ rename_if name other → Nodes (branching branch) (branching other)
  branching-alike branch other same = record {
    node = ap (λ (b : IIf). nodes.If b) same ∙ sym (renamed.renamed-If name other);
    branches = ap (λ (b : IIf). Some b) same;
  }

  block-alike : (items others : List IStmt) (tail : List Name) → items ≡ map (rename_statement name) others
      → block_of items tail ≡ rename_block name (block_of others tail)
  block-alike items others tail same = ap (λ (items : List IStmt). block_of items tail) same ∙ sym (renamed.renamed-block name others tail)

  else-alike : (read other : ReadStatement) → Statements read other → else_of first read ≡ rename_else name (else_of second other)
  else-alike read other same =
      (λ i. option_map_or (λ (branches : IIf). elses.If branches) (same.branches i) (elses.Block (block_of (same.statement i ∷ []) [])))
      ∙ by other.branches where
        by : (o : Option IIf)
            → option_map_or (λ (branches : IIf). elses.If branches) (option_map (rename_if name) o)
            (elses.Block (block_of (rename_statement name other.statement ∷ []) []))
            ≡ rename_else name (option_map_or (λ (branches : IIf). elses.If branches) o (elses.Block (block_of (other.statement ∷ []) [])))
        by None = ap (λ (b : IBlock). elses.Block b) (sym (renamed.renamed-block name (other.statement ∷ []) []))
            ∙ sym (renamed.renamed-else-block name (block_of (other.statement ∷ []) []))
        by (Some branch) = sym (renamed.renamed-else-if name branch)

  -- ---- statements, node by node

  abbrev first_else : Else → ReadsTo C IElse
  first_else = folded_else (statement first) first_step

  abbrev second_else : Else → ReadsTo D IElse
  second_else = folded_else (statement second) second_step

  abbrev first_block : Block → ReadsTo C IBlock
  first_block = folded_block (statement first) first_step

  abbrev second_block : Block → ReadsTo D IBlock
  second_block = folded_block (statement second) second_step

  abbrev first_stmt : Stmt → ReadsTo C ReadStatement
  first_stmt = folded_stmt (statement first) first_step

  abbrev second_stmt : Stmt → ReadsTo D ReadStatement
  second_stmt = folded_stmt (statement second) second_step

  abbrev ElseAlike : Else → Type 0
  ElseAlike e = ToAlike keys.class Elses (first_else e) (second_else e)

  abbrev NodeAlike : StmtNode → Type 0
  NodeAlike n = (at : ℕ) → ToAlike keys.class Nodes (folded_node (statement first) first_step n at)
      (folded_node (statement second) second_step n at)

  abbrev BlockAlike : Block → Type 0
  BlockAlike b = ToAlike keys.class Blocks (first_block b) (second_block b)

  abbrev StmtAlike : Stmt → Type 0
  StmtAlike s = ToAlike keys.class Statements (first_stmt s) (second_stmt s)

  abbrev WithElse : Type 0
  WithElse = (e : Else) × ElseAlike e

  abbrev WithNode : Type 0
  WithNode = (n : StmtNode) × NodeAlike n

  abbrev WithBlock : Type 0
  WithBlock = (b : Block) × BlockAlike b

  abbrev WithStmt : Type 0
  WithStmt = (s : Stmt) × StmtAlike s

  line-alike : (locals : Locals C) (e : Expr) (make : IExpr → IStmtNode)
      → ((e : IExpr) → rename_node name (make e) ≡ make (rename_expr name e))
      → OnAlike keys.class Nodes (declaring_none locals (mapped (λ e. plain (make e)) (read_expr first locals e)))
      (declaring_none (others locals) (mapped (λ e. plain (make e)) (read_expr second (others locals) e)))
  line-alike locals e make is = on-none keys.class Nodes locals _ _ (alike-mapped Expressions Nodes _ _ _ _
      (expression-alike keys name first second alike locals e) (λ a b same. plain-alike _ _ (ap make same ∙ sym (is b))))

  test-alike : (locals : Locals C) (test : Expr) → OnAlike keys.class Expressions (declaring_none locals (read_expr first locals test))
      (declaring_none (others locals) (read_expr second (others locals) test))
  test-alike locals test = on-none keys.class Expressions locals _ _ (expression-alike keys name first second alike locals test)

  none-alike : (locals : Locals C) (node : IStmtNode) → rename_node name node ≡ node
      → OnAlike keys.class Nodes (declaring_none locals (fine (plain node))) (declaring_none (others locals) (fine (plain node)))
  none-alike locals node is = on-none keys.class Nodes locals _ _ (alike-fine Nodes _ _ (plain-alike node node (sym is)))

  node : (n : StmtNode) (made : ℕ → ReadsTo C ReadNode) (also : ℕ → ReadsTo D ReadNode)
      → folded_node (statement first) first_step n ≡ made → folded_node (statement second) second_step n ≡ also
      → ((at : ℕ) → ToAlike keys.class Nodes (made at) (also at)) → NodeAlike n
  node n made also is are each at = subst (λ (pair : (ℕ → ReadsTo C ReadNode) × (ℕ → ReadsTo D ReadNode)).
      ToAlike keys.class Nodes (pair.0 at) (pair.1 at)) (λ i. (sym is i, sym are i)) (each at)

  other-made : (e : Else) (made : ReadsTo C IElse) (also : ReadsTo D IElse) → folded_else (statement first) first_step e ≡ made
      → folded_else (statement second) second_step e ≡ also → ToAlike keys.class Elses made also → ElseAlike e
  other-made e made also is are each = subst (λ (pair : ReadsTo C IElse × ReadsTo D IElse). ToAlike keys.class Elses pair.0 pair.1)
      (λ i. (sym is i, sym are i)) each

  node_alike : (y : StmtNode-F WithElse WithNode WithBlock WithStmt)
      → NodeAlike (roll-StmtNode (map-StmtNode _ _ _ _ _ _ _ _ (λ p. p.0) (λ p. p.0) (λ p. p.0) (λ p. p.0) y))
  node_alike (StmtNode-F.StmtNode::Block b) = subst NodeAlike (sym (stmt.rolls-Block b.0))
      (node (stmt.Block b.0) _ _ (fold-node-Block (statement first) first_step b.0) (fold-node-Block (statement second) second_step b.0)
      (λ at locals. on-mapped keys.class Blocks Nodes _ _ _ _ (b.1 locals) (λ read other same. plain-alike _ _
      (ap (λ (b : IBlock). nodes.Block b) same ∙ sym (renamed.renamed-Block name other)))))
  node_alike (StmtNode-F.Let declared) = subst NodeAlike (sym (stmt.rolls-Let declared))
      (node (stmt.Let declared) _ _ (fold-node-Let (statement first) first_step declared)
      (fold-node-Let (statement second) second_step declared)
      (λ at locals. on-mapped keys.class (Made (rename_let name)) Nodes _ _ _ _ (let-alike keys name first second alike at declared locals)
      (λ read other same. plain-alike _ _ (ap (λ (l : ILet). nodes.Let l) same ∙ sym (renamed.renamed-Let name other)))))
  node_alike (StmtNode-F.Do e) = subst NodeAlike (sym (stmt.rolls-Do e))
      (node (stmt.Do e) _ _ (fold-node-Do (statement first) first_step e) (fold-node-Do (statement second) second_step e)
      (λ at locals. line-alike locals e (λ e. nodes.Do e) (renamed.renamed-Do name)))
  node_alike (StmtNode-F.StmtNode::If test b rest) = subst NodeAlike (sym (stmt.rolls-If test b.0 rest.0))
      (node (stmt.If test b.0 rest.0) _ _ (fold-node-If (statement first) first_step test b.0 rest.0)
      (fold-node-If (statement second) second_step test b.0 rest.0)
      (λ at locals. on-mapped keys.class (Both (Both Expressions Blocks) Elses) Nodes _ _ _ _
      (on-then keys.class (Both Expressions Blocks) Elses _ _ (first_else rest.0) (second_else rest.0)
      (on-then keys.class Expressions Blocks _ _ (first_block b.0) (second_block b.0) (test-alike locals test) b.1) rest.1)
      (λ parts other same. branching-alike _ _ ((λ i. branch_of (same.0.0 i) (same.0.1 i) (same.1 i))
      ∙ sym (renamed.renamed-branch name other.0.0 other.0.1 other.1)))))
  node_alike (StmtNode-F.While test b) = subst NodeAlike (sym (stmt.rolls-While test b.0))
      (node (stmt.While test b.0) _ _ (fold-node-While (statement first) first_step test b.0)
      (fold-node-While (statement second) second_step test b.0)
      (λ at locals. on-mapped keys.class (Both Expressions Blocks) Nodes _ _ _ _
      (on-then keys.class Expressions Blocks _ _ (first_block b.0) (second_block b.0) (test-alike locals test) b.1)
      (λ parts other same. plain-alike _ _ ((λ i. nodes.While (same.0 i) (same.1 i)) ∙ sym (renamed.renamed-While name other.0 other.1)))))
  node_alike (StmtNode-F.For start test steps b) = subst NodeAlike (sym (stmt.rolls-For start test steps b.0))
      (node (stmt.For start test steps b.0) _ _ (fold-node-For (statement first) first_step start test steps b.0)
      (fold-node-For (statement second) second_step start test steps b.0)
      (λ at locals. on-block keys.class Nodes locals _ _
      (on-mapped keys.class (Both (Both Starts Headers) Blocks) Nodes _ _ _ _
      (on-then keys.class (Both Starts Headers) Blocks _ _ (first_block b.0) (second_block b.0)
      (on-then keys.class Starts Headers _ _ (λ inside. declaring_none inside (read_header first inside test steps))
      (λ inside. declaring_none inside (read_header second inside test steps))
      (start-alike keys name first second alike at start locals)
      (λ inside. on-none keys.class Headers inside _ _ (header-alike keys name first second alike test steps inside))) b.1)
      (λ parts other same. plain-alike _ _
      ((λ i. nodes.For (same.0.0 i) (same.0.1.0 i) (same.0.1.1 i) (same.1 i))
      ∙ sym (renamed.renamed-For name other.0.0 other.0.1.0 other.0.1.1 other.1))))))
  node_alike (StmtNode-F.Each is_final type text e b) = subst NodeAlike (sym (stmt.rolls-Each is_final type text e b.0))
      (node (stmt.Each is_final type text e b.0) _ _ (fold-node-Each (statement first) first_step is_final type text e b.0)
      (fold-node-Each (statement second) second_step is_final type text e b.0)
      (λ at locals. on-mapped keys.class (Both (Both Types Expressions) Blocks) Nodes _ _ _ _
      (on-then keys.class (Both Types Expressions) Blocks _ _
      (statements.read_each first at (seen_type first type) text (first_block b.0))
      (statements.read_each second at (seen_type second type) text (second_block b.0))
      (on-none keys.class (Both Types Expressions) locals _ _ (alike-both Types Expressions _ _ _ _
      (type-alike keys name first second alike at type) (expression-alike keys name first second alike locals e)))
      (subst (λ (t : ViewType D). ToAlike keys.class Blocks
      (statements.read_each first at (seen_type first type) text (first_block b.0))
      (statements.read_each second at t text (second_block b.0)))
      (seen-alike keys name first second alike type)
      (each-alike keys name first second alike at (seen_type first type) text (first_block b.0) (second_block b.0) b.1)))
      (λ parts other same. plain-alike _ _
      ((λ i. nodes.Each is_final (same.0.0.tree i) text (same.0.1 i) (same.1 i))
      ∙ sym (renamed.renamed-Each name is_final other.0.0.tree text other.0.1 other.1)))))
  node_alike (StmtNode-F.Return e) = subst NodeAlike (sym (stmt.rolls-Return e))
      (node (stmt.Return e) _ _ (fold-node-Return (statement first) first_step e) (fold-node-Return (statement second) second_step e)
      (λ at locals. on-none keys.class Nodes locals _ _ (alike-mapped (Made (option_map (rename_expr name))) Nodes _ _ _ _
      (maybe-alike keys name first second alike locals e)
      (λ read other same. plain-alike _ _ (ap (λ (e : Option IExpr). nodes.Return e) same ∙ sym (renamed.renamed-Return name other))))))
  node_alike (StmtNode-F.Throw e) = subst NodeAlike (sym (stmt.rolls-Throw e))
      (node (stmt.Throw e) _ _ (fold-node-Throw (statement first) first_step e) (fold-node-Throw (statement second) second_step e)
      (λ at locals. line-alike locals e (λ e. nodes.Throw e) (renamed.renamed-Throw name)))
  node_alike StmtNode-F.Break = subst NodeAlike (sym stmt.rolls-Break)
      (node stmt.Break _ _ (fold-node-Break (statement first) first_step) (fold-node-Break (statement second) second_step)
      (λ at locals. none-alike locals nodes.Break (renamed.renamed-Break name)))
  node_alike StmtNode-F.Continue = subst NodeAlike (sym stmt.rolls-Continue)
      (node stmt.Continue _ _ (fold-node-Continue (statement first) first_step) (fold-node-Continue (statement second) second_step)
      (λ at locals. none-alike locals nodes.Continue (renamed.renamed-Continue name)))
  node_alike StmtNode-F.Empty = subst NodeAlike (sym stmt.rolls-Empty)
      (node stmt.Empty _ _ (fold-node-Empty (statement first) first_step) (fold-node-Empty (statement second) second_step)
      (λ at locals. none-alike locals nodes.Empty (renamed.renamed-Empty name)))
  node_alike (StmtNode-F.SuperInit args) = subst NodeAlike (sym (stmt.rolls-SuperInit args))
      (node (stmt.SuperInit args) _ _ (fold-node-SuperInit (statement first) first_step args)
      (fold-node-SuperInit (statement second) second_step args)
      (λ at locals. on-none keys.class Nodes locals _ _ (alike-mapped (Made (rename_node name)) Nodes plain plain
      (beside (read_exprs first locals args)
      (λ values. super_if first first.in_constructor at values (super_constructor first.view first.class (length args))))
      (beside (read_exprs second (others locals) args)
      (λ values. super_if second second.in_constructor at values (super_constructor second.view second.class (length args))))
      (alike-beside (Made (map (rename_expr name))) (Made (rename_node name))
      (λ values. super_if first first.in_constructor at values (super_constructor first.view first.class (length args)))
      (λ values. super_if second second.in_constructor at values (super_constructor second.view second.class (length args)))
      (read_exprs first locals args) (read_exprs second (others locals) args) (exprs-alike keys name first second alike locals args)
      (λ values trees same. super-alike keys name first second alike at values trees same (length args)))
      (λ read other same. plain-alike read other same))))

  -- ---- blocks

  else_alike : (y : Else-F WithElse WithNode WithBlock WithStmt)
      → ElseAlike (roll-Else (map-Else _ _ _ _ _ _ _ _ (λ p. p.0) (λ p. p.0) (λ p. p.0) (λ p. p.0) y))
  else_alike Else-F.None = subst ElseAlike (sym otherwise.rolls-None) (other-made otherwise.None _ _
      (fold-no-else (statement first) first_step) (fold-no-else (statement second) second_step)
      (λ locals. on-none keys.class Elses locals _ _ (alike-fine Elses elses.None elses.None (sym (renamed.renamed-no-else name)))))
  else_alike (Else-F.Else::Block b) = subst ElseAlike (sym (otherwise.rolls-Block b.0)) (other-made (otherwise.Block b.0) _ _
      (fold-else-block (statement first) first_step b.0) (fold-else-block (statement second) second_step b.0)
      (λ locals. on-mapped keys.class Blocks Elses _ _ _ _ (b.1 locals)
      (λ read other same. ap (λ (b : IBlock). elses.Block b) same ∙ sym (renamed.renamed-else-block name other))))
  else_alike (Else-F.Else::If s) = subst ElseAlike (sym (otherwise.rolls-If s.0)) (other-made (otherwise.If s.0) _ _
      (fold-else-if (statement first) first_step s.0) (fold-else-if (statement second) second_step s.0)
      (λ locals. on-mapped keys.class Statements Elses _ _ _ _ (s.1 locals) else-alike))

  items_alike : (ss : List WithStmt) → ToAlike keys.class Items
      (each (map first_stmt (map (λ p. p.0) ss))) (each (map second_stmt (map (λ p. p.0) ss)))
  items_alike [] locals = on-none keys.class Items locals _ _ (alike-fine Items [] [] refl)
  items_alike (s ∷ ss) locals = on-mapped keys.class (Both Statements Items) Items put_first put_first _ _
      (on-then keys.class Statements Items (first_stmt s.0 locals) (second_stmt s.0 (others locals))
      (each (map first_stmt (map (λ p. p.0) ss))) (each (map second_stmt (map (λ p. p.0) ss))) (s.1 locals) (items_alike ss))
      (λ pair other same. λ i. same.0.statement i ∷ same.1 i)

  block_alike : (y : Block-F WithElse WithNode WithBlock WithStmt) → BlockAlike (java.block_of (map (λ p. p.0) y.items) y.tail)
  block_alike y = subst (λ (pair : ReadsTo C IBlock × ReadsTo D IBlock). ToAlike keys.class Blocks pair.0 pair.1)
      (λ i. (
        sym (fold-block (statement first) first_step (map (λ p. p.0) y.items) y.tail) i,
        sym (fold-block (statement second) second_step (map (λ p. p.0) y.items) y.tail) i,
      ))
      (λ locals. on-block keys.class Blocks locals _ _ (on-mapped keys.class Items Blocks _ _ _ _ (items_alike y.items locals)
      (λ read other same. block-alike _ _ y.tail same)))

  stmt_alike : (y : Stmt-F WithElse WithNode WithBlock WithStmt) → StmtAlike (record { notes = y.notes; at = y.at; node = y.node.0 })
  stmt_alike y = subst (λ (pair : ReadsTo C ReadStatement × ReadsTo D ReadStatement). ToAlike keys.class Statements pair.0 pair.1)
      (λ i. (
        sym (fold-stmt (statement first) first_step y.notes y.at y.node.0) i,
        sym (fold-stmt (statement second) second_step y.notes y.at y.node.0) i,
      ))
      (λ locals. on-mapped keys.class Nodes Statements _ _ _ _ (y.node.1 y.at locals) (statement-alike y.notes))

  pub blocks-alike : (b : Block) → ToAlike keys.class (Made (rename_block name)) (block_reading first b) (block_reading second b)
  blocks-alike = ind-Block ElseAlike NodeAlike BlockAlike StmtAlike
      (λ x y is. subst (λ z. ElseAlike (roll-Else z)) is (else_alike y))
      (λ x y is. subst (λ z. NodeAlike (roll-StmtNode z)) is (node_alike y))
      (λ x y is. subst (λ z. BlockAlike (roll-Block z)) is (block_alike y))
      (λ x y is. subst (λ z. StmtAlike (roll-Stmt z)) is (stmt_alike y))

  -- ---- what members hold

  pub body-alike : (b : Block) → read_body first b ≡ mapped (rename_body name) (read_body second b)
  body-alike b = made-outcome (rename_body name) (read_body first b) (read_body second b)
      (alike-mapped Blocks (Made (rename_body name)) _ _ _ _ (blocks-alike b no_locals).outcome
      (λ block other same. λ i. record { block = same i }))
