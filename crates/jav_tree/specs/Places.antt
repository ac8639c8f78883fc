-- A tree with 0 for every place. Two trees are the same where these are equal.
use Rattle.std.specs.Prelude.{map, option_map, ◌≡◌}
use Rattle.jav_tree.specs.declared.expr.Expr.{Expr, fold-Expr}
use Rattle.jav_tree.specs.declared.expr.ExprNode.{ExprNode, fold-ExprNode}
use Rattle.jav_tree.specs.declared.expr.ExprNode.TheVariants.{Lit, This, Name, Dot, Call, SuperCall, New, NewArray, ArrayLit, Braces, Index, Unary, Post, Binary, Assign, Cond, Cast, InstanceOf, Paren}
use Rattle.jav_tree.specs.declared.expr.ExprNode.TheOpen.{ExprNode-F, Expr-F}
use Rattle.jav_tree.specs.declared.stmt.Declarator.{Declarator}
use Rattle.jav_tree.specs.declared.stmt.Let.{Let}
use Rattle.jav_tree.specs.declared.stmt.ForStart.{ForStart}
use Rattle.jav_tree.specs.declared.stmt.ForStart.TheVariants as for_start
use Rattle.jav_tree.specs.declared.stmt.Else.{Else, fold-Else}
use Rattle.jav_tree.specs.declared.stmt.Else.TheVariants as otherwise
use Rattle.jav_tree.specs.declared.stmt.StmtNode.{StmtNode, fold-StmtNode}
use Rattle.jav_tree.specs.declared.stmt.StmtNode.TheVariants as node
use Rattle.jav_tree.specs.declared.stmt.Block.{Block, fold-Block}
use Rattle.jav_tree.specs.declared.stmt.Stmt.{Stmt, fold-Stmt}
use Rattle.jav_tree.specs.declared.stmt.Else.TheOpen.{Else-F, StmtNode-F, Block-F, Stmt-F}
use Rattle.jav_tree.specs.Blocks.{block_of}
use Rattle.jav_tree.specs.declared.unit.ClassDecl.{ClassDecl}
use Rattle.jav_tree.specs.declared.unit.Ctor.{Ctor}
use Rattle.jav_tree.specs.declared.unit.Field.{Field}
use Rattle.jav_tree.specs.declared.unit.Member.{Member}
use Rattle.jav_tree.specs.declared.unit.Member.TheVariants as member
use Rattle.jav_tree.specs.declared.unit.Method.{Method}
use Rattle.jav_tree.specs.declared.unit.Unit.{Unit as Source}

abbrev pub expr_node_step : ExprNode-F ExprNode Expr → ExprNode
expr_node_step (ExprNode-F.Lit text) = Lit text
expr_node_step ExprNode-F.This = This
expr_node_step (ExprNode-F.Name name) = Name name
expr_node_step (ExprNode-F.Dot e name) = Dot e name
expr_node_step (ExprNode-F.Call on name args) = Call on name args
expr_node_step (ExprNode-F.SuperCall name args) = SuperCall name args
expr_node_step (ExprNode-F.New ty args) = New ty args
expr_node_step (ExprNode-F.NewArray ty sizes open_pairs) = NewArray ty sizes open_pairs
expr_node_step (ExprNode-F.ArrayLit ty items) = ArrayLit ty items
expr_node_step (ExprNode-F.Braces items) = Braces items
expr_node_step (ExprNode-F.Index e i) = Index e i
expr_node_step (ExprNode-F.Unary op e) = Unary op e
expr_node_step (ExprNode-F.Post e op) = Post e op
expr_node_step (ExprNode-F.Binary a op b) = Binary a op b
expr_node_step (ExprNode-F.Assign a op b) = Assign a op b
expr_node_step (ExprNode-F.Cond test a b) = Cond test a b
expr_node_step (ExprNode-F.Cast ty e) = Cast ty e
expr_node_step (ExprNode-F.InstanceOf e ty) = InstanceOf e ty
expr_node_step (ExprNode-F.Paren inner) = Paren inner

abbrev pub expr_step : Expr-F ExprNode Expr → Expr
expr_step e = record { at = 0; node = e.node }

abbrev pub unplaced_expr_node : ExprNode → ExprNode
unplaced_expr_node = fold-ExprNode ExprNode Expr expr_node_step expr_step

abbrev pub unplaced_expr : Expr → Expr
unplaced_expr = fold-Expr ExprNode Expr expr_node_step expr_step

abbrev pub unplaced_declarator : Declarator → Declarator
unplaced_declarator d = record { name = d.name; init = option_map unplaced_expr d.init }

abbrev pub unplaced_let : Let → Let
unplaced_let l = record { is_final = l.is_final; ty = l.ty; names = map unplaced_declarator l.names }

abbrev pub unplaced_start : ForStart → ForStart
unplaced_start for_start.None = for_start.None
unplaced_start (for_start.Let l) = for_start.Let (unplaced_let l)
unplaced_start (for_start.Do es) = for_start.Do (map unplaced_expr es)

abbrev pub else_step : Else-F Else StmtNode Block Stmt → Else
else_step Else-F.None = otherwise.None
else_step (Else-F.Else::Block b) = otherwise.Block b
else_step (Else-F.Else::If s) = otherwise.If s

abbrev pub stmt_node_step : StmtNode-F Else StmtNode Block Stmt → StmtNode
stmt_node_step (StmtNode-F.StmtNode::Block b) = node.Block b
stmt_node_step (StmtNode-F.Let l) = node.Let (unplaced_let l)
stmt_node_step (StmtNode-F.Do e) = node.Do (unplaced_expr e)
stmt_node_step (StmtNode-F.StmtNode::If e b other) = node.If (unplaced_expr e) b other
stmt_node_step (StmtNode-F.While e b) = node.While (unplaced_expr e) b
stmt_node_step (StmtNode-F.For start test steps b) = node.For (unplaced_start start) (option_map unplaced_expr test) (map unplaced_expr steps) b
stmt_node_step (StmtNode-F.Each is_final ty name e b) = node.Each is_final ty name (unplaced_expr e) b
stmt_node_step (StmtNode-F.Return e) = node.Return (option_map unplaced_expr e)
stmt_node_step (StmtNode-F.Throw e) = node.Throw (unplaced_expr e)
stmt_node_step StmtNode-F.Break = node.Break
stmt_node_step StmtNode-F.Continue = node.Continue
stmt_node_step StmtNode-F.Empty = node.Empty
stmt_node_step (StmtNode-F.SuperInit args) = node.SuperInit (map unplaced_expr args)

abbrev pub block_step : Block-F Else StmtNode Block Stmt → Block
block_step b = block_of b.items b.tail

abbrev pub stmt_step : Stmt-F Else StmtNode Block Stmt → Stmt
stmt_step s = record { notes = s.notes; at = 0; node = s.node }

abbrev pub unplaced_else : Else → Else
unplaced_else = fold-Else Else StmtNode Block Stmt else_step stmt_node_step block_step stmt_step

abbrev pub unplaced_stmt_node : StmtNode → StmtNode
unplaced_stmt_node = fold-StmtNode Else StmtNode Block Stmt else_step stmt_node_step block_step stmt_step

abbrev pub unplaced_block : Block → Block
unplaced_block = fold-Block Else StmtNode Block Stmt else_step stmt_node_step block_step stmt_step

abbrev pub unplaced_stmt : Stmt → Stmt
unplaced_stmt = fold-Stmt Else StmtNode Block Stmt else_step stmt_node_step block_step stmt_step

abbrev pub unplaced_field : Field → Field
unplaced_field f = record f { at = 0; init = option_map unplaced_expr f.init }

abbrev pub unplaced_method : Method → Method
unplaced_method m = record m { at = 0; block = option_map unplaced_block m.block }

abbrev pub unplaced_ctor : Ctor → Ctor
unplaced_ctor c = record c { at = 0; block = unplaced_block c.block }

abbrev pub unplaced_member : Member → Member
unplaced_member (member.Field f) = member.Field (unplaced_field f)
unplaced_member (member.Method m) = member.Method (unplaced_method m)
unplaced_member (member.Ctor c) = member.Ctor (unplaced_ctor c)

abbrev pub unplaced_class : ClassDecl → ClassDecl
unplaced_class c = record c { members = map unplaced_member c.members }

abbrev pub unplaced_unit : Source → Source
unplaced_unit u = record u { class = unplaced_class u.class }

-- Two trees are the same where they are equal but for places.
abbrev pub SameExpr : Expr → Expr → Type 0
SameExpr a b = unplaced_expr a ≡ unplaced_expr b

abbrev pub SameBlock : Block → Block → Type 0
SameBlock a b = unplaced_block a ≡ unplaced_block b

abbrev pub SameUnit : Source → Source → Type 0
SameUnit a b = unplaced_unit a ≡ unplaced_unit b
