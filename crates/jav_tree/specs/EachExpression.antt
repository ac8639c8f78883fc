-- A statement, a block, a member or a source file with each expression in it changed in one way. The expressions that an
-- expression holds are a matter of that change.
use Rattle.std.specs.Prelude.{map, option_map}
use Rattle.jav_tree.specs.declared.expr.Expr.{Expr}
use Rattle.jav_tree.specs.declared.stmt.Declarator.{Declarator}
use Rattle.jav_tree.specs.declared.stmt.Let.{Let}
use Rattle.jav_tree.specs.declared.stmt.ForStart.{ForStart}
use Rattle.jav_tree.specs.declared.stmt.ForStart.TheVariants as for_start
use Rattle.jav_tree.specs.declared.stmt.Else.{Else, fold-Else}
use Rattle.jav_tree.specs.declared.stmt.Else.TheVariants as otherwise
use Rattle.jav_tree.specs.declared.stmt.StmtNode.{StmtNode, fold-StmtNode}
use Rattle.jav_tree.specs.declared.stmt.StmtNode.TheVariants as node
use Rattle.jav_tree.specs.declared.stmt.Block.{Block, fold-Block}
use Rattle.jav_tree.specs.declared.stmt.Stmt.{Stmt, fold-Stmt}
use Rattle.jav_tree.specs.declared.stmt.Else.TheOpen.{Else-F, StmtNode-F, Block-F, Stmt-F}
use Rattle.jav_tree.specs.Blocks.{block_of}
use Rattle.jav_tree.specs.declared.unit.ClassDecl.{ClassDecl}
use Rattle.jav_tree.specs.declared.unit.Ctor.{Ctor}
use Rattle.jav_tree.specs.declared.unit.Field.{Field}
use Rattle.jav_tree.specs.declared.unit.Member.{Member}
use Rattle.jav_tree.specs.declared.unit.Member.TheVariants as member
use Rattle.jav_tree.specs.declared.unit.Method.{Method}
use Rattle.jav_tree.specs.declared.unit.Unit.{Unit as Source}

abbrev pub map_declarator : (Expr → Expr) → Declarator → Declarator
map_declarator change d = record { name = d.name; init = option_map change d.init }

abbrev pub map_let : (Expr → Expr) → Let → Let
map_let change l = record { is_final = l.is_final; ty = l.ty; names = map (map_declarator change) l.names }

abbrev pub map_start : (Expr → Expr) → ForStart → ForStart
map_start change for_start.None = for_start.None
map_start change (for_start.Let l) = for_start.Let (map_let change l)
map_start change (for_start.Do es) = for_start.Do (map change es)

abbrev pub map_else_step : Else-F Else StmtNode Block Stmt → Else
map_else_step Else-F.None = otherwise.None
map_else_step (Else-F.Else::Block b) = otherwise.Block b
map_else_step (Else-F.Else::If s) = otherwise.If s

abbrev pub map_stmt_node_step : (Expr → Expr) → StmtNode-F Else StmtNode Block Stmt → StmtNode
map_stmt_node_step change (StmtNode-F.StmtNode::Block b) = node.Block b
map_stmt_node_step change (StmtNode-F.Let l) = node.Let (map_let change l)
map_stmt_node_step change (StmtNode-F.Do e) = node.Do (change e)
map_stmt_node_step change (StmtNode-F.StmtNode::If e b other) = node.If (change e) b other
map_stmt_node_step change (StmtNode-F.While e b) = node.While (change e) b
map_stmt_node_step change (StmtNode-F.For start test steps b) = node.For (map_start change start) (option_map change test) (map change steps) b
map_stmt_node_step change (StmtNode-F.Each is_final ty name e b) = node.Each is_final ty name (change e) b
map_stmt_node_step change (StmtNode-F.Return e) = node.Return (option_map change e)
map_stmt_node_step change (StmtNode-F.Throw e) = node.Throw (change e)
map_stmt_node_step change StmtNode-F.Break = node.Break
map_stmt_node_step change StmtNode-F.Continue = node.Continue
map_stmt_node_step change StmtNode-F.Empty = node.Empty
map_stmt_node_step change (StmtNode-F.SuperInit args) = node.SuperInit (map change args)

abbrev pub map_block_step : Block-F Else StmtNode Block Stmt → Block
map_block_step b = block_of b.items b.tail

abbrev pub map_stmt_step : Stmt-F Else StmtNode Block Stmt → Stmt
map_stmt_step s = record { notes = s.notes; at = s.at; node = s.node }

abbrev pub map_else : (Expr → Expr) → Else → Else
map_else change = fold-Else Else StmtNode Block Stmt map_else_step (map_stmt_node_step change) map_block_step map_stmt_step

abbrev pub map_stmt_node : (Expr → Expr) → StmtNode → StmtNode
map_stmt_node change = fold-StmtNode Else StmtNode Block Stmt map_else_step (map_stmt_node_step change) map_block_step map_stmt_step

abbrev pub map_block : (Expr → Expr) → Block → Block
map_block change = fold-Block Else StmtNode Block Stmt map_else_step (map_stmt_node_step change) map_block_step map_stmt_step

abbrev pub map_stmt : (Expr → Expr) → Stmt → Stmt
map_stmt change = fold-Stmt Else StmtNode Block Stmt map_else_step (map_stmt_node_step change) map_block_step map_stmt_step

abbrev pub map_field : (Expr → Expr) → Field → Field
map_field change f = record f { init = option_map change f.init }

abbrev pub map_method : (Expr → Expr) → Method → Method
map_method change m = record m { block = option_map (map_block change) m.block }

abbrev pub map_ctor : (Expr → Expr) → Ctor → Ctor
map_ctor change c = record c { block = map_block change c.block }

abbrev pub map_member : (Expr → Expr) → Member → Member
map_member change (member.Field f) = member.Field (map_field change f)
map_member change (member.Method m) = member.Method (map_method change m)
map_member change (member.Ctor c) = member.Ctor (map_ctor change c)

abbrev pub map_class : (Expr → Expr) → ClassDecl → ClassDecl
map_class change c = record c { members = map (map_member change) c.members }

abbrev pub map_unit : (Expr → Expr) → Source → Source
map_unit change u = record u { class = map_class change u.class }
