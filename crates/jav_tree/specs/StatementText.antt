-- How blocks and statements are printed (JLS 14 for their forms).
use Rattle.std.specs.Prelude.{ℕ, suc, List, [], ◌∷◌, ◌++◌, map, codes, Bool, if◌then◌else◌, Option, Some, None}
use Rattle.jav_tree.specs.declared.expr.Expr.{Expr}
use Rattle.jav_tree.specs.declared.stmt.Declarator.{Declarator}
use Rattle.jav_tree.specs.declared.stmt.Let.{Let}
use Rattle.jav_tree.specs.declared.stmt.ForStart.{ForStart}
use Rattle.jav_tree.specs.declared.stmt.ForStart.TheVariants as for_start
use Rattle.jav_tree.specs.declared.stmt.StmtNode.{StmtNode, fold-StmtNode}
use Rattle.jav_tree.specs.declared.stmt.Block.{Block, fold-Block}
use Rattle.jav_tree.specs.declared.stmt.Stmt.{Stmt, fold-Stmt}
use Rattle.jav_tree.specs.declared.stmt.Else.TheOpen.{Else-F, StmtNode-F, Block-F, Stmt-F}
use Rattle.jav_tree.specs.Lines.{line_end, indent, all_of, listed, comment_lines}
use Rattle.jav_tree.specs.ExpressionText.{expr_text}
use Rattle.jav_tree.specs.TypeText.{type_text}

abbrev pub final_text : Bool → List ℕ
final_text is_final = if is_final then codes "final " else []

-- a name, and its first value if it has one
abbrev pub valued_text : List ℕ → Option Expr → List ℕ
valued_text name None = name
valued_text name (Some e) = name ++ codes " = " ++ expr_text e

abbrev pub declarator_text : Declarator → List ℕ
declarator_text d = valued_text d.name d.init

abbrev pub let_text : Let → List ℕ
let_text l = final_text l.is_final ++ type_text l.ty ++ codes " " ++ listed (map declarator_text l.names)

abbrev pub start_text : ForStart → List ℕ
start_text for_start.None = []
start_text (for_start.Let l) = let_text l
start_text (for_start.Do es) = listed (map expr_text es)

-- a space and an expression, or nothing
abbrev pub spaced_maybe : Option Expr → List ℕ
spaced_maybe None = []
spaced_maybe (Some e) = codes " " ++ expr_text e

-- a space and a list of expressions, or nothing
abbrev pub spaced_list : List Expr → List ℕ
spaced_list [] = []
spaced_list (e ∷ es) = codes " " ++ listed (map expr_text (e ∷ es))

-- A text that depends on how deep it stands.
abbrev pub Deep : Type 0
Deep = ℕ → List ℕ

-- a statement: its lines with the comments before it, and its own text alone, without indent and line end
pub record StmtText : Type 0 where
  pub lines : Deep
  pub text : Deep

abbrev pub at_depth : ℕ → List StmtText → List (List ℕ)
at_depth n items = map (λ s. s.lines n) items

-- an opening brace, the statements and the last comments one level deeper, and a closing brace
abbrev pub block_text_step : Block-F Deep Deep Deep StmtText → Deep
block_text_step b n = codes "{" ++ line_end ++ all_of (at_depth (suc n) b.items) ++ comment_lines (suc n) b.tail ++ indent n ++ codes "}"

abbrev pub else_text_step : Else-F Deep Deep Deep StmtText → Deep
else_text_step Else-F.None n = []
else_text_step (Else-F.Else::Block b) n = codes " else " ++ b n
else_text_step (Else-F.Else::If s) n = codes " else " ++ s.text n

abbrev pub stmt_node_text_step : StmtNode-F Deep Deep Deep StmtText → Deep
stmt_node_text_step (StmtNode-F.StmtNode::Block b) n = b n
stmt_node_text_step (StmtNode-F.Let l) n = let_text l ++ codes ";"
stmt_node_text_step (StmtNode-F.Do e) n = expr_text e ++ codes ";"
stmt_node_text_step (StmtNode-F.StmtNode::If e b other) n = codes "if (" ++ expr_text e ++ codes ") " ++ b n ++ other n
stmt_node_text_step (StmtNode-F.While e b) n = codes "while (" ++ expr_text e ++ codes ") " ++ b n
stmt_node_text_step (StmtNode-F.For start test steps b) n =
    codes "for (" ++ start_text start ++ codes ";" ++ spaced_maybe test ++ codes ";" ++ spaced_list steps ++ codes ") " ++ b n
stmt_node_text_step (StmtNode-F.Each is_final to name e b) n =
    codes "for (" ++ final_text is_final ++ type_text to ++ codes " " ++ name ++ codes " : " ++ expr_text e ++ codes ") " ++ b n
stmt_node_text_step (StmtNode-F.Return e) n = codes "return" ++ spaced_maybe e ++ codes ";"
stmt_node_text_step (StmtNode-F.Throw e) n = codes "throw " ++ expr_text e ++ codes ";"
stmt_node_text_step StmtNode-F.Break n = codes "break;"
stmt_node_text_step StmtNode-F.Continue n = codes "continue;"
stmt_node_text_step StmtNode-F.Empty n = codes ";"
stmt_node_text_step (StmtNode-F.SuperInit args) n = codes "super(" ++ listed (map expr_text args) ++ codes ");"

abbrev pub stmt_text_step : Stmt-F Deep Deep Deep StmtText → StmtText
stmt_text_step s = record { lines = λ n. comment_lines n s.notes ++ indent n ++ s.node n ++ line_end; text = s.node }

-- a block whose first brace stands in a line of this depth
abbrev pub block_text : Block → Deep
block_text = fold-Block Deep Deep Deep StmtText else_text_step stmt_node_text_step block_text_step stmt_text_step

abbrev pub stmt_node_text : StmtNode → Deep
stmt_node_text = fold-StmtNode Deep Deep Deep StmtText else_text_step stmt_node_text_step block_text_step stmt_text_step

abbrev pub stmt_text : Stmt → StmtText
stmt_text = fold-Stmt Deep Deep Deep StmtText else_text_step stmt_node_text_step block_text_step stmt_text_step
