-- The text of types, blocks and statements at each variant.
use Rattle.std.proofs.Common.{◌≡◌, ℕ, suc, List, [], ◌++◌, map, codes, Option, Bool, true, false, sym, ap, ◌∙◌}
use Rattle.jav_tree.specs.declared.types.TypeName.{TypeName}
use Rattle.jav_tree.specs.declared.types.TypeName.TheVariants as ty
use Rattle.jav_tree.specs.declared.types.TypeName.TheOpen.{TypeName-F}
use Rattle.jav_tree.specs.declared.types.TypeName.TheFolds.{fold-roll-TypeName}
use Rattle.jav_tree.specs.declared.expr.Expr.{Expr}
use Rattle.jav_tree.specs.declared.stmt.Block.{Block}
use Rattle.jav_tree.specs.declared.stmt.Else.{Else, fold-Else}
use Rattle.jav_tree.specs.declared.stmt.Else.TheVariants as otherwise
use Rattle.jav_tree.specs.declared.stmt.ForStart.{ForStart}
use Rattle.jav_tree.specs.declared.stmt.Let.{Let}
use Rattle.jav_tree.specs.declared.stmt.Stmt.{Stmt}
use Rattle.jav_tree.specs.declared.stmt.StmtNode.TheVariants as node
use Rattle.jav_tree.specs.Blocks.{block_of}
use Rattle.jav_tree.specs.Lines.{line_end, indent, all_of, listed, comment_lines}
use Rattle.jav_tree.specs.TypeText.{type_text, type_text_step}
use Rattle.jav_tree.specs.ExpressionText.{expr_text}
use Rattle.jav_tree.specs.StatementText.{Deep, StmtText, stmt_text, stmt_node_text, block_text, else_text_step, stmt_node_text_step, block_text_step, stmt_text_step, at_depth, spaced_maybe, spaced_list, start_text, let_text, final_text}
use Rattle.jav_tree.proofs.StatementFolds.{StmtFold, fold-node-Block, fold-node-Let, fold-node-Do, fold-node-If, fold-node-While, fold-node-For, fold-node-Each, fold-node-Return, fold-node-Throw, fold-node-Break, fold-node-Continue, fold-node-Empty, fold-node-SuperInit, fold-no-else, fold-else-block, fold-else-if, fold-block, fold-stmt}

pub text-Prim : (name : List ℕ) → type_text (ty.Prim name) ≡ name
text-Prim name = ap type_text (sym (ty.rolls-Prim name)) ∙ fold-roll-TypeName _ type_text_step (TypeName-F.Prim name)

pub text-Named : (name : List ℕ) → type_text (ty.Named name) ≡ name
text-Named name = ap type_text (sym (ty.rolls-Named name)) ∙ fold-roll-TypeName _ type_text_step (TypeName-F.Named name)

pub text-ArrayOf : (item : TypeName) → type_text (ty.ArrayOf item) ≡ type_text item ++ codes "[]"
text-ArrayOf item = ap type_text (sym (ty.rolls-ArrayOf item)) ∙ fold-roll-TypeName _ type_text_step (TypeName-F.ArrayOf item)

pub text-Void : type_text ty.Void ≡ codes "void"
text-Void = ap type_text (sym ty.rolls-Void) ∙ fold-roll-TypeName _ type_text_step TypeName-F.Void

-- the fold that makes texts
abbrev Writing : StmtFold
Writing = record { Other = Deep; Node = Deep; Whole = Deep; Line = StmtText; of_else = else_text_step; of_block = block_text_step; of_stmt = stmt_text_step }

-- what follows a branch
abbrev pub else_text : Else → Deep
else_text = fold-Else Deep Deep Deep StmtText else_text_step stmt_node_text_step block_text_step stmt_text_step

pub text-no-else : (n : ℕ) → else_text otherwise.None n ≡ []
text-no-else n = ap (λ d. d n) (fold-no-else Writing stmt_node_text_step)

pub text-else-block : (b : Block) (n : ℕ) → else_text (otherwise.Block b) n ≡ codes " else " ++ block_text b n
text-else-block b n = ap (λ d. d n) (fold-else-block Writing stmt_node_text_step b)

pub text-else-if : (s : Stmt) (n : ℕ) → else_text (otherwise.If s) n ≡ codes " else " ++ stmt_node_text s.node n
text-else-if s n = ap (λ d. d n) (fold-else-if Writing stmt_node_text_step s) ∙ ap (λ t. codes " else " ++ t.text n) (fold-stmt Writing stmt_node_text_step s.notes s.at s.node)

pub text-Block : (b : Block) (n : ℕ) → stmt_node_text (node.Block b) n ≡ block_text b n
text-Block b n = ap (λ d. d n) (fold-node-Block Writing stmt_node_text_step b)

pub text-Let : (l : Let) (n : ℕ) → stmt_node_text (node.Let l) n ≡ let_text l ++ codes ";"
text-Let l n = ap (λ d. d n) (fold-node-Let Writing stmt_node_text_step l)

pub text-Do : (e : Expr) (n : ℕ) → stmt_node_text (node.Do e) n ≡ expr_text e ++ codes ";"
text-Do e n = ap (λ d. d n) (fold-node-Do Writing stmt_node_text_step e)

pub text-If : (e : Expr) (b : Block) (other : Else) (n : ℕ) → stmt_node_text (node.If e b other) n ≡ codes "if (" ++ expr_text e ++ codes ") " ++ block_text b n ++ else_text other n
text-If e b other n = ap (λ d. d n) (fold-node-If Writing stmt_node_text_step e b other)

pub text-While : (e : Expr) (b : Block) (n : ℕ) → stmt_node_text (node.While e b) n ≡ codes "while (" ++ expr_text e ++ codes ") " ++ block_text b n
text-While e b n = ap (λ d. d n) (fold-node-While Writing stmt_node_text_step e b)

pub text-For : (start : ForStart) (test : Option Expr) (steps : List Expr) (b : Block) (n : ℕ) → stmt_node_text (node.For start test steps b) n ≡ codes "for (" ++ start_text start ++ codes ";" ++ spaced_maybe test ++ codes ";" ++ spaced_list steps ++ codes ") " ++ block_text b n
text-For start test steps b n = ap (λ d. d n) (fold-node-For Writing stmt_node_text_step start test steps b)

pub text-Each : (is_final : Bool) (to : TypeName) (name : List ℕ) (e : Expr) (b : Block) (n : ℕ) → stmt_node_text (node.Each is_final to name e b) n ≡ codes "for (" ++ final_text is_final ++ type_text to ++ codes " " ++ name ++ codes " : " ++ expr_text e ++ codes ") " ++ block_text b n
text-Each is_final to name e b n = ap (λ d. d n) (fold-node-Each Writing stmt_node_text_step is_final to name e b)

pub text-Return : (e : Option Expr) (n : ℕ) → stmt_node_text (node.Return e) n ≡ codes "return" ++ spaced_maybe e ++ codes ";"
text-Return e n = ap (λ d. d n) (fold-node-Return Writing stmt_node_text_step e)

pub text-Throw : (e : Expr) (n : ℕ) → stmt_node_text (node.Throw e) n ≡ codes "throw " ++ expr_text e ++ codes ";"
text-Throw e n = ap (λ d. d n) (fold-node-Throw Writing stmt_node_text_step e)

pub text-Break : (n : ℕ) → stmt_node_text node.Break n ≡ codes "break;"
text-Break n = ap (λ d. d n) (fold-node-Break Writing stmt_node_text_step)

pub text-Continue : (n : ℕ) → stmt_node_text node.Continue n ≡ codes "continue;"
text-Continue n = ap (λ d. d n) (fold-node-Continue Writing stmt_node_text_step)

pub text-Empty : (n : ℕ) → stmt_node_text node.Empty n ≡ codes ";"
text-Empty n = ap (λ d. d n) (fold-node-Empty Writing stmt_node_text_step)

pub text-SuperInit : (args : List Expr) (n : ℕ) → stmt_node_text (node.SuperInit args) n ≡ codes "super(" ++ listed (map expr_text args) ++ codes ");"
text-SuperInit args n = ap (λ d. d n) (fold-node-SuperInit Writing stmt_node_text_step args)

pub text-stmt : (s : Stmt) (n : ℕ) → (stmt_text s).lines n ≡ comment_lines n s.notes ++ indent n ++ stmt_node_text s.node n ++ line_end
text-stmt s n = ap (λ t. t.lines n) (fold-stmt Writing stmt_node_text_step s.notes s.at s.node)

pub text-block : (items : List Stmt) (tail : List (List ℕ)) (n : ℕ) → block_text (block_of items tail) n
    ≡ codes "{" ++ line_end ++ all_of (at_depth (suc n) (map stmt_text items)) ++ comment_lines (suc n) tail ++ indent n ++ codes "}"
text-block items tail n = ap (λ d. d n) (fold-block Writing stmt_node_text_step items tail)
