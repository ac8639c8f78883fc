-- The limit of number that the grammar keeps bounds the width of each block and statement.
use Rattle.std.proofs.Common.{◌≡◌, ℕ, ◌≤◌, max, Bool, List, [], ◌∷◌, ◌++◌, map, Option, refl, sym, ap, ◌∙◌, arith}
use Rattle.mol_base.specs.Token.{Token}
use Rattle.jav_tree.specs.declared.expr.Expr.{Expr}
use Rattle.jav_tree.specs.declared.stmt.Declarator.{Declarator}
use Rattle.jav_tree.specs.declared.stmt.Let.{Let}
use Rattle.jav_tree.specs.declared.stmt.ForStart.{ForStart}
use Rattle.jav_tree.specs.declared.stmt.Else.{Else}
use Rattle.jav_tree.specs.declared.stmt.Else.TheVariants as otherwise
use Rattle.jav_tree.specs.declared.stmt.StmtNode.{StmtNode}
use Rattle.jav_tree.specs.declared.stmt.Stmt.{Stmt}
use Rattle.jav_tree.specs.Blocks.{block_of}
use Rattle.jav_tree.specs.Height.{tallest}
use Rattle.jav_tree.specs.Statements.{Variable, Variables, Declaration, MaybeExpression, Update, Start, SuperStart, Plain, Choice, Otherwise, Branch, Enclosed, BlockOf, Single, Statements, ConstructorBlock, fronted, tailed, with_front, commented, stmt_at}
use Rattle.jav_tree.specs.Statements as st
use Rattle.jav_tree.specs.Widths.{expr_width, maybe_width, declarator_width, let_width, start_width, block_width, width_else_step, width_stmt_node_step, width_block_step, width_stmt_step}
use Rattle.jav_tree.proofs.StatementFolds.{StmtFold, folded_node, folded_else, folded_stmt, fold-node-Block, fold-node-Let, fold-node-Do, fold-node-If, fold-node-While, fold-node-For, fold-node-Each, fold-node-Return, fold-node-Throw, fold-node-Break, fold-node-Continue, fold-node-Empty, fold-node-SuperInit, fold-no-else, fold-else-block, fold-else-if, fold-block, fold-stmt}
use Rattle.jav_print_laws.proofs.printable_lemmas.Types.{whole_width}
use Rattle.jav_print_laws.proofs.printable_lemmas.Widths.{narrow, max_within, width_of_expression, width_of_arguments, width_of_listed, width_of_init}

-- the fold that counts
abbrev Counting : StmtFold
Counting = record { Other = ℕ; Node = ℕ; Whole = ℕ; Line = ℕ; of_else = width_else_step; of_block = width_block_step; of_stmt = width_stmt_step }

abbrev node_width : StmtNode → ℕ
node_width = folded_node Counting width_stmt_node_step

abbrev else_width : Else → ℕ
else_width = folded_else Counting width_stmt_node_step

abbrev stmt_width : Stmt → ℕ
stmt_width = folded_stmt Counting width_stmt_node_step

-- the greatest width of some statements
abbrev lines_width : List Stmt → ℕ
lines_width items = tallest (map stmt_width items)

width_of_block : (items : List Stmt) (tail : List (List ℕ)) → block_width (block_of items tail) ≡ lines_width items
width_of_block items tail = fold-block Counting width_stmt_node_step items tail

width_of_stmt : (notes : List (List ℕ)) (at : ℕ) (n : StmtNode) → stmt_width (commented notes at n) ≡ node_width n
width_of_stmt notes at n = fold-stmt Counting width_stmt_node_step notes at n

-- comments do not count
width_of_fronted : (comments : List (List ℕ)) (items : List Stmt) → lines_width (fronted comments items) ≡ lines_width items
width_of_fronted comments [] = refl
width_of_fronted comments (s ∷ rest) = ap (λ n. max n (lines_width rest)) (width_of_stmt (comments ++ s.notes) s.at s.node ∙ sym (width_of_stmt s.notes s.at s.node))

pub fronted_within : (limit : ℕ) (comments tail : List (List ℕ)) (items : List Stmt) → lines_width items ≤ limit → block_width (block_of (fronted comments items) tail) ≤ limit
fronted_within limit comments tail items few = narrow _ _ limit (width_of_block (fronted comments items) tail ∙ width_of_fronted comments items) few

block_within : (limit : ℕ) (items : List Stmt) (tail : List (List ℕ)) → lines_width items ≤ limit → block_width (block_of items tail) ≤ limit
block_within limit items tail few = narrow _ _ limit (width_of_block items tail) few

one_within : (limit : ℕ) (notes : List (List ℕ)) (at : ℕ) (n : StmtNode) → node_width n ≤ limit → lines_width (commented notes at n ∷ []) ≤ limit
one_within limit notes at n few = max_within _ 0 limit (narrow _ _ limit (width_of_stmt notes at n) few) (omega arith)

-- # Declarations, and the parts of statements

pub width_of_variable : {limit h : ℕ} {d : ℕ × Declarator} {ts : List Token} → Variable limit h d ts → declarator_width d.1 ≤ limit
width_of_variable (st.alone _) = omega arith
width_of_variable (st.valued _ _ p) = width_of_init p

width_of_variables : {limit h : ℕ} {ds : List (ℕ × Declarator)} {ts : List Token} → Variables limit h ds ts → tallest (map declarator_width (map (λ d. d.1) ds)) ≤ limit
width_of_variables (st.last p) = max_within _ 0 _ (width_of_variable p) (omega arith)
width_of_variables (st.more p _ q) = max_within _ _ _ (width_of_variable p) (width_of_variables q)

width_of_declaration : {limit h : ℕ} {l : Let} {ts : List Token} → Declaration limit h l ts → let_width l ≤ limit
width_of_declaration (st.declaration _ t p) = max_within _ _ _ (whole_width t) (width_of_variables p)

width_of_maybe : {limit h : ℕ} {e : Option Expr} {ts : List Token} → MaybeExpression limit h e ts → maybe_width e ≤ limit
width_of_maybe st.no = omega arith
width_of_maybe (st.yes p) = width_of_expression p

width_of_update : {limit h : ℕ} {es : List Expr} {ts : List Token} → Update limit h es ts → tallest (map expr_width es) ≤ limit
width_of_update st.none = omega arith
width_of_update (st.some p _) = width_of_listed p

width_of_start : {limit h : ℕ} {s : ForStart} {ts : List Token} → Start limit h s ts → start_width s ≤ limit
width_of_start st.none = omega arith
width_of_start (st.variables p) = width_of_declaration p
width_of_start (st.expressions p _) = width_of_listed p

width_of_super : {limit h : ℕ} {n : StmtNode} {ts : List Token} → SuperStart limit h n ts → node_width n ≤ limit
width_of_super (st.super_start {args = args} _ p _) = narrow _ _ _ (fold-node-SuperInit Counting width_stmt_node_step args) (width_of_arguments p)

-- # Statements

mutual
  width_of_plain : {limit h : ℕ} {is_open : Bool} {n : StmtNode} {ts : List Token} → Plain limit h is_open n ts → node_width n ≤ limit
  width_of_plain (st.expression {e = e} p _ _) = narrow _ _ _ (fold-node-Do Counting width_stmt_node_step e) (width_of_expression p)
  width_of_plain (st.while {e = e} {items} {tail} _ _ p _ q) = narrow _ _ _ (fold-node-While Counting width_stmt_node_step e (block_of items tail)) (max_within _ _ _ (width_of_expression p) (block_within _ items tail (width_of_branch q)))
  width_of_plain (st.for {start = start} {test} {updates} {items} {tail} _ _ p _ q _ r _ x) =
      narrow _ _ _ (fold-node-For Counting width_stmt_node_step start test updates (block_of items tail))
      (max_within _ _ _ (width_of_start p) (max_within _ _ _ (width_of_maybe q) (max_within _ _ _ (width_of_update r) (block_within _ items tail (width_of_branch x)))))
  width_of_plain (st.each {is_final = is_final} {name = name} {to = to} {e} {items} {tail} _ _ _ t _ _ p _ x) =
      narrow _ _ _ (fold-node-Each Counting width_stmt_node_step is_final to name.text e (block_of items tail)) (max_within _ _ _ (whole_width t) (max_within _ _ _ (width_of_expression p) (block_within _ items tail (width_of_branch x))))
  width_of_plain (st.return {e = e} _ p _) = narrow _ _ _ (fold-node-Return Counting width_stmt_node_step e) (width_of_maybe p)
  width_of_plain (st.throw {e = e} _ p _) = narrow _ _ _ (fold-node-Throw Counting width_stmt_node_step e) (width_of_expression p)
  width_of_plain {limit} (st.break _ _) = narrow _ 0 limit (fold-node-Break Counting width_stmt_node_step) (omega arith)
  width_of_plain {limit} (st.continue _ _) = narrow _ 0 limit (fold-node-Continue Counting width_stmt_node_step) (omega arith)
  width_of_plain {limit} (st.nothing _) = narrow _ 0 limit (fold-node-Empty Counting width_stmt_node_step) (omega arith)

  width_of_choice : {limit h : ℕ} {is_open : Bool} {n : StmtNode} {ts : List Token} → Choice limit h is_open n ts → node_width n ≤ limit
  width_of_choice {limit} (st.short {e = e} {items} {tail} _ _ p _ q) =
      narrow _ _ _ (fold-node-If Counting width_stmt_node_step e (block_of items tail) otherwise.None)
      (max_within _ _ _ (width_of_expression p) (max_within _ _ _ (block_within _ items tail (width_of_branch q)) (narrow _ 0 limit (fold-no-else Counting width_stmt_node_step) (omega arith))))
  width_of_choice (st.long {e = e} {items} {tail} {comments} {other} _ _ p _ q _ _ r) =
      narrow _ _ _ (fold-node-If Counting width_stmt_node_step e (block_of items (tail ++ comments)) other)
      (max_within _ _ _ (width_of_expression p) (max_within _ _ _ (block_within _ items (tail ++ comments) (width_of_branch q)) (width_of_otherwise r)))

  width_of_otherwise : {limit h : ℕ} {is_open : Bool} {other : Else} {ts : List Token} → Otherwise limit h is_open other ts → else_width other ≤ limit
  width_of_otherwise (st.else_if {n = n} p) = narrow _ _ _ (fold-else-if Counting width_stmt_node_step (stmt_at _ n) ∙ width_of_stmt [] _ n) (width_of_choice p)
  width_of_otherwise (st.else_enclosed {items = items} {tail} p) = narrow _ _ _ (fold-else-block Counting width_stmt_node_step (block_of items tail)) (block_within _ items tail (width_of_enclosed p))

  width_of_branch : {limit h : ℕ} {is_open : Bool} {items : List Stmt} {tail : List (List ℕ)} {ts : List Token} → Branch limit h is_open items tail ts → lines_width items ≤ limit
  width_of_branch (st.enclosed_branch p) = width_of_enclosed p
  width_of_branch (st.choice_branch {n = n} {comments} _ p) = one_within _ comments _ n (width_of_choice p)

  width_of_enclosed : {limit h : ℕ} {is_open : Bool} {items : List Stmt} {tail : List (List ℕ)} {ts : List Token} → Enclosed limit h is_open items tail ts → lines_width items ≤ limit
  width_of_enclosed (st.enclosed_block {items = items} {comments = comments} _ p) = narrow _ _ _ (width_of_fronted comments items) (width_of_lines p)
  width_of_enclosed (st.enclosed_plain {n = n} {comments} _ p) = one_within _ comments _ n (width_of_plain p)

  pub width_of_lines : {limit h : ℕ} {items : List Stmt} {tail : List (List ℕ)} {ts : List Token} → BlockOf limit h items tail ts → lines_width items ≤ limit
  width_of_lines (st.braced _ p _ _) = width_of_statements p

  width_of_single : {limit h : ℕ} {n : StmtNode} {ts : List Token} → Single limit h n ts → node_width n ≤ limit
  width_of_single (st.single_block {items = items} {tail} p) = narrow _ _ _ (fold-node-Block Counting width_stmt_node_step (block_of items tail)) (block_within _ items tail (width_of_lines p))
  width_of_single (st.single_declaration {l = l} p _) = narrow _ _ _ (fold-node-Let Counting width_stmt_node_step l) (width_of_declaration p)
  width_of_single (st.single_plain p) = width_of_plain p
  width_of_single (st.single_choice p) = width_of_choice p

  width_of_statements : {limit h : ℕ} {items : List Stmt} {ts : List Token} → Statements limit h items ts → lines_width items ≤ limit
  width_of_statements st.no_statements = omega arith
  width_of_statements (st.more_statements {n = n} {notes} _ p q) = max_within _ _ _ (narrow _ _ _ (width_of_stmt notes _ n) (width_of_single p)) (width_of_statements q)

pub width_of_constructor : {limit h : ℕ} {items : List Stmt} {tail : List (List ℕ)} {ts : List Token} → ConstructorBlock limit h items tail ts → lines_width items ≤ limit
width_of_constructor (st.usual p) = width_of_lines p
width_of_constructor (st.super_first {n = n} {notes} _ _ p q _ _) = max_within _ _ _ (narrow _ _ _ (width_of_stmt notes _ n) (width_of_super p)) (width_of_statements q)

pub width_of_body : {limit h : ℕ} {items : List Stmt} {tail : List (List ℕ)} {ts : List Token} → ConstructorBlock limit h items tail ts → block_width (block_of items tail) ≤ limit
width_of_body {items = items} {tail} p = block_within _ items tail (width_of_constructor p)
