-- What is printable, and what is not. That a text is an identifier or a literal is a premise.
use Rattle.std.proofs.Common.{◌≡◌, ℕ, List, [], ◌∷◌, codes, None, Bool, true, false, ◌&&◌, ◌||◌, refl, ap, ◌∙◌, map, sym}
use Rattle.jav_tree.specs.declared.types.TypeName.{TypeName}
use Rattle.jav_tree.specs.declared.types.TypeName.TheVariants as ty
use Rattle.jav_tree.specs.declared.types.TypeName.TheOpen.{TypeName-F}
use Rattle.jav_tree.specs.declared.types.TypeName.TheFolds.{fold-roll-TypeName}
use Rattle.jav_tree.specs.declared.expr.Expr.{Expr}
use Rattle.jav_tree.specs.declared.expr.ExprNode.TheVariants as node
use Rattle.jav_tree.specs.declared.expr.ExprNode.TheOpen.{ExprNode-F}
use Rattle.jav_tree.specs.declared.stmt.Block.{Block}
use Rattle.jav_tree.specs.declared.stmt.Else.{Else}
use Rattle.jav_tree.specs.declared.stmt.Else.TheVariants as otherwise
use Rattle.jav_tree.specs.declared.stmt.Let.{Let}
use Rattle.jav_tree.specs.declared.stmt.Stmt.{Stmt}
use Rattle.jav_tree.specs.declared.stmt.StmtNode.{StmtNode}
use Rattle.jav_tree.specs.declared.stmt.StmtNode.TheVariants as stmt
use Rattle.jav_tree.specs.declared.stmt.Else.TheOpen.{StmtNode-F}
use Rattle.jav_tree.specs.Blocks.{block_of}
use Rattle.jav_tree.specs.Expressions.{expr_at}
use Rattle.jav_tree.specs.Statements.{commented}
use Rattle.jav_tree.specs.PrintableExpressions.{type_uses, type_uses_step, ExprUses, expr_uses, expr_node_uses_step, value_where, target_where, effect_where}
use Rattle.jav_tree.specs.PrintableStatements.{statement_where, NodeUses, StmtUses, BlockUses, block_uses, else_uses_step, stmt_node_uses_step, block_uses_step, stmt_uses_step}
use Rattle.jav_tree.specs.TokenTexts.{is_name, is_literal}
use Rattle.jav_tree.proofs.Spelled.{nm, num, set}
use Rattle.jav_tree.proofs.ExpressionUses.{uses-placed, uses-Lit, uses-Name, uses-Call, uses-Braces, uses-NewArray, uses-Post, uses-Binary, uses-Assign, uses-Paren}
use Rattle.jav_tree.proofs.StatementFolds.{StmtFold, folded_node, folded_else, folded_stmt, fold-node-Do, fold-node-Let, fold-node-SuperInit, fold-else-if, fold-block, fold-stmt}

-- types
uses-Prim : (name : List ℕ) → type_uses (ty.Prim name) ≡ type_uses_step (TypeName-F.Prim name)
uses-Prim name = ap type_uses (sym (ty.rolls-Prim name)) ∙ fold-roll-TypeName _ type_uses_step (TypeName-F.Prim name)

uses-ArrayOf : (item : TypeName) → type_uses (ty.ArrayOf item) ≡ type_uses_step (TypeName-F.ArrayOf (type_uses item))
uses-ArrayOf item = ap type_uses (sym (ty.rolls-ArrayOf item)) ∙ fold-roll-TypeName _ type_uses_step (TypeName-F.ArrayOf item)

uses-Void : type_uses ty.Void ≡ type_uses_step TypeName-F.Void
uses-Void = ap type_uses (sym ty.rolls-Void) ∙ fold-roll-TypeName _ type_uses_step TypeName-F.Void

abbrev int_type : TypeName
int_type = ty.Prim (codes "int")

int_is_a_type : (type_uses int_type).is_type ≡ true
int_is_a_type = ap (λ u. u.is_type) (uses-Prim (codes "int"))

float_is_none : (type_uses (ty.Prim (codes "float"))).is_type ≡ false
float_is_none = ap (λ u. u.is_type) (uses-Prim (codes "float"))

array_of_void_is_none : (type_uses (ty.ArrayOf ty.Void)).is_type ≡ false
array_of_void_is_none = ap (λ u. u.is_type) (uses-ArrayOf ty.Void) ∙ ap (λ u. u.is_type) uses-Void

void_is_a_result : (type_uses ty.Void).is_result ≡ true
void_is_a_result = ap (λ u. u.is_result) uses-Void

-- what an expression may be, at each variant that the examples have
of-Lit : (at : ℕ) (text : List ℕ) → expr_uses (expr_at at (node.Lit text)) ≡ value_where (is_literal text)
of-Lit at text = uses-placed at (node.Lit text) ∙ uses-Lit text

of-Name : (at : ℕ) (name : List ℕ) → expr_uses (expr_at at (node.Name name)) ≡ target_where (is_name name)
of-Name at name = uses-placed at (node.Name name) ∙ uses-Name name

-- The step at a layer whose parts are known.
abbrev step : ExprNode-F ExprUses ExprUses → ExprUses
step = expr_node_uses_step

abbrev x : Expr
x = nm 0 "x"

abbrev one : Expr
one = num 4 "1"

-- left sides: `x = 1` is a statement where `x` is a name and `1` a literal; `1 = x` and `f()++` are nothing
assignment : (name literal : Bool) → is_name (codes "x") ≡ name → is_literal (codes "1") ≡ literal → expr_uses (set "=" x one) ≡ effect_where (name && name && literal)
assignment name literal e f = uses-placed 0 (node.Assign x (codes "=") one) ∙ uses-Assign x (codes "=") one
    ∙ ap (λ u. step (ExprNode-F.Assign u (codes "=") (expr_uses one))) (of-Name 0 (codes "x") ∙ ap target_where e)
    ∙ ap (λ u. step (ExprNode-F.Assign (target_where name) (codes "=") u)) (of-Lit 4 (codes "1") ∙ ap value_where f)

literal_on_the_left : expr_uses (set "=" one x) ≡ effect_where false
literal_on_the_left = uses-placed 4 (node.Assign one (codes "=") x) ∙ uses-Assign one (codes "=") x
    ∙ ap (λ u. step (ExprNode-F.Assign u (codes "=") (expr_uses x))) (of-Lit 4 (codes "1"))

abbrev call_of_f : Expr
call_of_f = expr_at 0 (node.Call None (codes "f") [])

step_after_call : expr_uses (expr_at 0 (node.Post call_of_f (codes "++"))) ≡ effect_where false
step_after_call = uses-placed 0 (node.Post call_of_f (codes "++")) ∙ uses-Post call_of_f (codes "++")
    ∙ ap (λ u. step (ExprNode-F.Post u (codes "++"))) (uses-placed 0 (node.Call None (codes "f") []) ∙ uses-Call None (codes "f") [])

-- parentheses are not looked at: `(x)++` is printed as `x++`
step_after_parens : expr_uses (expr_at 0 (node.Post (expr_at 0 (node.Paren x)) (codes "++"))) ≡ expr_uses (expr_at 0 (node.Post x (codes "++")))
step_after_parens = uses-placed 0 (node.Post (expr_at 0 (node.Paren x)) (codes "++")) ∙ uses-Post (expr_at 0 (node.Paren x)) (codes "++")
    ∙ ap (λ u. step (ExprNode-F.Post u (codes "++"))) (uses-placed 0 (node.Paren x) ∙ uses-Paren x)
    ∙ sym (uses-placed 0 (node.Post x (codes "++")) ∙ uses-Post x (codes "++"))

-- an operator that has no level
no_operator : (a b : Expr) → expr_uses (expr_at 0 (node.Binary a (codes "=>") b)) ≡ value_where false
no_operator a b = uses-placed 0 (node.Binary a (codes "=>") b) ∙ uses-Binary a (codes "=>") b

-- braces stand where a first value does, and not among arguments
abbrev braces : Expr
braces = expr_at 0 (node.Braces [])

braces_are_a_first_value : expr_uses braces ≡ record { is_value = false; is_first_value = true; is_target = false; is_statement = false }
braces_are_a_first_value = uses-placed 0 (node.Braces []) ∙ uses-Braces []

no_argument : (name : Bool) → (name && false) ≡ false
no_argument true = refl
no_argument false = refl

braces_as_argument : expr_uses (expr_at 0 (node.Call None (codes "f") (braces ∷ []))) ≡ effect_where false
braces_as_argument = uses-placed 0 (node.Call None (codes "f") (braces ∷ [])) ∙ uses-Call None (codes "f") (braces ∷ [])
    ∙ ap (λ u. step (ExprNode-F.Call None (codes "f") (u ∷ []))) braces_are_a_first_value ∙ ap effect_where (no_argument (is_name (codes "f")))

-- a creation of an array has at least one size
no_size : expr_uses (expr_at 0 (node.NewArray int_type [] 2)) ≡ value_where false
no_size = uses-placed 0 (node.NewArray int_type [] 2) ∙ uses-NewArray int_type [] 2 ∙ ap (λ u. value_where (u.is_base && false && true)) (uses-Prim (codes "int"))

-- blocks and statements
abbrev Testing : StmtFold
Testing = record { Other = Bool; Node = NodeUses; Whole = BlockUses; Line = StmtUses; of_else = else_uses_step; of_block = block_uses_step; of_stmt = stmt_uses_step }

abbrev uses : StmtNode → NodeUses
uses = folded_node Testing stmt_node_uses_step

abbrev else_uses : Else → Bool
else_uses = folded_else Testing stmt_node_uses_step

abbrev stmt_uses : Stmt → StmtUses
stmt_uses = folded_stmt Testing stmt_node_uses_step

uses-Do : (e : Expr) → uses (stmt.Do e) ≡ stmt_node_uses_step (StmtNode-F.Do e)
uses-Do e = fold-node-Do Testing stmt_node_uses_step e

uses-Let : (l : Let) → uses (stmt.Let l) ≡ stmt_node_uses_step (StmtNode-F.Let l)
uses-Let l = fold-node-Let Testing stmt_node_uses_step l

uses-SuperInit : (args : List Expr) → uses (stmt.SuperInit args) ≡ stmt_node_uses_step (StmtNode-F.SuperInit args)
uses-SuperInit args = fold-node-SuperInit Testing stmt_node_uses_step args

uses-else-if : (s : Stmt) → else_uses (otherwise.If s) ≡ (stmt_uses s).follows_else
uses-else-if s = fold-else-if Testing stmt_node_uses_step s

uses-block : (items : List Stmt) (tail : List (List ℕ)) → block_uses (block_of items tail) ≡ block_uses_step (record { items = map stmt_uses items; tail = tail })
uses-block items tail = fold-block Testing stmt_node_uses_step items tail

uses-stmt : (notes : List (List ℕ)) (at : ℕ) (n : StmtNode) → stmt_uses (commented notes at n) ≡ stmt_uses_step (record { notes = notes; at = at; node = uses n })
uses-stmt notes at n = fold-stmt Testing stmt_node_uses_step notes at n

-- a block of these statements
abbrev block : List StmtNode → Block
block nodes = block_of (map (commented [] 0) nodes) []

-- a block of one statement, from what its node may be
block_of_one : (n : StmtNode) (u : NodeUses) → uses n ≡ u → block_uses (block (n ∷ [])) ≡ record { is_block = u.is_statement && true && true; is_constructor_block = (u.is_statement || u.is_super) && true && true }
block_of_one n u e = uses-block (commented [] 0 n ∷ []) [] ∙ ap (λ l. block_uses_step (record { items = l ∷ []; tail = [] })) (uses-stmt [] 0 n)
    ∙ ap (λ v. block_uses_step (record { items = stmt_uses_step (record { notes = []; at = 0; node = v }) ∷ []; tail = [] })) e

-- an expression that is no statement, and a declaration without variables
literal_alone : (block_uses (block (stmt.Do one ∷ []))).is_block ≡ false
literal_alone = ap (λ u. u.is_block) (block_of_one (stmt.Do one) _ (uses-Do one ∙ ap (λ u. statement_where u.is_statement) (of-Lit 4 (codes "1"))))

no_variable : (block_uses (block (stmt.Let (record { is_final = false; ty = int_type; names = [] }) ∷ []))).is_block ≡ false
no_variable = let l : Let = record { is_final = false; ty = int_type; names = [] } in
    ap (λ u. u.is_block) (block_of_one (stmt.Let l) _ (uses-Let l ∙ ap (λ u. statement_where (u.is_type && false && true)) (uses-Prim (codes "int"))))

-- `super()` in the block of a constructor, and in no other block
super_first : (block_uses (block (stmt.SuperInit [] ∷ []))).is_constructor_block ≡ true
super_first = ap (λ u. u.is_constructor_block) (block_of_one (stmt.SuperInit []) _ (uses-SuperInit []))

super_in_method : (block_uses (block (stmt.SuperInit [] ∷ []))).is_block ≡ false
super_in_method = ap (λ u. u.is_block) (block_of_one (stmt.SuperInit []) _ (uses-SuperInit []))

-- `super()` is the first statement alone
super_twice : (block_uses (block (stmt.SuperInit [] ∷ stmt.SuperInit [] ∷ []))).is_constructor_block ≡ false
super_twice = let line : StmtUses = record { is_statement = false; is_super = true; follows_else = false } in
    let is_line : stmt_uses (commented [] 0 (stmt.SuperInit [])) ≡ line = uses-stmt [] 0 (stmt.SuperInit []) ∙ ap (λ v. stmt_uses_step (record { notes = []; at = 0; node = v })) (uses-SuperInit []) in
    ap (λ u. u.is_constructor_block) (uses-block (commented [] 0 (stmt.SuperInit []) ∷ commented [] 0 (stmt.SuperInit []) ∷ []) []
    ∙ ap (λ l. block_uses_step (record { items = l ∷ l ∷ []; tail = [] })) is_line)

-- Between `else` and `if` there is no comment.
comment_before_if : (notes : List (List ℕ)) (note : List ℕ) (n : StmtNode) → else_uses (otherwise.If (commented (note ∷ notes) 0 n)) ≡ false
comment_before_if notes note n = uses-else-if (commented (note ∷ notes) 0 n) ∙ ap (λ u. u.follows_else) (uses-stmt (note ∷ notes) 0 n)

no_comment_before_if : (n : StmtNode) → else_uses (otherwise.If (commented [] 0 n)) ≡ (uses n).is_choice
no_comment_before_if n = uses-else-if (commented [] 0 n) ∙ ap (λ u. u.follows_else) (uses-stmt [] 0 n)
