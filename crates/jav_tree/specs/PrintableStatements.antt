-- Which blocks and statements are printable: those that the grammar has but for parentheses, in the form that the layout
-- gives them, with braces round each branch and body.
use Rattle.std.specs.Prelude.{ℕ, List, [], ◌∷◌, Bool, true, false, ◌&&◌, ◌||◌, Option, Some, None}
use Rattle.std.specs.List.{list_all}
use Rattle.jav_tree.specs.declared.expr.Expr.{Expr}
use Rattle.jav_tree.specs.declared.stmt.Declarator.{Declarator}
use Rattle.jav_tree.specs.declared.stmt.Let.{Let}
use Rattle.jav_tree.specs.declared.stmt.ForStart.{ForStart}
use Rattle.jav_tree.specs.declared.stmt.ForStart.TheVariants as for_start
use Rattle.jav_tree.specs.declared.stmt.Block.{Block, fold-Block}
use Rattle.jav_tree.specs.declared.stmt.Else.TheOpen.{Else-F, StmtNode-F, Block-F, Stmt-F}
use Rattle.jav_tree.specs.TokenTexts.{is_name, are_comments}
use Rattle.jav_tree.specs.PrintableExpressions.{type_uses, expr_uses, is_not_empty}

-- an expression where any may stand, one that may be a statement, and a first value
abbrev pub is_value : Expr → Bool
is_value e = (expr_uses e).is_value

abbrev pub is_effect : Expr → Bool
is_effect e = (expr_uses e).is_statement

abbrev pub is_first_value : Expr → Bool
is_first_value e = (expr_uses e).is_first_value

-- where there is an expression, it is such a one
abbrev pub if_any : (Expr → Bool) → Option Expr → Bool
if_any holds None = true
if_any holds (Some e) = holds e

-- A variable is a name, with a first value or without.
abbrev pub is_declarator : Declarator → Bool
is_declarator d = is_name d.name && if_any is_first_value d.init

-- A declaration is a type, which is not `void`, and at least one variable (JLS 14.4).
abbrev pub is_declaration : Let → Bool
is_declaration l = (type_uses l.ty).is_type && is_not_empty l.names && list_all is_declarator l.names

-- Before the first semicolon of a `for` stands nothing, a declaration, or expressions that may be statements, at least one.
abbrev pub is_start : ForStart → Bool
is_start for_start.None = true
is_start (for_start.Let l) = is_declaration l
is_start (for_start.Do es) = is_not_empty es && list_all is_effect es

-- What a statement may be, without the comments before it: any statement of a block; `super(..)`, the first of a constructor;
-- or an `if`, which may follow `else`.
pub record NodeUses : Type 0 where
  pub is_statement : Bool
  pub is_super : Bool
  pub is_choice : Bool

abbrev pub statement_where : Bool → NodeUses
statement_where holds = record { is_statement = holds; is_super = false; is_choice = false }

-- The same with its comments. Between `else` and `if` there is no place for a comment.
pub record StmtUses : Type 0 where
  pub is_statement : Bool
  pub is_super : Bool
  pub follows_else : Bool

-- What a block may be: the block of a method, a branch or a loop body; or that of a constructor, which may begin with
-- `super(..)` (JLS 8.8.7).
pub record BlockUses : Type 0 where
  pub is_block : Bool
  pub is_constructor_block : Bool

abbrev pub are_statements : List StmtUses → Bool
are_statements items = list_all (λ s. s.is_statement) items

abbrev pub are_constructor_statements : List StmtUses → Bool
are_constructor_statements [] = true
are_constructor_statements (s ∷ rest) = (s.is_statement || s.is_super) && are_statements rest

-- After `else` stands nothing more, a block, or an `if` without comments before it.
abbrev pub else_uses_step : Else-F Bool NodeUses BlockUses StmtUses → Bool
else_uses_step Else-F.None = true
else_uses_step (Else-F.Else::Block b) = b.is_block
else_uses_step (Else-F.Else::If s) = s.follows_else

abbrev pub stmt_node_uses_step : StmtNode-F Bool NodeUses BlockUses StmtUses → NodeUses
stmt_node_uses_step (StmtNode-F.StmtNode::Block b) = statement_where b.is_block
stmt_node_uses_step (StmtNode-F.Let l) = statement_where (is_declaration l)
-- An expression is a statement only where it is an assignment, `++` or `--`, a call or a creation of an object.
stmt_node_uses_step (StmtNode-F.Do e) = statement_where (is_effect e)
stmt_node_uses_step (StmtNode-F.StmtNode::If e b other) =
    record { is_statement = is_value e && b.is_block && other; is_super = false; is_choice = is_value e && b.is_block && other }
stmt_node_uses_step (StmtNode-F.While e b) = statement_where (is_value e && b.is_block)
stmt_node_uses_step (StmtNode-F.For start test steps b) = statement_where (is_start start && if_any is_value test && list_all is_effect steps && b.is_block)
stmt_node_uses_step (StmtNode-F.Each is_final to name e b) = statement_where ((type_uses to).is_type && is_name name && is_value e && b.is_block)
stmt_node_uses_step (StmtNode-F.Return e) = statement_where (if_any is_value e)
stmt_node_uses_step (StmtNode-F.Throw e) = statement_where (is_value e)
stmt_node_uses_step StmtNode-F.Break = statement_where true
stmt_node_uses_step StmtNode-F.Continue = statement_where true
stmt_node_uses_step StmtNode-F.Empty = statement_where true
-- `super(..)` is no statement but the first of a constructor.
stmt_node_uses_step (StmtNode-F.SuperInit args) = record { is_statement = false; is_super = list_all is_value args; is_choice = false }

abbrev pub stmt_uses_step : Stmt-F Bool NodeUses BlockUses StmtUses → StmtUses
stmt_uses_step s = record {
  is_statement = are_comments s.notes && s.node.is_statement;
  is_super = are_comments s.notes && s.node.is_super;
  follows_else = not_noted s.notes && s.node.is_choice;
}
  where
    not_noted : List (List ℕ) → Bool
    not_noted [] = true
    not_noted (note ∷ notes) = false

abbrev pub block_uses_step : Block-F Bool NodeUses BlockUses StmtUses → BlockUses
block_uses_step b = record {
  is_block = are_statements b.items && are_comments b.tail;
  is_constructor_block = are_constructor_statements b.items && are_comments b.tail;
}

abbrev pub block_uses : Block → BlockUses
block_uses = fold-Block Bool NodeUses BlockUses StmtUses else_uses_step stmt_node_uses_step block_uses_step stmt_uses_step
