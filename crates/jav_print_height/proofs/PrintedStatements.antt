-- The heights as printed that are counted on the tree that stands are those of the tree as printed.
use Rattle.std.proofs.Common.{◌≡◌, ℕ, max, List, [], ◌∷◌, map, option_map, Option, Some, None, refl, ap, ◌∙◌}
use Rattle.jav_tree.specs.declared.expr.Expr.{Expr}
use Rattle.jav_tree.specs.declared.stmt.Block.{Block}
use Rattle.jav_tree.specs.declared.stmt.Declarator.{Declarator}
use Rattle.jav_tree.specs.declared.stmt.ForStart.{ForStart}
use Rattle.jav_tree.specs.declared.stmt.ForStart.TheVariants as for_start
use Rattle.jav_tree.specs.declared.stmt.Else.TheOpen.{StmtNode-F}
use Rattle.jav_tree.specs.declared.unit.Member.{Member}
use Rattle.jav_tree.specs.declared.unit.Member.TheVariants as member
use Rattle.jav_tree.specs.declared.unit.Unit.{Unit as Source}
use Rattle.jav_tree.specs.EachExpression.{map_declarator, map_start}
use Rattle.jav_tree.specs.Height as tree
use Rattle.jav_tree.specs.Height.{above, tallest, tallest_maybe, expr_height, else_step, block_step, stmt_step}
use Rattle.jav_tree.specs.WithParens.{expr_with_parens, expr_printed_height, block_with_parens, block_printed_height, member_with_parens, member_printed_height, unit_printed_height}
use Rattle.jav_tree.proofs.ChangedStatements.{Follows, block_alike}
use Rattle.jav_tree.proofs.StatementFolds.{StmtFold}
use Rattle.jav_print_height.specs.PrintedHeights.{maybe_height, tallest_of, declarator_height, start_height, stmt_node_step, block_height, member_height}

-- # Expressions of a statement

exprs_printed : (es : List Expr) → tallest (map expr_height (map expr_with_parens es)) ≡ tallest_of es
exprs_printed [] = refl
exprs_printed (e ∷ es) = ap (max (expr_printed_height e)) (exprs_printed es)

maybe_printed : (e : Option Expr) → tree.maybe_height (option_map expr_with_parens e) ≡ maybe_height e
maybe_printed None = refl
maybe_printed (Some e) = refl

declarators_printed : (ds : List Declarator) → tallest (map tree.declarator_height (map (map_declarator expr_with_parens) ds)) ≡ tallest (map declarator_height ds)
declarators_printed [] = refl
declarators_printed (d ∷ ds) = ap (λ h. max h (tallest (map tree.declarator_height (map (map_declarator expr_with_parens) ds)))) (maybe_printed d.init)
    ∙ ap (max (declarator_height d)) (declarators_printed ds)

start_printed : (start : ForStart) → tree.start_height (map_start expr_with_parens start) ≡ start_height start
start_printed for_start.None = refl
start_printed (for_start.Let l) = declarators_printed l.names
start_printed (for_start.Do es) = exprs_printed es

-- # Statements

-- the fold that counts heights
abbrev Counting : StmtFold
Counting = record { Other = ℕ; Node = ℕ; Whole = ℕ; Line = ℕ; of_else = else_step; of_block = block_step; of_stmt = stmt_step }

node_printed : Follows Counting expr_with_parens tree.stmt_node_step stmt_node_step
node_printed (StmtNode-F.StmtNode::Block b) = refl
node_printed (StmtNode-F.Let l) = ap above (declarators_printed l.names)
node_printed (StmtNode-F.Do e) = refl
node_printed (StmtNode-F.StmtNode::If e b otherwise) = refl
node_printed (StmtNode-F.While e b) = refl
node_printed (StmtNode-F.For start test steps b) =
    ap (λ h. above (max h (max (tree.maybe_height (option_map expr_with_parens test)) (max (tallest (map expr_height (map expr_with_parens steps))) b)))) (start_printed start)
    ∙ ap (λ h. above (max (start_height start) (max h (max (tallest (map expr_height (map expr_with_parens steps))) b)))) (maybe_printed test)
    ∙ ap (λ h. above (max (start_height start) (max (maybe_height test) (max h b)))) (exprs_printed steps)
node_printed (StmtNode-F.Each is_final to name e b) = refl
node_printed (StmtNode-F.Return e) = ap above (maybe_printed e)
node_printed (StmtNode-F.Throw e) = refl
node_printed StmtNode-F.Break = refl
node_printed StmtNode-F.Continue = refl
node_printed StmtNode-F.Empty = refl
node_printed (StmtNode-F.SuperInit args) = ap above (exprs_printed args)

pub block_printed : (b : Block) → block_printed_height b ≡ block_height b
block_printed = block_alike Counting expr_with_parens tree.stmt_node_step stmt_node_step node_printed

-- # Members

body_printed : (b : Option Block) → tallest_maybe (option_map tree.block_height (option_map block_with_parens b)) ≡ tallest_maybe (option_map block_height b)
body_printed None = refl
body_printed (Some b) = block_printed b

member_printed : (m : Member) → member_printed_height m ≡ member_height m
member_printed (member.Field f) = maybe_printed f.init
member_printed (member.Method m) = body_printed m.block
member_printed (member.Ctor c) = block_printed c.block

members_printed : (ms : List Member) → tallest (map tree.member_height (map member_with_parens ms)) ≡ tallest (map member_height ms)
members_printed [] = refl
members_printed (m ∷ ms) = ap (λ h. max h (tallest (map tree.member_height (map member_with_parens ms)))) (member_printed m) ∙ ap (max (member_height m)) (members_printed ms)

-- the height of a source file as printed
pub unit_printed : (u : Source) → unit_printed_height u ≡ tallest (map member_height u.class.members)
unit_printed u = members_printed u.class.members
