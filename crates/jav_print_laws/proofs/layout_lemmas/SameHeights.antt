-- Places make no difference to heights.
use Rattle.std.proofs.Common.{◌≡◌, ℕ, max, List, [], ◌∷◌, map, option_map, Option, Some, None, refl, sym, ap, ◌∙◌}
use Rattle.jav_tree.specs.declared.expr.Expr.{Expr}
use Rattle.jav_tree.specs.declared.stmt.Block.{Block}
use Rattle.jav_tree.specs.declared.stmt.Declarator.{Declarator}
use Rattle.jav_tree.specs.declared.stmt.Else.TheOpen.{StmtNode-F}
use Rattle.jav_tree.specs.declared.stmt.ForStart.{ForStart}
use Rattle.jav_tree.specs.declared.stmt.ForStart.TheVariants as for_start
use Rattle.jav_tree.specs.declared.unit.Member.{Member}
use Rattle.jav_tree.specs.declared.unit.Member.TheVariants as member
use Rattle.jav_tree.specs.declared.unit.Unit.{Unit as Source}
use Rattle.jav_tree.specs.EachExpression.{map_declarator, map_start}
use Rattle.jav_tree.specs.Height.{above, tallest, tallest_maybe, expr_height, maybe_height, declarator_height, start_height, block_height, member_height, unit_height, expr_node_step, expr_step, else_step, stmt_node_step, block_step, stmt_step}
use Rattle.jav_tree.specs.Places.{unplaced_expr, unplaced_block, unplaced_member, unplaced_unit}
use Rattle.jav_tree.proofs.ExpressionFolds.{ExprFold}
use Rattle.jav_tree.proofs.StatementFolds.{StmtFold}
use Rattle.jav_print_laws.proofs.layout_lemmas.UnplacedExpressions.{folded-unplaced}
use Rattle.jav_print_laws.proofs.layout_lemmas.UnplacedStatements.{NodePlaceless, block-unplaced}

abbrev Heights : ExprFold
Heights = record { Node = ℕ; Whole = ℕ; of_node = expr_node_step; of_expr = expr_step }

abbrev StmtHeights : StmtFold
StmtHeights = record { Other = ℕ; Node = ℕ; Whole = ℕ; Line = ℕ; of_else = else_step; of_block = block_step; of_stmt = stmt_step }

pub expr_height-unplaced : (e : Expr) → expr_height (unplaced_expr e) ≡ expr_height e
expr_height-unplaced = folded-unplaced Heights (λ at n. refl)

exprs : (es : List Expr) → map expr_height (map unplaced_expr es) ≡ map expr_height es
exprs [] = refl
exprs (e ∷ es) = let a = expr_height-unplaced e in let b = exprs es in cc

maybe : (e : Option Expr) → maybe_height (option_map unplaced_expr e) ≡ maybe_height e
maybe None = refl
maybe (Some e) = expr_height-unplaced e

declarators : (ds : List Declarator) → map declarator_height (map (map_declarator unplaced_expr) ds) ≡ map declarator_height ds
declarators [] = refl
declarators (d ∷ ds) = let a : declarator_height (map_declarator unplaced_expr d) ≡ declarator_height d = maybe d.init in let b = declarators ds in cc

start : (s : ForStart) → start_height (map_start unplaced_expr s) ≡ start_height s
start for_start.None = refl
start (for_start.Let l) = ap tallest (declarators l.names)
start (for_start.Do es) = ap tallest (exprs es)

node : NodePlaceless StmtHeights stmt_node_step
node (StmtNode-F.StmtNode::Block b) = refl
node (StmtNode-F.Let l) = ap (λ hs. above (tallest hs)) (declarators l.names)
node (StmtNode-F.Do e) = ap above (expr_height-unplaced e)
node (StmtNode-F.StmtNode::If e b alternative) = ap (λ h. above (max h (max b alternative))) (expr_height-unplaced e)
node (StmtNode-F.While e b) = ap (λ h. above (max h b)) (expr_height-unplaced e)
node (StmtNode-F.For s test steps b) =
    ap (λ h. above (max h (max (maybe_height (option_map unplaced_expr test)) (max (tallest (map expr_height (map unplaced_expr steps))) b)))) (start s)
    ∙ ap (λ h. above (max (start_height s) (max h (max (tallest (map expr_height (map unplaced_expr steps))) b)))) (maybe test)
    ∙ ap (λ hs. above (max (start_height s) (max (maybe_height test) (max (tallest hs) b)))) (exprs steps)
node (StmtNode-F.Each is_final to name e b) = ap (λ h. above (max h b)) (expr_height-unplaced e)
node (StmtNode-F.Return e) = ap above (maybe e)
node (StmtNode-F.Throw e) = ap above (expr_height-unplaced e)
node StmtNode-F.Break = refl
node StmtNode-F.Continue = refl
node StmtNode-F.Empty = refl
node (StmtNode-F.SuperInit args) = ap (λ hs. above (tallest hs)) (exprs args)

pub block_height-unplaced : (b : Block) → block_height (unplaced_block b) ≡ block_height b
block_height-unplaced = block-unplaced StmtHeights stmt_node_step node (λ notes at n. refl)

maybe_block : (b : Option Block) → tallest_maybe (option_map block_height (option_map unplaced_block b)) ≡ tallest_maybe (option_map block_height b)
maybe_block None = refl
maybe_block (Some b) = block_height-unplaced b

member_height-unplaced : (m : Member) → member_height (unplaced_member m) ≡ member_height m
member_height-unplaced (member.Field f) = maybe f.init
member_height-unplaced (member.Method m) = maybe_block m.block
member_height-unplaced (member.Ctor c) = block_height-unplaced c.block

members : (ms : List Member) → map member_height (map unplaced_member ms) ≡ map member_height ms
members [] = refl
members (m ∷ ms) = let a = member_height-unplaced m in let b = members ms in cc

pub unit_height-unplaced : (u : Source) → unit_height (unplaced_unit u) ≡ unit_height u
unit_height-unplaced u = ap tallest (members u.class.members)

-- so trees that are the same are equally high
pub expr_height-same : (a b : Expr) → unplaced_expr a ≡ unplaced_expr b → expr_height a ≡ expr_height b
expr_height-same a b same = sym (expr_height-unplaced a) ∙ ap expr_height same ∙ expr_height-unplaced b

pub block_height-same : (a b : Block) → unplaced_block a ≡ unplaced_block b → block_height a ≡ block_height b
block_height-same a b same = sym (block_height-unplaced a) ∙ ap block_height same ∙ block_height-unplaced b

pub unit_height-same : (a b : Source) → unplaced_unit a ≡ unplaced_unit b → unit_height a ≡ unit_height b
unit_height-same a b same = sym (unit_height-unplaced a) ∙ ap unit_height same ∙ unit_height-unplaced b
