-- Trees that are the same as printed are the same without their parentheses.
use Rattle.std.proofs.Common.{◌≡◌, List, [], ◌∷◌, map, option_map, Option, Some, None, refl, sym, ap, ◌∙◌}
use Rattle.jav_tree.specs.declared.expr.Expr.{Expr}
use Rattle.jav_tree.specs.declared.stmt.Block.{Block}
use Rattle.jav_tree.specs.declared.stmt.Declarator.{Declarator}
use Rattle.jav_tree.specs.declared.stmt.Else.TheOpen.{StmtNode-F}
use Rattle.jav_tree.specs.declared.stmt.ForStart.{ForStart}
use Rattle.jav_tree.specs.declared.stmt.ForStart.TheVariants as for_start
use Rattle.jav_tree.specs.declared.stmt.Let.{Let}
use Rattle.jav_tree.specs.declared.stmt.StmtNode.TheVariants as stmt
use Rattle.jav_tree.specs.declared.unit.Member.{Member}
use Rattle.jav_tree.specs.declared.unit.Member.TheVariants as member
use Rattle.jav_tree.specs.declared.unit.Unit.{Unit as Source}
use Rattle.jav_tree.specs.EachExpression.{map_declarator, map_let, map_start}
use Rattle.jav_tree.specs.Parens.{expr_without_parens, block_without_parens, member_without_parens, unit_without_parens}
use Rattle.jav_tree.specs.Places.{unplaced_expr, unplaced_declarator, unplaced_let, unplaced_start, unplaced_block, unplaced_member, unplaced_unit, SameExpr, SameBlock, SameUnit}
use Rattle.jav_tree.specs.Places as places
use Rattle.jav_tree.specs.WithParens.{expr_with_parens, block_with_parens, unit_with_parens}
use Rattle.jav_tree.proofs.ChangedStatements.{changed, block_alike}
use Rattle.jav_tree.proofs.PrintedExpressions.{without_printed}
use Rattle.jav_tree.proofs.PrintedUnits.{block_after, unit_after}
use Rattle.jav_tree.proofs.StatementFolds.{NodeStep, folded_block}
use Rattle.jav_print_laws.proofs.layout_lemmas.BlockPhrases.{Unplacing}
use Rattle.jav_print_laws.proofs.layout_lemmas.UnplacedParens.{without-unplaced}
use Rattle.jav_print_laws.proofs.layout_lemmas.UnplacedStatements.{NodePlaceless, block-unplaced}

-- an expression without parentheses and places
abbrev bare : Expr → Expr
bare e = unplaced_expr (expr_without_parens e)

exprs : (es : List Expr) → map unplaced_expr (map expr_without_parens (map unplaced_expr es)) ≡ map unplaced_expr (map expr_without_parens es)
exprs [] = refl
exprs (e ∷ es) = let a = without-unplaced e in let b = exprs es in cc

maybe : (e : Option Expr) → option_map unplaced_expr (option_map expr_without_parens (option_map unplaced_expr e)) ≡ option_map unplaced_expr (option_map expr_without_parens e)
maybe None = refl
maybe (Some e) = ap Some (without-unplaced e)

declarators : (ds : List Declarator) → map unplaced_declarator (map (map_declarator expr_without_parens) (map (map_declarator unplaced_expr) ds)) ≡ map unplaced_declarator (map (map_declarator expr_without_parens) ds)
declarators [] = refl
declarators (d ∷ ds) =
    let a : unplaced_declarator (map_declarator expr_without_parens (map_declarator unplaced_expr d)) ≡ unplaced_declarator (map_declarator expr_without_parens d) = ap (λ i. record { name = d.name; init = i }) (maybe d.init) in
    let b = declarators ds in cc

a_let : (l : Let) → unplaced_let (map_let expr_without_parens (map_let unplaced_expr l)) ≡ unplaced_let (map_let expr_without_parens l)
a_let l = ap (λ ds. record { is_final = l.is_final; ty = l.ty; names = ds }) (declarators l.names)

start : (s : ForStart) → unplaced_start (map_start expr_without_parens (map_start unplaced_expr s)) ≡ unplaced_start (map_start expr_without_parens s)
start for_start.None = refl
start (for_start.Let l) = ap for_start.Let (a_let l)
start (for_start.Do es) = ap for_start.Do (exprs es)

abbrev bare_step : NodeStep Unplacing
bare_step y = places.stmt_node_step (changed expr_without_parens y)

node : NodePlaceless Unplacing bare_step
node (StmtNode-F.StmtNode::Block b) = refl
node (StmtNode-F.Let l) = ap stmt.Let (a_let l)
node (StmtNode-F.Do e) = ap stmt.Do (without-unplaced e)
node (StmtNode-F.StmtNode::If e b alternative) = ap (λ x. stmt.If x b alternative) (without-unplaced e)
node (StmtNode-F.While e b) = ap (λ x. stmt.While x b) (without-unplaced e)
node (StmtNode-F.For s test steps b) =
    ap (λ x. stmt.For x (option_map unplaced_expr (option_map expr_without_parens (option_map unplaced_expr test))) (map unplaced_expr (map expr_without_parens (map unplaced_expr steps))) b) (start s)
    ∙ ap (λ x. stmt.For (unplaced_start (map_start expr_without_parens s)) x (map unplaced_expr (map expr_without_parens (map unplaced_expr steps))) b) (maybe test)
    ∙ ap (λ x. stmt.For (unplaced_start (map_start expr_without_parens s)) (option_map unplaced_expr (option_map expr_without_parens test)) x b) (exprs steps)
node (StmtNode-F.Each is_final to name e b) = ap (λ x. stmt.Each is_final to name x b) (without-unplaced e)
node (StmtNode-F.Return e) = ap stmt.Return (maybe e)
node (StmtNode-F.Throw e) = ap stmt.Throw (without-unplaced e)
node StmtNode-F.Break = refl
node StmtNode-F.Continue = refl
node StmtNode-F.Empty = refl
node (StmtNode-F.SuperInit args) = ap stmt.SuperInit (exprs args)

bare_block : (b : Block) → unplaced_block (block_without_parens b) ≡ folded_block Unplacing bare_step b
bare_block = block_alike Unplacing expr_without_parens places.stmt_node_step bare_step (λ y. refl)

block-dropped : (b : Block) → unplaced_block (block_without_parens (unplaced_block b)) ≡ unplaced_block (block_without_parens b)
block-dropped b = bare_block (unplaced_block b) ∙ block-unplaced Unplacing bare_step node (λ notes at n. refl) b ∙ sym (bare_block b)

maybe_block : (b : Option Block) → option_map unplaced_block (option_map block_without_parens (option_map unplaced_block b)) ≡ option_map unplaced_block (option_map block_without_parens b)
maybe_block None = refl
maybe_block (Some b) = ap Some (block-dropped b)

member-dropped : (m : Member) → unplaced_member (member_without_parens (unplaced_member m)) ≡ unplaced_member (member_without_parens m)
member-dropped (member.Field f) = ap (λ i. member.Field (record f { at = 0; init = i })) (maybe f.init)
member-dropped (member.Method m) = ap (λ b. member.Method (record m { at = 0; block = b })) (maybe_block m.block)
member-dropped (member.Ctor c) = ap (λ b. member.Ctor (record c { at = 0; block = b })) (block-dropped c.block)

members : (ms : List Member) → map unplaced_member (map member_without_parens (map unplaced_member ms)) ≡ map unplaced_member (map member_without_parens ms)
members [] = refl
members (m ∷ ms) = let a = member-dropped m in let b = members ms in cc

unit-dropped : (u : Source) → unplaced_unit (unit_without_parens (unplaced_unit u)) ≡ unplaced_unit (unit_without_parens u)
unit-dropped u = ap (λ ms. record u { class = record u.class { members = ms } }) (members u.class.members)

-- a tree that is the tree as printed but for places is the tree but for places and parentheses
pub expr_same_dropped : (a e : Expr) → SameExpr a (expr_with_parens e) → SameExpr (expr_without_parens a) (expr_without_parens e)
expr_same_dropped a e same = sym (without-unplaced a) ∙ ap bare same ∙ without-unplaced (expr_with_parens e) ∙ ap unplaced_expr (without_printed e)

pub block_same_dropped : (a b : Block) → SameBlock a (block_with_parens b) → SameBlock (block_without_parens a) (block_without_parens b)
block_same_dropped a b same = sym (block-dropped a) ∙ ap (λ x. unplaced_block (block_without_parens x)) same ∙ block-dropped (block_with_parens b)
    ∙ ap unplaced_block (block_after expr_without_parens expr_with_parens expr_without_parens (record { one_change = without_printed }) b)

pub unit_same_dropped : (a u : Source) → SameUnit a (unit_with_parens u) → SameUnit (unit_without_parens a) (unit_without_parens u)
unit_same_dropped a u same = sym (unit-dropped a) ∙ ap (λ x. unplaced_unit (unit_without_parens x)) same ∙ unit-dropped (unit_with_parens u)
    ∙ ap unplaced_unit (unit_after expr_without_parens expr_with_parens expr_without_parens (record { one_change = without_printed }) u)
