-- Changes of the expressions in a node, one after the other.
use Rattle.std.proofs.Common.{◌≡◌, List, [], ◌∷◌, map, option_map, Option, Some, None, refl, ap}
use Rattle.jav_tree.specs.declared.expr.Expr.{Expr}
use Rattle.jav_tree.specs.declared.stmt.Block.{Block}
use Rattle.jav_tree.specs.declared.stmt.Declarator.{Declarator}
use Rattle.jav_tree.specs.declared.stmt.Else.{Else}
use Rattle.jav_tree.specs.declared.stmt.Else.TheOpen.{StmtNode-F}
use Rattle.jav_tree.specs.declared.stmt.ForStart.{ForStart}
use Rattle.jav_tree.specs.declared.stmt.ForStart.TheVariants as for_start
use Rattle.jav_tree.specs.declared.stmt.Let.{Let}
use Rattle.jav_tree.specs.declared.stmt.Stmt.{Stmt}
use Rattle.jav_tree.specs.declared.stmt.StmtNode.{StmtNode}
use Rattle.jav_tree.specs.declared.stmt.StmtNode.TheVariants as node
use Rattle.jav_tree.specs.EachExpression.{map_declarator, map_let, map_start}
use Rattle.jav_tree.specs.Places.{unplaced_expr}
use Rattle.jav_tree.specs.Places as places
use Rattle.jav_tree.proofs.ChangedStatements.{changed}
use Rattle.jav_tree.proofs.PrintedUnits.{IsAfter}

module _ (second first both : Expr → Expr) (after : IsAfter second first both) where
  exprs_after : (es : List Expr) → map second (map first es) ≡ map both es
  exprs_after [] = refl
  exprs_after (e ∷ es) = let here = after.one_change e in let rest = exprs_after es in cc

  pub maybe_after : (e : Option Expr) → option_map second (option_map first e) ≡ option_map both e
  maybe_after None = refl
  maybe_after (Some e) = ap Some (after.one_change e)

  declarators_after : (ds : List Declarator) → map (map_declarator second) (map (map_declarator first) ds) ≡ map (map_declarator both) ds
  declarators_after [] = refl
  declarators_after (d ∷ ds) =
      let here : map_declarator second (map_declarator first d) ≡ map_declarator both d = ap (λ i. record { name = d.name; init = i }) (maybe_after d.init) in
      let rest = declarators_after ds in cc

  let_after : (l : Let) → map_let second (map_let first l) ≡ map_let both l
  let_after l = ap (λ ds. record { is_final = l.is_final; ty = l.ty; names = ds }) (declarators_after l.names)

  start_after : (s : ForStart) → map_start second (map_start first s) ≡ map_start both s
  start_after for_start.None = refl
  start_after (for_start.Let l) = ap for_start.Let (let_after l)
  start_after (for_start.Do es) = ap for_start.Do (exprs_after es)

  pub changed_after : {O N W L : Type 0} (y : StmtNode-F O N W L) → changed second (changed first y) ≡ changed both y
  changed_after (StmtNode-F.StmtNode::Block b) = refl
  changed_after (StmtNode-F.Let l) = ap StmtNode-F.Let (let_after l)
  changed_after (StmtNode-F.Do e) = ap StmtNode-F.Do (after.one_change e)
  changed_after (StmtNode-F.StmtNode::If e b alternative) = ap (λ x. StmtNode-F.StmtNode::If x b alternative) (after.one_change e)
  changed_after (StmtNode-F.While e b) = ap (λ x. StmtNode-F.While x b) (after.one_change e)
  changed_after (StmtNode-F.For start test steps b) = let starts = start_after start in let tests = maybe_after test in let updates = exprs_after steps in cc
  changed_after (StmtNode-F.Each is_final to name e b) = ap (λ x. StmtNode-F.Each is_final to name x b) (after.one_change e)
  changed_after (StmtNode-F.Return e) = ap StmtNode-F.Return (maybe_after e)
  changed_after (StmtNode-F.Throw e) = ap StmtNode-F.Throw (after.one_change e)
  changed_after StmtNode-F.Break = refl
  changed_after StmtNode-F.Continue = refl
  changed_after StmtNode-F.Empty = refl
  changed_after (StmtNode-F.SuperInit args) = ap StmtNode-F.SuperInit (exprs_after args)

-- the node of these parts
abbrev pub rebuilt : StmtNode-F Else StmtNode Block Stmt → StmtNode
rebuilt (StmtNode-F.StmtNode::Block b) = node.Block b
rebuilt (StmtNode-F.Let l) = node.Let l
rebuilt (StmtNode-F.Do e) = node.Do e
rebuilt (StmtNode-F.StmtNode::If e b alternative) = node.If e b alternative
rebuilt (StmtNode-F.While e b) = node.While e b
rebuilt (StmtNode-F.For start test steps b) = node.For start test steps b
rebuilt (StmtNode-F.Each is_final to name e b) = node.Each is_final to name e b
rebuilt (StmtNode-F.Return e) = node.Return e
rebuilt (StmtNode-F.Throw e) = node.Throw e
rebuilt StmtNode-F.Break = node.Break
rebuilt StmtNode-F.Continue = node.Continue
rebuilt StmtNode-F.Empty = node.Empty
rebuilt (StmtNode-F.SuperInit args) = node.SuperInit args

-- Taking the places of a node away is taking those of its expressions away.
pub unplaced-changed : (y : StmtNode-F Else StmtNode Block Stmt) → places.stmt_node_step y ≡ rebuilt (changed unplaced_expr y)
unplaced-changed (StmtNode-F.StmtNode::Block b) = refl
unplaced-changed (StmtNode-F.Let l) = refl
unplaced-changed (StmtNode-F.Do e) = refl
unplaced-changed (StmtNode-F.StmtNode::If e b alternative) = refl
unplaced-changed (StmtNode-F.While e b) = refl
unplaced-changed (StmtNode-F.For start test steps b) = refl
unplaced-changed (StmtNode-F.Each is_final to name e b) = refl
unplaced-changed (StmtNode-F.Return e) = refl
unplaced-changed (StmtNode-F.Throw e) = refl
unplaced-changed StmtNode-F.Break = refl
unplaced-changed StmtNode-F.Continue = refl
unplaced-changed StmtNode-F.Empty = refl
unplaced-changed (StmtNode-F.SuperInit args) = refl
