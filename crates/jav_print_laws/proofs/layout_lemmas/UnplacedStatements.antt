-- A fold over statements that does not see places gives the same for a block and for the block without them.
use Rattle.std.proofs.Common.{◌≡◌, ℕ, List, [], ◌∷◌, map, option_map, Option, Bool, refl, sym, ap, ◌∙◌, subst}
use Rattle.jav_tree.specs.declared.types.TypeName.{TypeName}
use Rattle.jav_tree.specs.declared.expr.Expr.{Expr}
use Rattle.jav_tree.specs.declared.stmt.Let.{Let}
use Rattle.jav_tree.specs.declared.stmt.ForStart.{ForStart}
use Rattle.jav_tree.specs.declared.stmt.Else.{Else}
use Rattle.jav_tree.specs.declared.stmt.Else.TheVariants as otherwise
use Rattle.jav_tree.specs.declared.stmt.StmtNode.{StmtNode}
use Rattle.jav_tree.specs.declared.stmt.StmtNode.TheVariants as node
use Rattle.jav_tree.specs.declared.stmt.Block.{Block}
use Rattle.jav_tree.specs.declared.stmt.Stmt.{Stmt}
use Rattle.jav_tree.specs.declared.stmt.Else.TheOpen.{Else-F, StmtNode-F, Block-F, Stmt-F}
use Rattle.jav_tree.specs.declared.stmt.Else.TheFolds.{map-Else, map-StmtNode, ind-Block}
use Rattle.jav_tree.specs.declared.stmt.Else.TheViews.{roll-Else, roll-StmtNode, roll-Block, roll-Stmt}
use Rattle.jav_tree.specs.Blocks.{block_of}
use Rattle.jav_tree.specs.Places.{unplaced_expr, unplaced_let, unplaced_start, unplaced_else, unplaced_stmt_node, unplaced_block, unplaced_stmt}
use Rattle.jav_tree.specs.Places as places
use Rattle.jav_tree.proofs.ChangedStatements.{changed}
use Rattle.jav_print_laws.proofs.layout_lemmas.BlockPhrases.{Unplacing}
use Rattle.jav_tree.proofs.StatementFolds.{StmtFold, NodeStep, folded_else, folded_node, folded_block, folded_stmt, fold-node-Block, fold-node-Let, fold-node-Do, fold-node-If, fold-node-While, fold-node-For, fold-node-Each, fold-node-Return, fold-node-Throw, fold-node-Break, fold-node-Continue, fold-node-Empty, fold-node-SuperInit, fold-no-else, fold-else-block, fold-else-if, fold-block, fold-stmt}

-- Places in expressions make no difference to what is made of a node.
abbrev pub NodePlaceless : (F : StmtFold) → NodeStep F → Type 0
NodePlaceless F step = (y : StmtNode-F F.Other F.Node F.Whole F.Line) → step (changed unplaced_expr y) ≡ step y

-- and those of statements none to what is made of a statement
abbrev pub LinePlaceless : StmtFold → Type 0
LinePlaceless F = (notes : List (List ℕ)) (at : ℕ) (n : F.Node) → F.of_stmt (record { notes = notes; at = at; node = n }) ≡ F.of_stmt (record { notes = notes; at = 0; node = n })

record Fold : Type 1 where
  F : StmtFold
  step : NodeStep F
  placeless : NodePlaceless F step
  lines : LinePlaceless F

abbrev ElseAlike : Fold → Else → Type 0
ElseAlike d e = folded_else d.F d.step (unplaced_else e) ≡ folded_else d.F d.step e

abbrev NodeAlike : Fold → StmtNode → Type 0
NodeAlike d n = folded_node d.F d.step (unplaced_stmt_node n) ≡ folded_node d.F d.step n

abbrev BlockAlike : Fold → Block → Type 0
BlockAlike d b = folded_block d.F d.step (unplaced_block b) ≡ folded_block d.F d.step b

abbrev StmtAlike : Fold → Stmt → Type 0
StmtAlike d s = folded_stmt d.F d.step (unplaced_stmt s) ≡ folded_stmt d.F d.step s

abbrev WithElse : Fold → Type 0
WithElse d = (e : Else) × ElseAlike d e

abbrev WithNode : Fold → Type 0
WithNode d = (n : StmtNode) × NodeAlike d n

abbrev WithBlock : Fold → Type 0
WithBlock d = (b : Block) × BlockAlike d b

abbrev WithStmt : Fold → Type 0
WithStmt d = (s : Stmt) × StmtAlike d s

alike-Block : (d : Fold) (b : WithBlock d) → NodeAlike d (node.Block b.0)
alike-Block d b = ap (folded_node d.F d.step) (fold-node-Block Unplacing places.stmt_node_step b.0) ∙ fold-node-Block d.F d.step (unplaced_block b.0) ∙ ap (λ x. d.step (StmtNode-F.StmtNode::Block x)) b.1 ∙ d.placeless (StmtNode-F.StmtNode::Block (folded_block d.F d.step b.0)) ∙ sym (fold-node-Block d.F d.step b.0)

alike-Let : (d : Fold) (l : Let) → NodeAlike d (node.Let l)
alike-Let d l = ap (folded_node d.F d.step) (fold-node-Let Unplacing places.stmt_node_step l) ∙ fold-node-Let d.F d.step (unplaced_let l) ∙ d.placeless (StmtNode-F.Let l) ∙ sym (fold-node-Let d.F d.step l)

alike-Do : (d : Fold) (e : Expr) → NodeAlike d (node.Do e)
alike-Do d e = ap (folded_node d.F d.step) (fold-node-Do Unplacing places.stmt_node_step e) ∙ fold-node-Do d.F d.step (unplaced_expr e) ∙ d.placeless (StmtNode-F.Do e) ∙ sym (fold-node-Do d.F d.step e)

alike-If : (d : Fold) (e : Expr) (b : WithBlock d) (alternative : WithElse d) → NodeAlike d (node.If e b.0 alternative.0)
alike-If d e b alternative = ap (folded_node d.F d.step) (fold-node-If Unplacing places.stmt_node_step e b.0 alternative.0) ∙ fold-node-If d.F d.step (unplaced_expr e) (unplaced_block b.0) (unplaced_else alternative.0) ∙ ap (λ x. d.step (StmtNode-F.StmtNode::If (unplaced_expr e) x (folded_else d.F d.step (unplaced_else alternative.0)))) b.1 ∙ ap (λ x. d.step (StmtNode-F.StmtNode::If (unplaced_expr e) (folded_block d.F d.step b.0) x)) alternative.1 ∙ d.placeless (StmtNode-F.StmtNode::If e (folded_block d.F d.step b.0) (folded_else d.F d.step alternative.0)) ∙ sym (fold-node-If d.F d.step e b.0 alternative.0)

alike-While : (d : Fold) (e : Expr) (b : WithBlock d) → NodeAlike d (node.While e b.0)
alike-While d e b = ap (folded_node d.F d.step) (fold-node-While Unplacing places.stmt_node_step e b.0) ∙ fold-node-While d.F d.step (unplaced_expr e) (unplaced_block b.0) ∙ ap (λ x. d.step (StmtNode-F.While (unplaced_expr e) x)) b.1 ∙ d.placeless (StmtNode-F.While e (folded_block d.F d.step b.0)) ∙ sym (fold-node-While d.F d.step e b.0)

alike-For : (d : Fold) (start : ForStart) (test : Option Expr) (steps : List Expr) (b : WithBlock d) → NodeAlike d (node.For start test steps b.0)
alike-For d start test steps b = ap (folded_node d.F d.step) (fold-node-For Unplacing places.stmt_node_step start test steps b.0) ∙ fold-node-For d.F d.step (unplaced_start start) (option_map unplaced_expr test) (map unplaced_expr steps) (unplaced_block b.0) ∙ ap (λ x. d.step (StmtNode-F.For (unplaced_start start) (option_map unplaced_expr test) (map unplaced_expr steps) x)) b.1 ∙ d.placeless (StmtNode-F.For start test steps (folded_block d.F d.step b.0)) ∙ sym (fold-node-For d.F d.step start test steps b.0)

alike-Each : (d : Fold) (is_final : Bool) (to : TypeName) (name : List ℕ) (e : Expr) (b : WithBlock d) → NodeAlike d (node.Each is_final to name e b.0)
alike-Each d is_final to name e b = ap (folded_node d.F d.step) (fold-node-Each Unplacing places.stmt_node_step is_final to name e b.0) ∙ fold-node-Each d.F d.step is_final to name (unplaced_expr e) (unplaced_block b.0) ∙ ap (λ x. d.step (StmtNode-F.Each is_final to name (unplaced_expr e) x)) b.1 ∙ d.placeless (StmtNode-F.Each is_final to name e (folded_block d.F d.step b.0)) ∙ sym (fold-node-Each d.F d.step is_final to name e b.0)

alike-Return : (d : Fold) (e : Option Expr) → NodeAlike d (node.Return e)
alike-Return d e = ap (folded_node d.F d.step) (fold-node-Return Unplacing places.stmt_node_step e) ∙ fold-node-Return d.F d.step (option_map unplaced_expr e) ∙ d.placeless (StmtNode-F.Return e) ∙ sym (fold-node-Return d.F d.step e)

alike-Throw : (d : Fold) (e : Expr) → NodeAlike d (node.Throw e)
alike-Throw d e = ap (folded_node d.F d.step) (fold-node-Throw Unplacing places.stmt_node_step e) ∙ fold-node-Throw d.F d.step (unplaced_expr e) ∙ d.placeless (StmtNode-F.Throw e) ∙ sym (fold-node-Throw d.F d.step e)

alike-Break : (d : Fold) → NodeAlike d node.Break
alike-Break d = ap (folded_node d.F d.step) (fold-node-Break Unplacing places.stmt_node_step) ∙ fold-node-Break d.F d.step ∙ d.placeless StmtNode-F.Break ∙ sym (fold-node-Break d.F d.step)

alike-Continue : (d : Fold) → NodeAlike d node.Continue
alike-Continue d = ap (folded_node d.F d.step) (fold-node-Continue Unplacing places.stmt_node_step) ∙ fold-node-Continue d.F d.step ∙ d.placeless StmtNode-F.Continue ∙ sym (fold-node-Continue d.F d.step)

alike-Empty : (d : Fold) → NodeAlike d node.Empty
alike-Empty d = ap (folded_node d.F d.step) (fold-node-Empty Unplacing places.stmt_node_step) ∙ fold-node-Empty d.F d.step ∙ d.placeless StmtNode-F.Empty ∙ sym (fold-node-Empty d.F d.step)

alike-SuperInit : (d : Fold) (args : List Expr) → NodeAlike d (node.SuperInit args)
alike-SuperInit d args = ap (folded_node d.F d.step) (fold-node-SuperInit Unplacing places.stmt_node_step args) ∙ fold-node-SuperInit d.F d.step (map unplaced_expr args) ∙ d.placeless (StmtNode-F.SuperInit args) ∙ sym (fold-node-SuperInit d.F d.step args)

alike_else : (d : Fold) (y : Else-F (WithElse d) (WithNode d) (WithBlock d) (WithStmt d)) → ElseAlike d (roll-Else (map-Else _ _ _ _ _ _ _ _ (λ p. p.0) (λ p. p.0) (λ p. p.0) (λ p. p.0) y))
alike_else d Else-F.None = subst (ElseAlike d) (sym otherwise.rolls-None)
    (ap (folded_else d.F d.step) (fold-no-else Unplacing places.stmt_node_step) ∙ fold-no-else d.F d.step ∙ sym (fold-no-else d.F d.step))
alike_else d (Else-F.Else::Block b) = subst (ElseAlike d) (sym (otherwise.rolls-Block b.0))
    (ap (folded_else d.F d.step) (fold-else-block Unplacing places.stmt_node_step b.0) ∙ fold-else-block d.F d.step (unplaced_block b.0)
    ∙ ap (λ x. d.F.of_else (Else-F.Else::Block x)) b.1 ∙ sym (fold-else-block d.F d.step b.0))
alike_else d (Else-F.Else::If s) = subst (ElseAlike d) (sym (otherwise.rolls-If s.0))
    (ap (folded_else d.F d.step) (fold-else-if Unplacing places.stmt_node_step s.0) ∙ fold-else-if d.F d.step (unplaced_stmt s.0)
    ∙ ap (λ x. d.F.of_else (Else-F.Else::If x)) s.1 ∙ sym (fold-else-if d.F d.step s.0))

alike_node : (d : Fold) (y : StmtNode-F (WithElse d) (WithNode d) (WithBlock d) (WithStmt d)) → NodeAlike d (roll-StmtNode (map-StmtNode _ _ _ _ _ _ _ _ (λ p. p.0) (λ p. p.0) (λ p. p.0) (λ p. p.0) y))
alike_node d (StmtNode-F.StmtNode::Block b) = subst (NodeAlike d) (sym (node.rolls-Block b.0)) (alike-Block d b)
alike_node d (StmtNode-F.Let l) = subst (NodeAlike d) (sym (node.rolls-Let l)) (alike-Let d l)
alike_node d (StmtNode-F.Do e) = subst (NodeAlike d) (sym (node.rolls-Do e)) (alike-Do d e)
alike_node d (StmtNode-F.StmtNode::If e b alternative) = subst (NodeAlike d) (sym (node.rolls-If e b.0 alternative.0)) (alike-If d e b alternative)
alike_node d (StmtNode-F.While e b) = subst (NodeAlike d) (sym (node.rolls-While e b.0)) (alike-While d e b)
alike_node d (StmtNode-F.For start test steps b) = subst (NodeAlike d) (sym (node.rolls-For start test steps b.0)) (alike-For d start test steps b)
alike_node d (StmtNode-F.Each is_final to name e b) = subst (NodeAlike d) (sym (node.rolls-Each is_final to name e b.0)) (alike-Each d is_final to name e b)
alike_node d (StmtNode-F.Return e) = subst (NodeAlike d) (sym (node.rolls-Return e)) (alike-Return d e)
alike_node d (StmtNode-F.Throw e) = subst (NodeAlike d) (sym (node.rolls-Throw e)) (alike-Throw d e)
alike_node d StmtNode-F.Break = subst (NodeAlike d) (sym node.rolls-Break) (alike-Break d)
alike_node d StmtNode-F.Continue = subst (NodeAlike d) (sym node.rolls-Continue) (alike-Continue d)
alike_node d StmtNode-F.Empty = subst (NodeAlike d) (sym node.rolls-Empty) (alike-Empty d)
alike_node d (StmtNode-F.SuperInit args) = subst (NodeAlike d) (sym (node.rolls-SuperInit args)) (alike-SuperInit d args)

alike_items : (d : Fold) (ss : List (WithStmt d)) → map (folded_stmt d.F d.step) (map unplaced_stmt (map (λ p. p.0) ss)) ≡ map (folded_stmt d.F d.step) (map (λ p. p.0) ss)
alike_items d [] = refl
alike_items d (p ∷ ss) = ap (λ x. x ∷ map (folded_stmt d.F d.step) (map unplaced_stmt (map (λ q. q.0) ss))) p.1 ∙ ap (λ xs. folded_stmt d.F d.step p.0 ∷ xs) (alike_items d ss)

alike_block : (d : Fold) (y : Block-F (WithElse d) (WithNode d) (WithBlock d) (WithStmt d)) → BlockAlike d (block_of (map (λ p. p.0) y.items) y.tail)
alike_block d y = let items : List Stmt = map (λ p. p.0) y.items in
    ap (folded_block d.F d.step) (fold-block Unplacing places.stmt_node_step items y.tail) ∙ fold-block d.F d.step (map unplaced_stmt items) y.tail
    ∙ ap (λ ls. d.F.of_block (record { items = ls; tail = y.tail })) (alike_items d y.items) ∙ sym (fold-block d.F d.step items y.tail)

alike_stmt : (d : Fold) (y : Stmt-F (WithElse d) (WithNode d) (WithBlock d) (WithStmt d)) → StmtAlike d (record { notes = y.notes; at = y.at; node = y.node.0 })
alike_stmt d y =
    ap (folded_stmt d.F d.step) (fold-stmt Unplacing places.stmt_node_step y.notes y.at y.node.0) ∙ fold-stmt d.F d.step y.notes 0 (unplaced_stmt_node y.node.0)
    ∙ ap (λ n. d.F.of_stmt (record { notes = y.notes; at = 0; node = n })) y.node.1 ∙ sym (d.lines y.notes y.at (folded_node d.F d.step y.node.0)) ∙ sym (fold-stmt d.F d.step y.notes y.at y.node.0)

pub block-unplaced : (F : StmtFold) (step : NodeStep F) → NodePlaceless F step → LinePlaceless F → (b : Block) → folded_block F step (unplaced_block b) ≡ folded_block F step b
block-unplaced F step placeless lines = let d : Fold = record { F = F; step = step; placeless = placeless; lines = lines } in
    ind-Block (ElseAlike d) (NodeAlike d) (BlockAlike d) (StmtAlike d)
    (λ x y is. subst (λ z. ElseAlike d (roll-Else z)) is (alike_else d y))
    (λ x y is. subst (λ z. NodeAlike d (roll-StmtNode z)) is (alike_node d y))
    (λ x y is. subst (λ z. BlockAlike d (roll-Block z)) is (alike_block d y))
    (λ x y is. subst (λ z. StmtAlike d (roll-Stmt z)) is (alike_stmt d y))
