-- What a fold over statements gives once each expression in them is changed.
use Rattle.std.proofs.Common.{◌≡◌, ℕ, List, [], ◌∷◌, map, option_map, Option, Bool, refl, sym, ap, ◌∙◌, subst}
use Rattle.jav_tree.specs.declared.types.TypeName.{TypeName}
use Rattle.jav_tree.specs.declared.expr.Expr.{Expr}
use Rattle.jav_tree.specs.declared.stmt.Let.{Let}
use Rattle.jav_tree.specs.declared.stmt.ForStart.{ForStart}
use Rattle.jav_tree.specs.declared.stmt.Else.{Else}
use Rattle.jav_tree.specs.declared.stmt.Else.TheVariants as otherwise
use Rattle.jav_tree.specs.declared.stmt.StmtNode.{StmtNode}
use Rattle.jav_tree.specs.declared.stmt.StmtNode.TheVariants as node
use Rattle.jav_tree.specs.declared.stmt.Block.{Block}
use Rattle.jav_tree.specs.declared.stmt.Stmt.{Stmt}
use Rattle.jav_tree.specs.declared.stmt.Else.TheOpen.{Else-F, StmtNode-F, Block-F, Stmt-F}
use Rattle.jav_tree.specs.declared.stmt.Else.TheFolds.{map-Else, map-StmtNode, ind-Block}
use Rattle.jav_tree.specs.declared.stmt.Else.TheViews.{roll-Else, roll-StmtNode, roll-Block, roll-Stmt}
use Rattle.jav_tree.specs.Blocks.{block_of}
use Rattle.jav_tree.specs.EachExpression.{map_let, map_start, map_else, map_stmt_node, map_block, map_stmt, map_else_step, map_stmt_node_step, map_block_step, map_stmt_step}
use Rattle.jav_tree.proofs.StatementFolds.{StmtFold, NodeStep, folded_else, folded_node, folded_block, folded_stmt, fold-node-Block, fold-node-Let, fold-node-Do, fold-node-If, fold-node-While, fold-node-For, fold-node-Each, fold-node-Return, fold-node-Throw, fold-node-Break, fold-node-Continue, fold-node-Empty, fold-node-SuperInit, fold-no-else, fold-else-block, fold-else-if, fold-block, fold-stmt}

-- the fold that changes each expression
abbrev Changing : StmtFold
Changing = record { Other = Else; Node = StmtNode; Whole = Block; Line = Stmt; of_else = map_else_step; of_block = map_block_step; of_stmt = map_stmt_step }

-- a node with its expressions changed, over what was made of its other parts
abbrev pub changed : {O N W L : Type 0} → (Expr → Expr) → StmtNode-F O N W L → StmtNode-F O N W L
changed c (StmtNode-F.StmtNode::Block b) = StmtNode-F.StmtNode::Block b
changed c (StmtNode-F.Let l) = StmtNode-F.Let (map_let c l)
changed c (StmtNode-F.Do e) = StmtNode-F.Do (c e)
changed c (StmtNode-F.StmtNode::If e b other) = StmtNode-F.StmtNode::If (c e) b other
changed c (StmtNode-F.While e b) = StmtNode-F.While (c e) b
changed c (StmtNode-F.For start test steps b) = StmtNode-F.For (map_start c start) (option_map c test) (map c steps) b
changed c (StmtNode-F.Each is_final to name e b) = StmtNode-F.Each is_final to name (c e) b
changed c (StmtNode-F.Return e) = StmtNode-F.Return (option_map c e)
changed c (StmtNode-F.Throw e) = StmtNode-F.Throw (c e)
changed c StmtNode-F.Break = StmtNode-F.Break
changed c StmtNode-F.Continue = StmtNode-F.Continue
changed c StmtNode-F.Empty = StmtNode-F.Empty
changed c (StmtNode-F.SuperInit args) = StmtNode-F.SuperInit (map c args)

-- Two ways of folding a node, of which the first does with the changed expressions what the second does without the change.
abbrev pub Follows : (F : StmtFold) (c : Expr → Expr) (first second : NodeStep F) → Type 0
Follows F c first second = (y : StmtNode-F F.Other F.Node F.Whole F.Line) → first (changed c y) ≡ second y

record Fold : Type 1 where
  F : StmtFold
  c : Expr → Expr
  first : NodeStep F
  second : NodeStep F
  follows : Follows F c first second

abbrev ElseAlike : Fold → Else → Type 0
ElseAlike d e = folded_else d.F d.first (map_else d.c e) ≡ folded_else d.F d.second e

abbrev NodeAlike : Fold → StmtNode → Type 0
NodeAlike d n = folded_node d.F d.first (map_stmt_node d.c n) ≡ folded_node d.F d.second n

abbrev BlockAlike : Fold → Block → Type 0
BlockAlike d b = folded_block d.F d.first (map_block d.c b) ≡ folded_block d.F d.second b

abbrev StmtAlike : Fold → Stmt → Type 0
StmtAlike d s = folded_stmt d.F d.first (map_stmt d.c s) ≡ folded_stmt d.F d.second s

abbrev WithElse : Fold → Type 0
WithElse d = (e : Else) × ElseAlike d e

abbrev WithNode : Fold → Type 0
WithNode d = (n : StmtNode) × NodeAlike d n

abbrev WithBlock : Fold → Type 0
WithBlock d = (b : Block) × BlockAlike d b

abbrev WithStmt : Fold → Type 0
WithStmt d = (s : Stmt) × StmtAlike d s

alike-Block : (d : Fold) (b : WithBlock d) → NodeAlike d (node.Block b.0)
alike-Block d b = ap (folded_node d.F d.first) (fold-node-Block Changing (map_stmt_node_step d.c) b.0) ∙ fold-node-Block d.F d.first (map_block d.c b.0) ∙ ap (λ x. d.first (StmtNode-F.StmtNode::Block x)) b.1 ∙ d.follows (StmtNode-F.StmtNode::Block (folded_block d.F d.second b.0)) ∙ sym (fold-node-Block d.F d.second b.0)

alike-Let : (d : Fold) (l : Let) → NodeAlike d (node.Let l)
alike-Let d l = ap (folded_node d.F d.first) (fold-node-Let Changing (map_stmt_node_step d.c) l) ∙ fold-node-Let d.F d.first (map_let d.c l) ∙ d.follows (StmtNode-F.Let l) ∙ sym (fold-node-Let d.F d.second l)

alike-Do : (d : Fold) (e : Expr) → NodeAlike d (node.Do e)
alike-Do d e = ap (folded_node d.F d.first) (fold-node-Do Changing (map_stmt_node_step d.c) e) ∙ fold-node-Do d.F d.first (d.c e) ∙ d.follows (StmtNode-F.Do e) ∙ sym (fold-node-Do d.F d.second e)

alike-If : (d : Fold) (e : Expr) (b : WithBlock d) (other : WithElse d) → NodeAlike d (node.If e b.0 other.0)
alike-If d e b other = ap (folded_node d.F d.first) (fold-node-If Changing (map_stmt_node_step d.c) e b.0 other.0) ∙ fold-node-If d.F d.first (d.c e) (map_block d.c b.0) (map_else d.c other.0) ∙ ap (λ x. d.first (StmtNode-F.StmtNode::If (d.c e) x (folded_else d.F d.first (map_else d.c other.0)))) b.1 ∙ ap (λ x. d.first (StmtNode-F.StmtNode::If (d.c e) (folded_block d.F d.second b.0) x)) other.1 ∙ d.follows (StmtNode-F.StmtNode::If e (folded_block d.F d.second b.0) (folded_else d.F d.second other.0)) ∙ sym (fold-node-If d.F d.second e b.0 other.0)

alike-While : (d : Fold) (e : Expr) (b : WithBlock d) → NodeAlike d (node.While e b.0)
alike-While d e b = ap (folded_node d.F d.first) (fold-node-While Changing (map_stmt_node_step d.c) e b.0) ∙ fold-node-While d.F d.first (d.c e) (map_block d.c b.0) ∙ ap (λ x. d.first (StmtNode-F.While (d.c e) x)) b.1 ∙ d.follows (StmtNode-F.While e (folded_block d.F d.second b.0)) ∙ sym (fold-node-While d.F d.second e b.0)

alike-For : (d : Fold) (start : ForStart) (test : Option Expr) (steps : List Expr) (b : WithBlock d) → NodeAlike d (node.For start test steps b.0)
alike-For d start test steps b = ap (folded_node d.F d.first) (fold-node-For Changing (map_stmt_node_step d.c) start test steps b.0) ∙ fold-node-For d.F d.first (map_start d.c start) (option_map d.c test) (map d.c steps) (map_block d.c b.0) ∙ ap (λ x. d.first (StmtNode-F.For (map_start d.c start) (option_map d.c test) (map d.c steps) x)) b.1 ∙ d.follows (StmtNode-F.For start test steps (folded_block d.F d.second b.0)) ∙ sym (fold-node-For d.F d.second start test steps b.0)

alike-Each : (d : Fold) (is_final : Bool) (to : TypeName) (name : List ℕ) (e : Expr) (b : WithBlock d) → NodeAlike d (node.Each is_final to name e b.0)
alike-Each d is_final to name e b = ap (folded_node d.F d.first) (fold-node-Each Changing (map_stmt_node_step d.c) is_final to name e b.0) ∙ fold-node-Each d.F d.first is_final to name (d.c e) (map_block d.c b.0) ∙ ap (λ x. d.first (StmtNode-F.Each is_final to name (d.c e) x)) b.1 ∙ d.follows (StmtNode-F.Each is_final to name e (folded_block d.F d.second b.0)) ∙ sym (fold-node-Each d.F d.second is_final to name e b.0)

alike-Return : (d : Fold) (e : Option Expr) → NodeAlike d (node.Return e)
alike-Return d e = ap (folded_node d.F d.first) (fold-node-Return Changing (map_stmt_node_step d.c) e) ∙ fold-node-Return d.F d.first (option_map d.c e) ∙ d.follows (StmtNode-F.Return e) ∙ sym (fold-node-Return d.F d.second e)

alike-Throw : (d : Fold) (e : Expr) → NodeAlike d (node.Throw e)
alike-Throw d e = ap (folded_node d.F d.first) (fold-node-Throw Changing (map_stmt_node_step d.c) e) ∙ fold-node-Throw d.F d.first (d.c e) ∙ d.follows (StmtNode-F.Throw e) ∙ sym (fold-node-Throw d.F d.second e)

alike-Break : (d : Fold) → NodeAlike d node.Break
alike-Break d = ap (folded_node d.F d.first) (fold-node-Break Changing (map_stmt_node_step d.c)) ∙ fold-node-Break d.F d.first ∙ d.follows StmtNode-F.Break ∙ sym (fold-node-Break d.F d.second)

alike-Continue : (d : Fold) → NodeAlike d node.Continue
alike-Continue d = ap (folded_node d.F d.first) (fold-node-Continue Changing (map_stmt_node_step d.c)) ∙ fold-node-Continue d.F d.first ∙ d.follows StmtNode-F.Continue ∙ sym (fold-node-Continue d.F d.second)

alike-Empty : (d : Fold) → NodeAlike d node.Empty
alike-Empty d = ap (folded_node d.F d.first) (fold-node-Empty Changing (map_stmt_node_step d.c)) ∙ fold-node-Empty d.F d.first ∙ d.follows StmtNode-F.Empty ∙ sym (fold-node-Empty d.F d.second)

alike-SuperInit : (d : Fold) (args : List Expr) → NodeAlike d (node.SuperInit args)
alike-SuperInit d args = ap (folded_node d.F d.first) (fold-node-SuperInit Changing (map_stmt_node_step d.c) args) ∙ fold-node-SuperInit d.F d.first (map d.c args) ∙ d.follows (StmtNode-F.SuperInit args) ∙ sym (fold-node-SuperInit d.F d.second args)

alike_else : (d : Fold) (y : Else-F (WithElse d) (WithNode d) (WithBlock d) (WithStmt d)) → ElseAlike d (roll-Else (map-Else _ _ _ _ _ _ _ _ (λ p. p.0) (λ p. p.0) (λ p. p.0) (λ p. p.0) y))
alike_else d Else-F.None = subst (ElseAlike d) (sym otherwise.rolls-None)
    (ap (folded_else d.F d.first) (fold-no-else Changing (map_stmt_node_step d.c)) ∙ fold-no-else d.F d.first ∙ sym (fold-no-else d.F d.second))
alike_else d (Else-F.Else::Block b) = subst (ElseAlike d) (sym (otherwise.rolls-Block b.0))
    (ap (folded_else d.F d.first) (fold-else-block Changing (map_stmt_node_step d.c) b.0) ∙ fold-else-block d.F d.first (map_block d.c b.0)
    ∙ ap (λ x. d.F.of_else (Else-F.Else::Block x)) b.1 ∙ sym (fold-else-block d.F d.second b.0))
alike_else d (Else-F.Else::If s) = subst (ElseAlike d) (sym (otherwise.rolls-If s.0))
    (ap (folded_else d.F d.first) (fold-else-if Changing (map_stmt_node_step d.c) s.0) ∙ fold-else-if d.F d.first (map_stmt d.c s.0)
    ∙ ap (λ x. d.F.of_else (Else-F.Else::If x)) s.1 ∙ sym (fold-else-if d.F d.second s.0))

alike_node : (d : Fold) (y : StmtNode-F (WithElse d) (WithNode d) (WithBlock d) (WithStmt d)) → NodeAlike d (roll-StmtNode (map-StmtNode _ _ _ _ _ _ _ _ (λ p. p.0) (λ p. p.0) (λ p. p.0) (λ p. p.0) y))
alike_node d (StmtNode-F.StmtNode::Block b) = subst (NodeAlike d) (sym (node.rolls-Block b.0)) (alike-Block d b)
alike_node d (StmtNode-F.Let l) = subst (NodeAlike d) (sym (node.rolls-Let l)) (alike-Let d l)
alike_node d (StmtNode-F.Do e) = subst (NodeAlike d) (sym (node.rolls-Do e)) (alike-Do d e)
alike_node d (StmtNode-F.StmtNode::If e b other) = subst (NodeAlike d) (sym (node.rolls-If e b.0 other.0)) (alike-If d e b other)
alike_node d (StmtNode-F.While e b) = subst (NodeAlike d) (sym (node.rolls-While e b.0)) (alike-While d e b)
alike_node d (StmtNode-F.For start test steps b) = subst (NodeAlike d) (sym (node.rolls-For start test steps b.0)) (alike-For d start test steps b)
alike_node d (StmtNode-F.Each is_final to name e b) = subst (NodeAlike d) (sym (node.rolls-Each is_final to name e b.0)) (alike-Each d is_final to name e b)
alike_node d (StmtNode-F.Return e) = subst (NodeAlike d) (sym (node.rolls-Return e)) (alike-Return d e)
alike_node d (StmtNode-F.Throw e) = subst (NodeAlike d) (sym (node.rolls-Throw e)) (alike-Throw d e)
alike_node d StmtNode-F.Break = subst (NodeAlike d) (sym node.rolls-Break) (alike-Break d)
alike_node d StmtNode-F.Continue = subst (NodeAlike d) (sym node.rolls-Continue) (alike-Continue d)
alike_node d StmtNode-F.Empty = subst (NodeAlike d) (sym node.rolls-Empty) (alike-Empty d)
alike_node d (StmtNode-F.SuperInit args) = subst (NodeAlike d) (sym (node.rolls-SuperInit args)) (alike-SuperInit d args)

alike_items : (d : Fold) (ss : List (WithStmt d)) → map (folded_stmt d.F d.first) (map (map_stmt d.c) (map (λ p. p.0) ss)) ≡ map (folded_stmt d.F d.second) (map (λ p. p.0) ss)
alike_items d [] = refl
alike_items d (p ∷ ss) = ap (λ x. x ∷ map (folded_stmt d.F d.first) (map (map_stmt d.c) (map (λ q. q.0) ss))) p.1 ∙ ap (λ xs. folded_stmt d.F d.second p.0 ∷ xs) (alike_items d ss)

alike_block : (d : Fold) (y : Block-F (WithElse d) (WithNode d) (WithBlock d) (WithStmt d)) → BlockAlike d (block_of (map (λ p. p.0) y.items) y.tail)
alike_block d y = let items : List Stmt = map (λ p. p.0) y.items in
    ap (folded_block d.F d.first) (fold-block Changing (map_stmt_node_step d.c) items y.tail) ∙ fold-block d.F d.first (map (map_stmt d.c) items) y.tail
    ∙ ap (λ ls. d.F.of_block (record { items = ls; tail = y.tail })) (alike_items d y.items) ∙ sym (fold-block d.F d.second items y.tail)

alike_stmt : (d : Fold) (y : Stmt-F (WithElse d) (WithNode d) (WithBlock d) (WithStmt d)) → StmtAlike d (record { notes = y.notes; at = y.at; node = y.node.0 })
alike_stmt d y =
    ap (folded_stmt d.F d.first) (fold-stmt Changing (map_stmt_node_step d.c) y.notes y.at y.node.0) ∙ fold-stmt d.F d.first y.notes y.at (map_stmt_node d.c y.node.0)
    ∙ ap (λ n. d.F.of_stmt (record { notes = y.notes; at = y.at; node = n })) y.node.1 ∙ sym (fold-stmt d.F d.second y.notes y.at y.node.0)

-- a block with each expression changed, folded in the first way, gives what the block gives in the second
pub block_alike : (F : StmtFold) (c : Expr → Expr) (first second : NodeStep F) → Follows F c first second → (b : Block) → folded_block F first (map_block c b) ≡ folded_block F second b
block_alike F c first second follows = let d : Fold = record { F = F; c = c; first = first; second = second; follows = follows } in
    ind-Block (ElseAlike d) (NodeAlike d) (BlockAlike d) (StmtAlike d)
    (λ x y is. subst (λ z. ElseAlike d (roll-Else z)) is (alike_else d y))
    (λ x y is. subst (λ z. NodeAlike d (roll-StmtNode z)) is (alike_node d y))
    (λ x y is. subst (λ z. BlockAlike d (roll-Block z)) is (alike_block d y))
    (λ x y is. subst (λ z. StmtAlike d (roll-Stmt z)) is (alike_stmt d y))
