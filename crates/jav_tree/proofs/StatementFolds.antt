-- What any fold over blocks and statements gives at each variant, and what it gives once each expression is changed.
use Rattle.std.proofs.Common.{◌≡◌, ℕ, List, map, Option, Bool, sym, ap, ◌∙◌}
use Rattle.jav_tree.specs.declared.types.TypeName.{TypeName}
use Rattle.jav_tree.specs.declared.expr.Expr.{Expr}
use Rattle.jav_tree.specs.declared.stmt.Let.{Let}
use Rattle.jav_tree.specs.declared.stmt.ForStart.{ForStart}
use Rattle.jav_tree.specs.declared.stmt.Else.{Else, fold-Else}
use Rattle.jav_tree.specs.declared.stmt.Else.TheVariants as otherwise
use Rattle.jav_tree.specs.declared.stmt.StmtNode.{StmtNode, fold-StmtNode}
use Rattle.jav_tree.specs.declared.stmt.StmtNode.TheVariants as node
use Rattle.jav_tree.specs.declared.stmt.Block.{Block, fold-Block}
use Rattle.jav_tree.specs.declared.stmt.Stmt.{Stmt, fold-Stmt}
use Rattle.jav_tree.specs.declared.stmt.Else.TheOpen.{Else-F, StmtNode-F, Block-F, Stmt-F}
use Rattle.jav_tree.specs.declared.stmt.Else.TheFolds.{fold-roll-Else, fold-roll-StmtNode, fold-roll-Block, fold-roll-Stmt}
use Rattle.jav_tree.specs.Blocks.{block_of}

-- what a fold makes of all but the nodes of statements, from what it made of their parts
pub record StmtFold : Type 1 where
  pub Other : Type 0
  pub Node : Type 0
  pub Whole : Type 0
  pub Line : Type 0
  pub of_else : Else-F Other Node Whole Line → Other
  pub of_block : Block-F Other Node Whole Line → Whole
  pub of_stmt : Stmt-F Other Node Whole Line → Line

-- what it makes of a node
abbrev pub NodeStep : StmtFold → Type 0
NodeStep F = StmtNode-F F.Other F.Node F.Whole F.Line → F.Node

abbrev pub folded_else : (F : StmtFold) → NodeStep F → Else → F.Other
folded_else F step = fold-Else F.Other F.Node F.Whole F.Line F.of_else step F.of_block F.of_stmt

abbrev pub folded_node : (F : StmtFold) → NodeStep F → StmtNode → F.Node
folded_node F step = fold-StmtNode F.Other F.Node F.Whole F.Line F.of_else step F.of_block F.of_stmt

abbrev pub folded_block : (F : StmtFold) → NodeStep F → Block → F.Whole
folded_block F step = fold-Block F.Other F.Node F.Whole F.Line F.of_else step F.of_block F.of_stmt

abbrev pub folded_stmt : (F : StmtFold) → NodeStep F → Stmt → F.Line
folded_stmt F step = fold-Stmt F.Other F.Node F.Whole F.Line F.of_else step F.of_block F.of_stmt

pub fold-node-Block : (F : StmtFold) (step : NodeStep F) (b : Block) → folded_node F step (node.Block b) ≡ step (StmtNode-F.StmtNode::Block (folded_block F step b))
fold-node-Block F step b = ap (folded_node F step) (sym (node.rolls-Block b)) ∙ fold-roll-StmtNode _ _ _ _ F.of_else step F.of_block F.of_stmt (StmtNode-F.StmtNode::Block b)

pub fold-node-Let : (F : StmtFold) (step : NodeStep F) (l : Let) → folded_node F step (node.Let l) ≡ step (StmtNode-F.Let l)
fold-node-Let F step l = ap (folded_node F step) (sym (node.rolls-Let l)) ∙ fold-roll-StmtNode _ _ _ _ F.of_else step F.of_block F.of_stmt (StmtNode-F.Let l)

pub fold-node-Do : (F : StmtFold) (step : NodeStep F) (e : Expr) → folded_node F step (node.Do e) ≡ step (StmtNode-F.Do e)
fold-node-Do F step e = ap (folded_node F step) (sym (node.rolls-Do e)) ∙ fold-roll-StmtNode _ _ _ _ F.of_else step F.of_block F.of_stmt (StmtNode-F.Do e)

pub fold-node-If : (F : StmtFold) (step : NodeStep F) (e : Expr) (b : Block) (other : Else) → folded_node F step (node.If e b other) ≡ step (StmtNode-F.StmtNode::If e (folded_block F step b) (folded_else F step other))
fold-node-If F step e b other = ap (folded_node F step) (sym (node.rolls-If e b other)) ∙ fold-roll-StmtNode _ _ _ _ F.of_else step F.of_block F.of_stmt (StmtNode-F.StmtNode::If e b other)

pub fold-node-While : (F : StmtFold) (step : NodeStep F) (e : Expr) (b : Block) → folded_node F step (node.While e b) ≡ step (StmtNode-F.While e (folded_block F step b))
fold-node-While F step e b = ap (folded_node F step) (sym (node.rolls-While e b)) ∙ fold-roll-StmtNode _ _ _ _ F.of_else step F.of_block F.of_stmt (StmtNode-F.While e b)

pub fold-node-For : (F : StmtFold) (step : NodeStep F) (start : ForStart) (test : Option Expr) (steps : List Expr) (b : Block) → folded_node F step (node.For start test steps b) ≡ step (StmtNode-F.For start test steps (folded_block F step b))
fold-node-For F step start test steps b = ap (folded_node F step) (sym (node.rolls-For start test steps b)) ∙ fold-roll-StmtNode _ _ _ _ F.of_else step F.of_block F.of_stmt (StmtNode-F.For start test steps b)

pub fold-node-Each : (F : StmtFold) (step : NodeStep F) (is_final : Bool) (to : TypeName) (name : List ℕ) (e : Expr) (b : Block) → folded_node F step (node.Each is_final to name e b) ≡ step (StmtNode-F.Each is_final to name e (folded_block F step b))
fold-node-Each F step is_final to name e b = ap (folded_node F step) (sym (node.rolls-Each is_final to name e b)) ∙ fold-roll-StmtNode _ _ _ _ F.of_else step F.of_block F.of_stmt (StmtNode-F.Each is_final to name e b)

pub fold-node-Return : (F : StmtFold) (step : NodeStep F) (e : Option Expr) → folded_node F step (node.Return e) ≡ step (StmtNode-F.Return e)
fold-node-Return F step e = ap (folded_node F step) (sym (node.rolls-Return e)) ∙ fold-roll-StmtNode _ _ _ _ F.of_else step F.of_block F.of_stmt (StmtNode-F.Return e)

pub fold-node-Throw : (F : StmtFold) (step : NodeStep F) (e : Expr) → folded_node F step (node.Throw e) ≡ step (StmtNode-F.Throw e)
fold-node-Throw F step e = ap (folded_node F step) (sym (node.rolls-Throw e)) ∙ fold-roll-StmtNode _ _ _ _ F.of_else step F.of_block F.of_stmt (StmtNode-F.Throw e)

pub fold-node-Break : (F : StmtFold) (step : NodeStep F) → folded_node F step node.Break ≡ step StmtNode-F.Break
fold-node-Break F step = ap (folded_node F step) (sym node.rolls-Break) ∙ fold-roll-StmtNode _ _ _ _ F.of_else step F.of_block F.of_stmt StmtNode-F.Break

pub fold-node-Continue : (F : StmtFold) (step : NodeStep F) → folded_node F step node.Continue ≡ step StmtNode-F.Continue
fold-node-Continue F step = ap (folded_node F step) (sym node.rolls-Continue) ∙ fold-roll-StmtNode _ _ _ _ F.of_else step F.of_block F.of_stmt StmtNode-F.Continue

pub fold-node-Empty : (F : StmtFold) (step : NodeStep F) → folded_node F step node.Empty ≡ step StmtNode-F.Empty
fold-node-Empty F step = ap (folded_node F step) (sym node.rolls-Empty) ∙ fold-roll-StmtNode _ _ _ _ F.of_else step F.of_block F.of_stmt StmtNode-F.Empty

pub fold-node-SuperInit : (F : StmtFold) (step : NodeStep F) (args : List Expr) → folded_node F step (node.SuperInit args) ≡ step (StmtNode-F.SuperInit args)
fold-node-SuperInit F step args = ap (folded_node F step) (sym (node.rolls-SuperInit args)) ∙ fold-roll-StmtNode _ _ _ _ F.of_else step F.of_block F.of_stmt (StmtNode-F.SuperInit args)

pub fold-no-else : (F : StmtFold) (step : NodeStep F) → folded_else F step otherwise.None ≡ F.of_else Else-F.None
fold-no-else F step = ap (folded_else F step) (sym otherwise.rolls-None) ∙ fold-roll-Else _ _ _ _ F.of_else step F.of_block F.of_stmt Else-F.None

pub fold-else-block : (F : StmtFold) (step : NodeStep F) (b : Block) → folded_else F step (otherwise.Block b) ≡ F.of_else (Else-F.Else::Block (folded_block F step b))
fold-else-block F step b = ap (folded_else F step) (sym (otherwise.rolls-Block b)) ∙ fold-roll-Else _ _ _ _ F.of_else step F.of_block F.of_stmt (Else-F.Else::Block b)

pub fold-else-if : (F : StmtFold) (step : NodeStep F) (s : Stmt) → folded_else F step (otherwise.If s) ≡ F.of_else (Else-F.Else::If (folded_stmt F step s))
fold-else-if F step s = ap (folded_else F step) (sym (otherwise.rolls-If s)) ∙ fold-roll-Else _ _ _ _ F.of_else step F.of_block F.of_stmt (Else-F.Else::If s)

pub fold-block : (F : StmtFold) (step : NodeStep F) (items : List Stmt) (tail : List (List ℕ)) → folded_block F step (block_of items tail) ≡ F.of_block (record { items = map (folded_stmt F step) items; tail = tail })
fold-block F step items tail = fold-roll-Block _ _ _ _ F.of_else step F.of_block F.of_stmt (record { items = items; tail = tail })

pub fold-stmt : (F : StmtFold) (step : NodeStep F) (notes : List (List ℕ)) (at : ℕ) (n : StmtNode) → folded_stmt F step (record { notes = notes; at = at; node = n }) ≡ F.of_stmt (record { notes = notes; at = at; node = folded_node F step n })
fold-stmt F step notes at n = fold-roll-Stmt _ _ _ _ F.of_else step F.of_block F.of_stmt (record { notes = notes; at = at; node = n })
