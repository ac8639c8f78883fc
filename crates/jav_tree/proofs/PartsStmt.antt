-- Two statements of one variant, and two blocks, are equal but for places exactly where their parts are.
use Rattle.std.proofs.Common.{◌≡◌, ◌↔◌, IsTrue, Bool, List, ℕ, sym, ◌∙◌, ap, map}
use Rattle.jav_tree.specs.declared.stmt.Else.{Else, out-Else}
use Rattle.jav_tree.specs.declared.stmt.Else.TheVariants as otherwise
use Rattle.jav_tree.specs.declared.stmt.StmtNode.{StmtNode}
use Rattle.jav_tree.specs.declared.stmt.Block.{Block, out-Block}
use Rattle.jav_tree.specs.declared.stmt.Stmt.{Stmt}
use Rattle.jav_tree.specs.declared.stmt.Else.TheOpen.{Else-F, Block-F}
use Rattle.jav_tree.specs.declared.stmt.Else.TheFolds.{fold-roll-Else, fold_out-Block}
use Rattle.jav_tree.specs.declared.stmt.Else.TheViews.{out-roll-Else, out-roll-Block}
use Rattle.jav_tree.specs.Blocks.{block_of}
use Rattle.jav_tree.specs.Places.{unplaced_block, unplaced_else, unplaced_stmt, unplaced_stmt_node, else_step, stmt_node_step, block_step, stmt_step}

pub decided : {n m k l : StmtNode} {P : Type 0} {r : Bool} → n ≡ k → m ≡ l → (unplaced_stmt_node k ≡ unplaced_stmt_node l) ↔ P → IsTrue r ↔ P
    → (IsTrue r → unplaced_stmt_node n ≡ unplaced_stmt_node m) × (unplaced_stmt_node n ≡ unplaced_stmt_node m → IsTrue r)
decided e f parts by = (λ i. ap unplaced_stmt_node e ∙ parts.1 (by.0 i) ∙ sym (ap unplaced_stmt_node f), λ i. by.1 (parts.0 (sym (ap unplaced_stmt_node e) ∙ i ∙ ap unplaced_stmt_node f)))

pub decided_else : {n m k l : Else} {P : Type 0} {r : Bool} → n ≡ k → m ≡ l → (unplaced_else k ≡ unplaced_else l) ↔ P → IsTrue r ↔ P
    → (IsTrue r → unplaced_else n ≡ unplaced_else m) × (unplaced_else n ≡ unplaced_else m → IsTrue r)
decided_else e f parts by = (λ i. ap unplaced_else e ∙ parts.1 (by.0 i) ∙ sym (ap unplaced_else f), λ i. by.1 (parts.0 (sym (ap unplaced_else e) ∙ i ∙ ap unplaced_else f)))

parts-Else-If : (x0 y0 : Stmt) → otherwise.If x0 ≡ otherwise.If y0 → (x0 ≡ y0)
parts-Else-If x0 y0 e =
    let layers : Else-F.Else::If x0 ≡ Else-F.Else::If y0 = sym (out-roll-Else (Else-F.Else::If x0)) ∙ ap out-Else (otherwise.rolls-If x0 ∙ e ∙ sym (otherwise.rolls-If y0)) ∙ out-roll-Else (Else-F.Else::If y0) in
    cc

pub unplaced-Else-If : (x0 : Stmt) → unplaced_else (otherwise.If x0) ≡ otherwise.If (unplaced_stmt x0)
unplaced-Else-If x0 = ap unplaced_else (sym (otherwise.rolls-If x0)) ∙ fold-roll-Else _ _ _ _ else_step stmt_node_step block_step stmt_step (Else-F.Else::If x0)

pub same-Else-If : (x0 y0 : Stmt) → (unplaced_else (otherwise.If x0) ≡ unplaced_else (otherwise.If y0)) ↔ unplaced_stmt x0 ≡ unplaced_stmt y0
same-Else-If x0 y0 =
    (λ i. parts-Else-If (unplaced_stmt x0) (unplaced_stmt y0) (sym (unplaced-Else-If x0) ∙ i ∙ unplaced-Else-If y0), λ j. (let k : otherwise.If (unplaced_stmt x0) ≡ otherwise.If (unplaced_stmt y0) = cc in unplaced-Else-If x0 ∙ k ∙ sym (unplaced-Else-If y0)))

parts-block : (x y : List Stmt) (t u : List (List ℕ)) → block_of x t ≡ block_of y u → (x ≡ y) × (t ≡ u)
parts-block x y t u e =
    let first : Block-F Else StmtNode Block Stmt = record { items = x; tail = t } in
    let second : Block-F Else StmtNode Block Stmt = record { items = y; tail = u } in
    let layers : first ≡ second = sym (out-roll-Block first) ∙ ap out-Block e ∙ out-roll-Block second in
    (ap (λ b. b.items) layers, ap (λ b. b.tail) layers)

unplaced-block : (b : Block) → unplaced_block b ≡ block_of (map unplaced_stmt (out-Block b).items) (out-Block b).tail
unplaced-block b = fold_out-Block _ _ _ _ else_step stmt_node_step block_step stmt_step b

pub same-block : (a b : Block) → (unplaced_block a ≡ unplaced_block b) ↔ (map unplaced_stmt (out-Block a).items ≡ map unplaced_stmt (out-Block b).items) × ((out-Block a).tail ≡ (out-Block b).tail)
same-block a b = (λ i. parts-block _ _ _ _ (sym (unplaced-block a) ∙ i ∙ unplaced-block b), λ j. (let k : block_of (map unplaced_stmt (out-Block a).items) (out-Block a).tail ≡ block_of (map unplaced_stmt (out-Block b).items) (out-Block b).tail = cc in unplaced-block a ∙ k ∙ sym (unplaced-block b)))

pub decided_block : (a b : Block) {r : Bool} → IsTrue r ↔ (map unplaced_stmt (out-Block a).items ≡ map unplaced_stmt (out-Block b).items) × ((out-Block a).tail ≡ (out-Block b).tail)
    → (IsTrue r → unplaced_block a ≡ unplaced_block b) × (unplaced_block a ≡ unplaced_block b → IsTrue r)
decided_block a b by = (λ i. (same-block a b).1 (by.0 i), λ i. by.1 ((same-block a b).0 i))
