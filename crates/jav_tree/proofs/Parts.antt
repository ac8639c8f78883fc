-- Two nodes of one variant are equal but for places exactly where their parts are.
use Rattle.std.proofs.Common.{◌≡◌, ◌↔◌, IsTrue, Bool, List, Option, Some, None, ℕ, sym, ◌∙◌, ap, map, option_map}
use Rattle.jav_tree.specs.declared.types.TypeName.{TypeName}
use Rattle.jav_tree.specs.declared.expr.Expr.{Expr}
use Rattle.jav_tree.specs.declared.expr.ExprNode.{ExprNode, out-ExprNode}
use Rattle.jav_tree.specs.declared.expr.ExprNode.TheOpen.{ExprNode-F}
use Rattle.jav_tree.specs.declared.expr.ExprNode.TheFolds.{fold-roll-ExprNode}
use Rattle.jav_tree.specs.declared.expr.ExprNode.TheVariants.{Dot, Call, SuperCall, New, NewArray, ArrayLit, Braces, Index, Unary, Post, Binary, Assign, Cond, Cast, InstanceOf, Paren, rolls-Dot, rolls-Call, rolls-SuperCall, rolls-New, rolls-NewArray, rolls-ArrayLit, rolls-Braces, rolls-Index, rolls-Unary, rolls-Post, rolls-Binary, rolls-Assign, rolls-Cond, rolls-Cast, rolls-InstanceOf, rolls-Paren}
use Rattle.jav_tree.specs.declared.expr.ExprNode.TheViews.{out-roll-ExprNode}
use Rattle.jav_tree.specs.Places.{unplaced_expr, unplaced_expr_node, expr_node_step, expr_step}

-- an answer at the nodes that the two trees turned out to be is an answer at the trees
pub decided : {n m k l : ExprNode} {P : Type 0} {r : Bool} → n ≡ k → m ≡ l → (unplaced_expr_node k ≡ unplaced_expr_node l) ↔ P → IsTrue r ↔ P
    → (IsTrue r → unplaced_expr_node n ≡ unplaced_expr_node m) × (unplaced_expr_node n ≡ unplaced_expr_node m → IsTrue r)
decided e f parts by = (λ i. ap unplaced_expr_node e ∙ parts.1 (by.0 i) ∙ sym (ap unplaced_expr_node f), λ i. by.1 (parts.0 (sym (ap unplaced_expr_node e) ∙ i ∙ ap unplaced_expr_node f)))

parts-Dot : (x0 y0 : Expr) (x1 y1 : List ℕ) → Dot x0 x1 ≡ Dot y0 y1 → (x0 ≡ y0) × (x1 ≡ y1)
parts-Dot x0 y0 x1 y1 e =
    let layers : ExprNode-F.Dot x0 x1 ≡ ExprNode-F.Dot y0 y1 = sym (out-roll-ExprNode (ExprNode-F.Dot x0 x1)) ∙ ap out-ExprNode (rolls-Dot x0 x1 ∙ e ∙ sym (rolls-Dot y0 y1)) ∙ out-roll-ExprNode (ExprNode-F.Dot y0 y1) in
    (cc, cc)

pub unplaced-Dot : (x0 : Expr) (x1 : List ℕ) → unplaced_expr_node (Dot x0 x1) ≡ Dot (unplaced_expr x0) x1
unplaced-Dot x0 x1 = ap unplaced_expr_node (sym (rolls-Dot x0 x1)) ∙ fold-roll-ExprNode _ _ expr_node_step expr_step (ExprNode-F.Dot x0 x1)

pub same-Dot : (x0 y0 : Expr) (x1 y1 : List ℕ) → (unplaced_expr_node (Dot x0 x1) ≡ unplaced_expr_node (Dot y0 y1)) ↔ (unplaced_expr x0 ≡ unplaced_expr y0) × (x1 ≡ y1)
same-Dot x0 y0 x1 y1 =
    (λ i. parts-Dot (unplaced_expr x0) (unplaced_expr y0) x1 y1 (sym (unplaced-Dot x0 x1) ∙ i ∙ unplaced-Dot y0 y1), λ j. (let k : Dot (unplaced_expr x0) x1 ≡ Dot (unplaced_expr y0) y1 = cc in unplaced-Dot x0 x1 ∙ k ∙ sym (unplaced-Dot y0 y1)))

parts-Call : (x0 y0 : Option Expr) (x1 y1 : List ℕ) (x2 y2 : List Expr) → Call x0 x1 x2 ≡ Call y0 y1 y2 → (x0 ≡ y0) × (x1 ≡ y1) × (x2 ≡ y2)
parts-Call x0 y0 x1 y1 x2 y2 e =
    let layers : ExprNode-F.Call x0 x1 x2 ≡ ExprNode-F.Call y0 y1 y2 = sym (out-roll-ExprNode (ExprNode-F.Call x0 x1 x2)) ∙ ap out-ExprNode (rolls-Call x0 x1 x2 ∙ e ∙ sym (rolls-Call y0 y1 y2)) ∙ out-roll-ExprNode (ExprNode-F.Call y0 y1 y2) in
    (cc, cc, cc)

pub unplaced-Call : (x0 : Option Expr) (x1 : List ℕ) (x2 : List Expr) → unplaced_expr_node (Call x0 x1 x2) ≡ Call (option_map unplaced_expr x0) x1 (map unplaced_expr x2)
unplaced-Call None x1 x2 = ap unplaced_expr_node (sym (rolls-Call None x1 x2)) ∙ fold-roll-ExprNode _ _ expr_node_step expr_step (ExprNode-F.Call None x1 x2)
unplaced-Call (Some e) x1 x2 = ap unplaced_expr_node (sym (rolls-Call (Some e) x1 x2)) ∙ fold-roll-ExprNode _ _ expr_node_step expr_step (ExprNode-F.Call (Some e) x1 x2)

pub same-Call : (x0 y0 : Option Expr) (x1 y1 : List ℕ) (x2 y2 : List Expr) → (unplaced_expr_node (Call x0 x1 x2) ≡ unplaced_expr_node (Call y0 y1 y2)) ↔ (option_map unplaced_expr x0 ≡ option_map unplaced_expr y0) × (x1 ≡ y1) × (map unplaced_expr x2 ≡ map unplaced_expr y2)
same-Call x0 y0 x1 y1 x2 y2 =
    (λ i. parts-Call (option_map unplaced_expr x0) (option_map unplaced_expr y0) x1 y1 (map unplaced_expr x2) (map unplaced_expr y2) (sym (unplaced-Call x0 x1 x2) ∙ i ∙ unplaced-Call y0 y1 y2), λ j. (let k : Call (option_map unplaced_expr x0) x1 (map unplaced_expr x2) ≡ Call (option_map unplaced_expr y0) y1 (map unplaced_expr y2) = cc in unplaced-Call x0 x1 x2 ∙ k ∙ sym (unplaced-Call y0 y1 y2)))

parts-SuperCall : (x0 y0 : List ℕ) (x1 y1 : List Expr) → SuperCall x0 x1 ≡ SuperCall y0 y1 → (x0 ≡ y0) × (x1 ≡ y1)
parts-SuperCall x0 y0 x1 y1 e =
    let layers : ExprNode-F.SuperCall x0 x1 ≡ ExprNode-F.SuperCall y0 y1 = sym (out-roll-ExprNode (ExprNode-F.SuperCall x0 x1)) ∙ ap out-ExprNode (rolls-SuperCall x0 x1 ∙ e ∙ sym (rolls-SuperCall y0 y1)) ∙ out-roll-ExprNode (ExprNode-F.SuperCall y0 y1) in
    (cc, cc)

pub unplaced-SuperCall : (x0 : List ℕ) (x1 : List Expr) → unplaced_expr_node (SuperCall x0 x1) ≡ SuperCall x0 (map unplaced_expr x1)
unplaced-SuperCall x0 x1 = ap unplaced_expr_node (sym (rolls-SuperCall x0 x1)) ∙ fold-roll-ExprNode _ _ expr_node_step expr_step (ExprNode-F.SuperCall x0 x1)

pub same-SuperCall : (x0 y0 : List ℕ) (x1 y1 : List Expr) → (unplaced_expr_node (SuperCall x0 x1) ≡ unplaced_expr_node (SuperCall y0 y1)) ↔ (x0 ≡ y0) × (map unplaced_expr x1 ≡ map unplaced_expr y1)
same-SuperCall x0 y0 x1 y1 =
    (λ i. parts-SuperCall x0 y0 (map unplaced_expr x1) (map unplaced_expr y1) (sym (unplaced-SuperCall x0 x1) ∙ i ∙ unplaced-SuperCall y0 y1), λ j. (let k : SuperCall x0 (map unplaced_expr x1) ≡ SuperCall y0 (map unplaced_expr y1) = cc in unplaced-SuperCall x0 x1 ∙ k ∙ sym (unplaced-SuperCall y0 y1)))

parts-New : (x0 y0 : TypeName) (x1 y1 : List Expr) → New x0 x1 ≡ New y0 y1 → (x0 ≡ y0) × (x1 ≡ y1)
parts-New x0 y0 x1 y1 e =
    let layers : ExprNode-F.New x0 x1 ≡ ExprNode-F.New y0 y1 = sym (out-roll-ExprNode (ExprNode-F.New x0 x1)) ∙ ap out-ExprNode (rolls-New x0 x1 ∙ e ∙ sym (rolls-New y0 y1)) ∙ out-roll-ExprNode (ExprNode-F.New y0 y1) in
    (cc, cc)

pub unplaced-New : (x0 : TypeName) (x1 : List Expr) → unplaced_expr_node (New x0 x1) ≡ New x0 (map unplaced_expr x1)
unplaced-New x0 x1 = ap unplaced_expr_node (sym (rolls-New x0 x1)) ∙ fold-roll-ExprNode _ _ expr_node_step expr_step (ExprNode-F.New x0 x1)

pub same-New : (x0 y0 : TypeName) (x1 y1 : List Expr) → (unplaced_expr_node (New x0 x1) ≡ unplaced_expr_node (New y0 y1)) ↔ (x0 ≡ y0) × (map unplaced_expr x1 ≡ map unplaced_expr y1)
same-New x0 y0 x1 y1 =
    (λ i. parts-New x0 y0 (map unplaced_expr x1) (map unplaced_expr y1) (sym (unplaced-New x0 x1) ∙ i ∙ unplaced-New y0 y1), λ j. (let k : New x0 (map unplaced_expr x1) ≡ New y0 (map unplaced_expr y1) = cc in unplaced-New x0 x1 ∙ k ∙ sym (unplaced-New y0 y1)))

parts-NewArray : (x0 y0 : TypeName) (x1 y1 : List Expr) (x2 y2 : ℕ) → NewArray x0 x1 x2 ≡ NewArray y0 y1 y2 → (x0 ≡ y0) × (x1 ≡ y1) × (x2 ≡ y2)
parts-NewArray x0 y0 x1 y1 x2 y2 e =
    let layers : ExprNode-F.NewArray x0 x1 x2 ≡ ExprNode-F.NewArray y0 y1 y2 = sym (out-roll-ExprNode (ExprNode-F.NewArray x0 x1 x2)) ∙ ap out-ExprNode (rolls-NewArray x0 x1 x2 ∙ e ∙ sym (rolls-NewArray y0 y1 y2)) ∙ out-roll-ExprNode (ExprNode-F.NewArray y0 y1 y2) in
    (cc, cc, cc)

pub unplaced-NewArray : (x0 : TypeName) (x1 : List Expr) (x2 : ℕ) → unplaced_expr_node (NewArray x0 x1 x2) ≡ NewArray x0 (map unplaced_expr x1) x2
unplaced-NewArray x0 x1 x2 = ap unplaced_expr_node (sym (rolls-NewArray x0 x1 x2)) ∙ fold-roll-ExprNode _ _ expr_node_step expr_step (ExprNode-F.NewArray x0 x1 x2)

pub same-NewArray : (x0 y0 : TypeName) (x1 y1 : List Expr) (x2 y2 : ℕ) → (unplaced_expr_node (NewArray x0 x1 x2) ≡ unplaced_expr_node (NewArray y0 y1 y2)) ↔ (x0 ≡ y0) × (map unplaced_expr x1 ≡ map unplaced_expr y1) × (x2 ≡ y2)
same-NewArray x0 y0 x1 y1 x2 y2 =
    (λ i. parts-NewArray x0 y0 (map unplaced_expr x1) (map unplaced_expr y1) x2 y2 (sym (unplaced-NewArray x0 x1 x2) ∙ i ∙ unplaced-NewArray y0 y1 y2), λ j. (let k : NewArray x0 (map unplaced_expr x1) x2 ≡ NewArray y0 (map unplaced_expr y1) y2 = cc in unplaced-NewArray x0 x1 x2 ∙ k ∙ sym (unplaced-NewArray y0 y1 y2)))

parts-ArrayLit : (x0 y0 : TypeName) (x1 y1 : List Expr) → ArrayLit x0 x1 ≡ ArrayLit y0 y1 → (x0 ≡ y0) × (x1 ≡ y1)
parts-ArrayLit x0 y0 x1 y1 e =
    let layers : ExprNode-F.ArrayLit x0 x1 ≡ ExprNode-F.ArrayLit y0 y1 = sym (out-roll-ExprNode (ExprNode-F.ArrayLit x0 x1)) ∙ ap out-ExprNode (rolls-ArrayLit x0 x1 ∙ e ∙ sym (rolls-ArrayLit y0 y1)) ∙ out-roll-ExprNode (ExprNode-F.ArrayLit y0 y1) in
    (cc, cc)

pub unplaced-ArrayLit : (x0 : TypeName) (x1 : List Expr) → unplaced_expr_node (ArrayLit x0 x1) ≡ ArrayLit x0 (map unplaced_expr x1)
unplaced-ArrayLit x0 x1 = ap unplaced_expr_node (sym (rolls-ArrayLit x0 x1)) ∙ fold-roll-ExprNode _ _ expr_node_step expr_step (ExprNode-F.ArrayLit x0 x1)

pub same-ArrayLit : (x0 y0 : TypeName) (x1 y1 : List Expr) → (unplaced_expr_node (ArrayLit x0 x1) ≡ unplaced_expr_node (ArrayLit y0 y1)) ↔ (x0 ≡ y0) × (map unplaced_expr x1 ≡ map unplaced_expr y1)
same-ArrayLit x0 y0 x1 y1 =
    (λ i. parts-ArrayLit x0 y0 (map unplaced_expr x1) (map unplaced_expr y1) (sym (unplaced-ArrayLit x0 x1) ∙ i ∙ unplaced-ArrayLit y0 y1), λ j. (let k : ArrayLit x0 (map unplaced_expr x1) ≡ ArrayLit y0 (map unplaced_expr y1) = cc in unplaced-ArrayLit x0 x1 ∙ k ∙ sym (unplaced-ArrayLit y0 y1)))

parts-Braces : (x0 y0 : List Expr) → Braces x0 ≡ Braces y0 → (x0 ≡ y0)
parts-Braces x0 y0 e =
    let layers : ExprNode-F.Braces x0 ≡ ExprNode-F.Braces y0 = sym (out-roll-ExprNode (ExprNode-F.Braces x0)) ∙ ap out-ExprNode (rolls-Braces x0 ∙ e ∙ sym (rolls-Braces y0)) ∙ out-roll-ExprNode (ExprNode-F.Braces y0) in
    cc

pub unplaced-Braces : (x0 : List Expr) → unplaced_expr_node (Braces x0) ≡ Braces (map unplaced_expr x0)
unplaced-Braces x0 = ap unplaced_expr_node (sym (rolls-Braces x0)) ∙ fold-roll-ExprNode _ _ expr_node_step expr_step (ExprNode-F.Braces x0)

pub same-Braces : (x0 y0 : List Expr) → (unplaced_expr_node (Braces x0) ≡ unplaced_expr_node (Braces y0)) ↔ map unplaced_expr x0 ≡ map unplaced_expr y0
same-Braces x0 y0 =
    (λ i. parts-Braces (map unplaced_expr x0) (map unplaced_expr y0) (sym (unplaced-Braces x0) ∙ i ∙ unplaced-Braces y0), λ j. (let k : Braces (map unplaced_expr x0) ≡ Braces (map unplaced_expr y0) = cc in unplaced-Braces x0 ∙ k ∙ sym (unplaced-Braces y0)))

parts-Index : (x0 y0 : Expr) (x1 y1 : Expr) → Index x0 x1 ≡ Index y0 y1 → (x0 ≡ y0) × (x1 ≡ y1)
parts-Index x0 y0 x1 y1 e =
    let layers : ExprNode-F.Index x0 x1 ≡ ExprNode-F.Index y0 y1 = sym (out-roll-ExprNode (ExprNode-F.Index x0 x1)) ∙ ap out-ExprNode (rolls-Index x0 x1 ∙ e ∙ sym (rolls-Index y0 y1)) ∙ out-roll-ExprNode (ExprNode-F.Index y0 y1) in
    (cc, cc)

pub unplaced-Index : (x0 : Expr) (x1 : Expr) → unplaced_expr_node (Index x0 x1) ≡ Index (unplaced_expr x0) (unplaced_expr x1)
unplaced-Index x0 x1 = ap unplaced_expr_node (sym (rolls-Index x0 x1)) ∙ fold-roll-ExprNode _ _ expr_node_step expr_step (ExprNode-F.Index x0 x1)

pub same-Index : (x0 y0 : Expr) (x1 y1 : Expr) → (unplaced_expr_node (Index x0 x1) ≡ unplaced_expr_node (Index y0 y1)) ↔ (unplaced_expr x0 ≡ unplaced_expr y0) × (unplaced_expr x1 ≡ unplaced_expr y1)
same-Index x0 y0 x1 y1 =
    (λ i. parts-Index (unplaced_expr x0) (unplaced_expr y0) (unplaced_expr x1) (unplaced_expr y1) (sym (unplaced-Index x0 x1) ∙ i ∙ unplaced-Index y0 y1), λ j. (let k : Index (unplaced_expr x0) (unplaced_expr x1) ≡ Index (unplaced_expr y0) (unplaced_expr y1) = cc in unplaced-Index x0 x1 ∙ k ∙ sym (unplaced-Index y0 y1)))

pub parts-Unary : (x0 y0 : List ℕ) (x1 y1 : Expr) → Unary x0 x1 ≡ Unary y0 y1 → (x0 ≡ y0) × (x1 ≡ y1)
parts-Unary x0 y0 x1 y1 e =
    let layers : ExprNode-F.Unary x0 x1 ≡ ExprNode-F.Unary y0 y1 = sym (out-roll-ExprNode (ExprNode-F.Unary x0 x1)) ∙ ap out-ExprNode (rolls-Unary x0 x1 ∙ e ∙ sym (rolls-Unary y0 y1)) ∙ out-roll-ExprNode (ExprNode-F.Unary y0 y1) in
    (cc, cc)

pub unplaced-Unary : (x0 : List ℕ) (x1 : Expr) → unplaced_expr_node (Unary x0 x1) ≡ Unary x0 (unplaced_expr x1)
unplaced-Unary x0 x1 = ap unplaced_expr_node (sym (rolls-Unary x0 x1)) ∙ fold-roll-ExprNode _ _ expr_node_step expr_step (ExprNode-F.Unary x0 x1)

pub same-Unary : (x0 y0 : List ℕ) (x1 y1 : Expr) → (unplaced_expr_node (Unary x0 x1) ≡ unplaced_expr_node (Unary y0 y1)) ↔ (x0 ≡ y0) × (unplaced_expr x1 ≡ unplaced_expr y1)
same-Unary x0 y0 x1 y1 =
    (λ i. parts-Unary x0 y0 (unplaced_expr x1) (unplaced_expr y1) (sym (unplaced-Unary x0 x1) ∙ i ∙ unplaced-Unary y0 y1), λ j. (let k : Unary x0 (unplaced_expr x1) ≡ Unary y0 (unplaced_expr y1) = cc in unplaced-Unary x0 x1 ∙ k ∙ sym (unplaced-Unary y0 y1)))

pub parts-Post : (x0 y0 : Expr) (x1 y1 : List ℕ) → Post x0 x1 ≡ Post y0 y1 → (x0 ≡ y0) × (x1 ≡ y1)
parts-Post x0 y0 x1 y1 e =
    let layers : ExprNode-F.Post x0 x1 ≡ ExprNode-F.Post y0 y1 = sym (out-roll-ExprNode (ExprNode-F.Post x0 x1)) ∙ ap out-ExprNode (rolls-Post x0 x1 ∙ e ∙ sym (rolls-Post y0 y1)) ∙ out-roll-ExprNode (ExprNode-F.Post y0 y1) in
    (cc, cc)

pub unplaced-Post : (x0 : Expr) (x1 : List ℕ) → unplaced_expr_node (Post x0 x1) ≡ Post (unplaced_expr x0) x1
unplaced-Post x0 x1 = ap unplaced_expr_node (sym (rolls-Post x0 x1)) ∙ fold-roll-ExprNode _ _ expr_node_step expr_step (ExprNode-F.Post x0 x1)

pub same-Post : (x0 y0 : Expr) (x1 y1 : List ℕ) → (unplaced_expr_node (Post x0 x1) ≡ unplaced_expr_node (Post y0 y1)) ↔ (unplaced_expr x0 ≡ unplaced_expr y0) × (x1 ≡ y1)
same-Post x0 y0 x1 y1 =
    (λ i. parts-Post (unplaced_expr x0) (unplaced_expr y0) x1 y1 (sym (unplaced-Post x0 x1) ∙ i ∙ unplaced-Post y0 y1), λ j. (let k : Post (unplaced_expr x0) x1 ≡ Post (unplaced_expr y0) y1 = cc in unplaced-Post x0 x1 ∙ k ∙ sym (unplaced-Post y0 y1)))

parts-Binary : (x0 y0 : Expr) (x1 y1 : List ℕ) (x2 y2 : Expr) → Binary x0 x1 x2 ≡ Binary y0 y1 y2 → (x0 ≡ y0) × (x1 ≡ y1) × (x2 ≡ y2)
parts-Binary x0 y0 x1 y1 x2 y2 e =
    let layers : ExprNode-F.Binary x0 x1 x2 ≡ ExprNode-F.Binary y0 y1 y2 = sym (out-roll-ExprNode (ExprNode-F.Binary x0 x1 x2)) ∙ ap out-ExprNode (rolls-Binary x0 x1 x2 ∙ e ∙ sym (rolls-Binary y0 y1 y2)) ∙ out-roll-ExprNode (ExprNode-F.Binary y0 y1 y2) in
    (cc, cc, cc)

pub unplaced-Binary : (x0 : Expr) (x1 : List ℕ) (x2 : Expr) → unplaced_expr_node (Binary x0 x1 x2) ≡ Binary (unplaced_expr x0) x1 (unplaced_expr x2)
unplaced-Binary x0 x1 x2 = ap unplaced_expr_node (sym (rolls-Binary x0 x1 x2)) ∙ fold-roll-ExprNode _ _ expr_node_step expr_step (ExprNode-F.Binary x0 x1 x2)

pub same-Binary : (x0 y0 : Expr) (x1 y1 : List ℕ) (x2 y2 : Expr) → (unplaced_expr_node (Binary x0 x1 x2) ≡ unplaced_expr_node (Binary y0 y1 y2)) ↔ (unplaced_expr x0 ≡ unplaced_expr y0) × (x1 ≡ y1) × (unplaced_expr x2 ≡ unplaced_expr y2)
same-Binary x0 y0 x1 y1 x2 y2 =
    (λ i. parts-Binary (unplaced_expr x0) (unplaced_expr y0) x1 y1 (unplaced_expr x2) (unplaced_expr y2) (sym (unplaced-Binary x0 x1 x2) ∙ i ∙ unplaced-Binary y0 y1 y2), λ j. (let k : Binary (unplaced_expr x0) x1 (unplaced_expr x2) ≡ Binary (unplaced_expr y0) y1 (unplaced_expr y2) = cc in unplaced-Binary x0 x1 x2 ∙ k ∙ sym (unplaced-Binary y0 y1 y2)))

pub parts-Assign : (x0 y0 : Expr) (x1 y1 : List ℕ) (x2 y2 : Expr) → Assign x0 x1 x2 ≡ Assign y0 y1 y2 → (x0 ≡ y0) × (x1 ≡ y1) × (x2 ≡ y2)
parts-Assign x0 y0 x1 y1 x2 y2 e =
    let layers : ExprNode-F.Assign x0 x1 x2 ≡ ExprNode-F.Assign y0 y1 y2 = sym (out-roll-ExprNode (ExprNode-F.Assign x0 x1 x2)) ∙ ap out-ExprNode (rolls-Assign x0 x1 x2 ∙ e ∙ sym (rolls-Assign y0 y1 y2)) ∙ out-roll-ExprNode (ExprNode-F.Assign y0 y1 y2) in
    (cc, cc, cc)

pub unplaced-Assign : (x0 : Expr) (x1 : List ℕ) (x2 : Expr) → unplaced_expr_node (Assign x0 x1 x2) ≡ Assign (unplaced_expr x0) x1 (unplaced_expr x2)
unplaced-Assign x0 x1 x2 = ap unplaced_expr_node (sym (rolls-Assign x0 x1 x2)) ∙ fold-roll-ExprNode _ _ expr_node_step expr_step (ExprNode-F.Assign x0 x1 x2)

pub same-Assign : (x0 y0 : Expr) (x1 y1 : List ℕ) (x2 y2 : Expr) → (unplaced_expr_node (Assign x0 x1 x2) ≡ unplaced_expr_node (Assign y0 y1 y2)) ↔ (unplaced_expr x0 ≡ unplaced_expr y0) × (x1 ≡ y1) × (unplaced_expr x2 ≡ unplaced_expr y2)
same-Assign x0 y0 x1 y1 x2 y2 =
    (λ i. parts-Assign (unplaced_expr x0) (unplaced_expr y0) x1 y1 (unplaced_expr x2) (unplaced_expr y2) (sym (unplaced-Assign x0 x1 x2) ∙ i ∙ unplaced-Assign y0 y1 y2), λ j. (let k : Assign (unplaced_expr x0) x1 (unplaced_expr x2) ≡ Assign (unplaced_expr y0) y1 (unplaced_expr y2) = cc in unplaced-Assign x0 x1 x2 ∙ k ∙ sym (unplaced-Assign y0 y1 y2)))

parts-Cond : (x0 y0 : Expr) (x1 y1 : Expr) (x2 y2 : Expr) → Cond x0 x1 x2 ≡ Cond y0 y1 y2 → (x0 ≡ y0) × (x1 ≡ y1) × (x2 ≡ y2)
parts-Cond x0 y0 x1 y1 x2 y2 e =
    let layers : ExprNode-F.Cond x0 x1 x2 ≡ ExprNode-F.Cond y0 y1 y2 = sym (out-roll-ExprNode (ExprNode-F.Cond x0 x1 x2)) ∙ ap out-ExprNode (rolls-Cond x0 x1 x2 ∙ e ∙ sym (rolls-Cond y0 y1 y2)) ∙ out-roll-ExprNode (ExprNode-F.Cond y0 y1 y2) in
    (cc, cc, cc)

pub unplaced-Cond : (x0 : Expr) (x1 : Expr) (x2 : Expr) → unplaced_expr_node (Cond x0 x1 x2) ≡ Cond (unplaced_expr x0) (unplaced_expr x1) (unplaced_expr x2)
unplaced-Cond x0 x1 x2 = ap unplaced_expr_node (sym (rolls-Cond x0 x1 x2)) ∙ fold-roll-ExprNode _ _ expr_node_step expr_step (ExprNode-F.Cond x0 x1 x2)

pub same-Cond : (x0 y0 : Expr) (x1 y1 : Expr) (x2 y2 : Expr) → (unplaced_expr_node (Cond x0 x1 x2) ≡ unplaced_expr_node (Cond y0 y1 y2)) ↔ (unplaced_expr x0 ≡ unplaced_expr y0) × (unplaced_expr x1 ≡ unplaced_expr y1) × (unplaced_expr x2 ≡ unplaced_expr y2)
same-Cond x0 y0 x1 y1 x2 y2 =
    (λ i. parts-Cond (unplaced_expr x0) (unplaced_expr y0) (unplaced_expr x1) (unplaced_expr y1) (unplaced_expr x2) (unplaced_expr y2) (sym (unplaced-Cond x0 x1 x2) ∙ i ∙ unplaced-Cond y0 y1 y2), λ j. (let k : Cond (unplaced_expr x0) (unplaced_expr x1) (unplaced_expr x2) ≡ Cond (unplaced_expr y0) (unplaced_expr y1) (unplaced_expr y2) = cc in unplaced-Cond x0 x1 x2 ∙ k ∙ sym (unplaced-Cond y0 y1 y2)))

parts-Cast : (x0 y0 : TypeName) (x1 y1 : Expr) → Cast x0 x1 ≡ Cast y0 y1 → (x0 ≡ y0) × (x1 ≡ y1)
parts-Cast x0 y0 x1 y1 e =
    let layers : ExprNode-F.Cast x0 x1 ≡ ExprNode-F.Cast y0 y1 = sym (out-roll-ExprNode (ExprNode-F.Cast x0 x1)) ∙ ap out-ExprNode (rolls-Cast x0 x1 ∙ e ∙ sym (rolls-Cast y0 y1)) ∙ out-roll-ExprNode (ExprNode-F.Cast y0 y1) in
    (cc, cc)

pub unplaced-Cast : (x0 : TypeName) (x1 : Expr) → unplaced_expr_node (Cast x0 x1) ≡ Cast x0 (unplaced_expr x1)
unplaced-Cast x0 x1 = ap unplaced_expr_node (sym (rolls-Cast x0 x1)) ∙ fold-roll-ExprNode _ _ expr_node_step expr_step (ExprNode-F.Cast x0 x1)

pub same-Cast : (x0 y0 : TypeName) (x1 y1 : Expr) → (unplaced_expr_node (Cast x0 x1) ≡ unplaced_expr_node (Cast y0 y1)) ↔ (x0 ≡ y0) × (unplaced_expr x1 ≡ unplaced_expr y1)
same-Cast x0 y0 x1 y1 =
    (λ i. parts-Cast x0 y0 (unplaced_expr x1) (unplaced_expr y1) (sym (unplaced-Cast x0 x1) ∙ i ∙ unplaced-Cast y0 y1), λ j. (let k : Cast x0 (unplaced_expr x1) ≡ Cast y0 (unplaced_expr y1) = cc in unplaced-Cast x0 x1 ∙ k ∙ sym (unplaced-Cast y0 y1)))

parts-InstanceOf : (x0 y0 : Expr) (x1 y1 : TypeName) → InstanceOf x0 x1 ≡ InstanceOf y0 y1 → (x0 ≡ y0) × (x1 ≡ y1)
parts-InstanceOf x0 y0 x1 y1 e =
    let layers : ExprNode-F.InstanceOf x0 x1 ≡ ExprNode-F.InstanceOf y0 y1 = sym (out-roll-ExprNode (ExprNode-F.InstanceOf x0 x1)) ∙ ap out-ExprNode (rolls-InstanceOf x0 x1 ∙ e ∙ sym (rolls-InstanceOf y0 y1)) ∙ out-roll-ExprNode (ExprNode-F.InstanceOf y0 y1) in
    (cc, cc)

pub unplaced-InstanceOf : (x0 : Expr) (x1 : TypeName) → unplaced_expr_node (InstanceOf x0 x1) ≡ InstanceOf (unplaced_expr x0) x1
unplaced-InstanceOf x0 x1 = ap unplaced_expr_node (sym (rolls-InstanceOf x0 x1)) ∙ fold-roll-ExprNode _ _ expr_node_step expr_step (ExprNode-F.InstanceOf x0 x1)

pub same-InstanceOf : (x0 y0 : Expr) (x1 y1 : TypeName) → (unplaced_expr_node (InstanceOf x0 x1) ≡ unplaced_expr_node (InstanceOf y0 y1)) ↔ (unplaced_expr x0 ≡ unplaced_expr y0) × (x1 ≡ y1)
same-InstanceOf x0 y0 x1 y1 =
    (λ i. parts-InstanceOf (unplaced_expr x0) (unplaced_expr y0) x1 y1 (sym (unplaced-InstanceOf x0 x1) ∙ i ∙ unplaced-InstanceOf y0 y1), λ j. (let k : InstanceOf (unplaced_expr x0) x1 ≡ InstanceOf (unplaced_expr y0) y1 = cc in unplaced-InstanceOf x0 x1 ∙ k ∙ sym (unplaced-InstanceOf y0 y1)))

parts-Paren : (x0 y0 : Expr) → Paren x0 ≡ Paren y0 → (x0 ≡ y0)
parts-Paren x0 y0 e =
    let layers : ExprNode-F.Paren x0 ≡ ExprNode-F.Paren y0 = sym (out-roll-ExprNode (ExprNode-F.Paren x0)) ∙ ap out-ExprNode (rolls-Paren x0 ∙ e ∙ sym (rolls-Paren y0)) ∙ out-roll-ExprNode (ExprNode-F.Paren y0) in
    cc

pub unplaced-Paren : (x0 : Expr) → unplaced_expr_node (Paren x0) ≡ Paren (unplaced_expr x0)
unplaced-Paren x0 = ap unplaced_expr_node (sym (rolls-Paren x0)) ∙ fold-roll-ExprNode _ _ expr_node_step expr_step (ExprNode-F.Paren x0)

pub same-Paren : (x0 y0 : Expr) → (unplaced_expr_node (Paren x0) ≡ unplaced_expr_node (Paren y0)) ↔ unplaced_expr x0 ≡ unplaced_expr y0
same-Paren x0 y0 =
    (λ i. parts-Paren (unplaced_expr x0) (unplaced_expr y0) (sym (unplaced-Paren x0) ∙ i ∙ unplaced-Paren y0), λ j. (let k : Paren (unplaced_expr x0) ≡ Paren (unplaced_expr y0) = cc in unplaced-Paren x0 ∙ k ∙ sym (unplaced-Paren y0)))
