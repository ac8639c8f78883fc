-- The height that the grammar gives a block, a member or a source file is the height of its tree.
use Rattle.std.proofs.Common.{◌≡◌, ℕ, suc, max, List, [], ◌∷◌, ◌++◌, map, Option, Bool, refl, sym, ap, ◌∙◌, arith}
use Rattle.mol_base.specs.Token.{Token}
use Rattle.jav_tree.specs.declared.types.TypeName.{TypeName}
use Rattle.jav_tree.specs.declared.expr.Expr.{Expr}
use Rattle.jav_tree.specs.declared.stmt.Declarator.{Declarator}
use Rattle.jav_tree.specs.declared.stmt.Let.{Let}
use Rattle.jav_tree.specs.declared.stmt.ForStart.{ForStart}
use Rattle.jav_tree.specs.declared.stmt.Else.{Else}
use Rattle.jav_tree.specs.declared.stmt.Else.TheVariants as otherwise
use Rattle.jav_tree.specs.declared.stmt.StmtNode.{StmtNode}
use Rattle.jav_tree.specs.declared.stmt.StmtNode.TheVariants as node
use Rattle.jav_tree.specs.declared.stmt.Block.{Block, out-Block}
use Rattle.jav_tree.specs.declared.stmt.Stmt.{Stmt}
use Rattle.jav_tree.specs.declared.stmt.Else.TheOpen.{Else-F, StmtNode-F}
use Rattle.jav_tree.specs.declared.stmt.Else.TheViews.{out-roll-Block}
use Rattle.jav_tree.specs.declared.stmt.Else.TheFolds.{fold-roll-Else, fold-roll-StmtNode, fold-roll-Block, fold-roll-Stmt}
use Rattle.jav_tree.specs.declared.unit.Member.{Member}
use Rattle.jav_tree.specs.declared.unit.Unit.{Unit as Source}
use Rattle.jav_tree.specs.Blocks.{block_of}
use Rattle.jav_tree.specs.Height.{above, tallest, expr_height, maybe_height, declarator_height, let_height, start_height, else_height, stmt_node_height, block_height, stmt_height, member_height, unit_height, else_step, stmt_node_step, block_step, stmt_step}
use Rattle.jav_tree.specs.Statements.{Variable, Variables, Declaration, MaybeExpression, Update, Start, SuperStart, Plain, Choice, Otherwise, Branch, Enclosed, BlockOf, Single, Statements, ConstructorBlock, fronted, tailed, with_front}
use Rattle.jav_tree.specs.Statements as st
use Rattle.jav_tree.specs.Members.{Declared, Body, field_of, fields_of}
use Rattle.jav_tree.specs.Members as mem
use Rattle.jav_tree.specs.Units.{SourceFile}
use Rattle.jav_tree.specs.Units as unit
use Rattle.jav_tree.proofs.Heights.{capped, height_of_expression, height_of_listed, height_of_init, height_of_arguments, one_above, two_above, highest_of, only_one}

of-StmtNode-Block : (x0 : Block) → stmt_node_height (node.Block x0) ≡ above (block_height x0)
of-StmtNode-Block x0 = ap stmt_node_height (sym (node.rolls-Block x0)) ∙ fold-roll-StmtNode _ _ _ _ else_step stmt_node_step block_step stmt_step (StmtNode-F.StmtNode::Block x0)

of-StmtNode-Let : (x0 : Let) → stmt_node_height (node.Let x0) ≡ above (let_height x0)
of-StmtNode-Let x0 = ap stmt_node_height (sym (node.rolls-Let x0)) ∙ fold-roll-StmtNode _ _ _ _ else_step stmt_node_step block_step stmt_step (StmtNode-F.Let x0)

of-StmtNode-Do : (x0 : Expr) → stmt_node_height (node.Do x0) ≡ above (expr_height x0)
of-StmtNode-Do x0 = ap stmt_node_height (sym (node.rolls-Do x0)) ∙ fold-roll-StmtNode _ _ _ _ else_step stmt_node_step block_step stmt_step (StmtNode-F.Do x0)

of-StmtNode-If : (x0 : Expr) (x1 : Block) (x2 : Else) → stmt_node_height (node.If x0 x1 x2) ≡ above (max (expr_height x0) (max (block_height x1) (else_height x2)))
of-StmtNode-If x0 x1 x2 = ap stmt_node_height (sym (node.rolls-If x0 x1 x2)) ∙ fold-roll-StmtNode _ _ _ _ else_step stmt_node_step block_step stmt_step (StmtNode-F.StmtNode::If x0 x1 x2)

of-StmtNode-While : (x0 : Expr) (x1 : Block) → stmt_node_height (node.While x0 x1) ≡ above (max (expr_height x0) (block_height x1))
of-StmtNode-While x0 x1 = ap stmt_node_height (sym (node.rolls-While x0 x1)) ∙ fold-roll-StmtNode _ _ _ _ else_step stmt_node_step block_step stmt_step (StmtNode-F.While x0 x1)

of-StmtNode-For : (x0 : ForStart) (x1 : Option Expr) (x2 : List Expr) (x3 : Block) → stmt_node_height (node.For x0 x1 x2 x3) ≡ above (max (start_height x0) (max (maybe_height x1) (max (tallest (map expr_height x2)) (block_height x3))))
of-StmtNode-For x0 x1 x2 x3 = ap stmt_node_height (sym (node.rolls-For x0 x1 x2 x3)) ∙ fold-roll-StmtNode _ _ _ _ else_step stmt_node_step block_step stmt_step (StmtNode-F.For x0 x1 x2 x3)

of-StmtNode-Each : (x0 : Bool) (x1 : TypeName) (x2 : List ℕ) (x3 : Expr) (x4 : Block) → stmt_node_height (node.Each x0 x1 x2 x3 x4) ≡ above (max (expr_height x3) (block_height x4))
of-StmtNode-Each x0 x1 x2 x3 x4 = ap stmt_node_height (sym (node.rolls-Each x0 x1 x2 x3 x4)) ∙ fold-roll-StmtNode _ _ _ _ else_step stmt_node_step block_step stmt_step (StmtNode-F.Each x0 x1 x2 x3 x4)

of-StmtNode-Return : (x0 : Option Expr) → stmt_node_height (node.Return x0) ≡ above (maybe_height x0)
of-StmtNode-Return x0 = ap stmt_node_height (sym (node.rolls-Return x0)) ∙ fold-roll-StmtNode _ _ _ _ else_step stmt_node_step block_step stmt_step (StmtNode-F.Return x0)

of-StmtNode-Throw : (x0 : Expr) → stmt_node_height (node.Throw x0) ≡ above (expr_height x0)
of-StmtNode-Throw x0 = ap stmt_node_height (sym (node.rolls-Throw x0)) ∙ fold-roll-StmtNode _ _ _ _ else_step stmt_node_step block_step stmt_step (StmtNode-F.Throw x0)

of-StmtNode-Break : stmt_node_height node.Break ≡ 1
of-StmtNode-Break = ap stmt_node_height (sym node.rolls-Break) ∙ fold-roll-StmtNode _ _ _ _ else_step stmt_node_step block_step stmt_step StmtNode-F.Break

of-StmtNode-Continue : stmt_node_height node.Continue ≡ 1
of-StmtNode-Continue = ap stmt_node_height (sym node.rolls-Continue) ∙ fold-roll-StmtNode _ _ _ _ else_step stmt_node_step block_step stmt_step StmtNode-F.Continue

of-StmtNode-Empty : stmt_node_height node.Empty ≡ 1
of-StmtNode-Empty = ap stmt_node_height (sym node.rolls-Empty) ∙ fold-roll-StmtNode _ _ _ _ else_step stmt_node_step block_step stmt_step StmtNode-F.Empty

of-StmtNode-SuperInit : (x0 : List Expr) → stmt_node_height (node.SuperInit x0) ≡ above (tallest (map expr_height x0))
of-StmtNode-SuperInit x0 = ap stmt_node_height (sym (node.rolls-SuperInit x0)) ∙ fold-roll-StmtNode _ _ _ _ else_step stmt_node_step block_step stmt_step (StmtNode-F.SuperInit x0)

of-Else-None : else_height otherwise.None ≡ 0
of-Else-None = ap else_height (sym otherwise.rolls-None) ∙ fold-roll-Else _ _ _ _ else_step stmt_node_step block_step stmt_step Else-F.None

of-Else-Block : (x0 : Block) → else_height (otherwise.Block x0) ≡ block_height x0
of-Else-Block x0 = ap else_height (sym (otherwise.rolls-Block x0)) ∙ fold-roll-Else _ _ _ _ else_step stmt_node_step block_step stmt_step (Else-F.Else::Block x0)

of-Else-If : (x0 : Stmt) → else_height (otherwise.If x0) ≡ stmt_height x0
of-Else-If x0 = ap else_height (sym (otherwise.rolls-If x0)) ∙ fold-roll-Else _ _ _ _ else_step stmt_node_step block_step stmt_step (Else-F.Else::If x0)

of-block : (items : List Stmt) (tail : List (List ℕ)) → block_height (block_of items tail) ≡ above (tallest (map stmt_height items))
of-block items tail = fold-roll-Block _ _ _ _ else_step stmt_node_step block_step stmt_step (record { items = items; tail = tail })

of-stmt : (notes : List (List ℕ)) (at : ℕ) (n : StmtNode) → stmt_height (record { notes = notes; at = at; node = n }) ≡ stmt_node_height n
of-stmt notes at n = fold-roll-Stmt _ _ _ _ else_step stmt_node_step block_step stmt_step (record { notes = notes; at = at; node = n })

-- comments do not count
of-fronted : (comments : List (List ℕ)) (items : List Stmt) → map stmt_height (fronted comments items) ≡ map stmt_height items
of-fronted comments [] = refl
of-fronted comments (s ∷ rest) = ap (λ h. h ∷ map stmt_height rest) (of-stmt (comments ++ s.notes) s.at s.node ∙ sym (of-stmt s.notes s.at s.node))

front_block : (comments tail other : List (List ℕ)) (items : List Stmt) {h : ℕ} → block_height (block_of items tail) ≡ h → block_height (block_of (fronted comments items) other) ≡ h
front_block comments tail other items e = of-block (fronted comments items) other ∙ ap (λ hs. above (tallest hs)) (of-fronted comments items) ∙ sym (of-block items tail) ∙ e

one_block : (notes tail : List (List ℕ)) (at : ℕ) (n : StmtNode) (h : ℕ) → stmt_node_height n ≡ capped h → block_height (block_of (record { notes = notes; at = at; node = n } ∷ []) tail) ≡ capped (suc h)
one_block notes tail at n h e = of-block _ _ ∙ one_above _ h (only_one _ h (of-stmt notes at n ∙ e))

if_above : (x y h k : ℕ) → x ≡ capped h → y ≡ capped k → above (max x (max y 0)) ≡ capped (suc (max h k))
if_above x y h k e f = rw (e, f) (omega arith)

three_above : (h i j k l m : ℕ) → h ≡ capped k → i ≡ capped l → j ≡ capped m → above (max h (max i j)) ≡ capped (suc (max k (max l m)))
three_above h i j k l m e f g = rw (e, f, g) (omega arith)

four_above : (a b c d h j k i : ℕ) → a ≡ capped h → b ≡ capped j → c ≡ capped k → d ≡ capped i → above (max a (max b (max c d))) ≡ capped (suc (max h (max j (max k i))))
four_above a b c d h j k i e f g p = ap (λ x. above (max a (max b x))) (highest_of c d k i g p) ∙ three_above _ _ _ _ _ _ e f refl

height_of_variable : {limit h : ℕ} {d : ℕ × Declarator} {ts : List Token} → Variable limit h d ts → declarator_height d.1 ≡ capped h
height_of_variable (st.alone _) = refl
height_of_variable (st.valued _ _ p) = height_of_init p

height_of_variables : {limit h : ℕ} {ds : List (ℕ × Declarator)} {ts : List Token} → Variables limit h ds ts → tallest (map declarator_height (map (λ d. d.1) ds)) ≡ capped h
height_of_variables (st.last p) = only_one _ _ (height_of_variable p)
height_of_variables (st.more p _ q) = highest_of _ _ _ _ (height_of_variable p) (height_of_variables q)

height_of_declaration : {limit h : ℕ} {l : Let} {ts : List Token} → Declaration limit h l ts → let_height l ≡ capped h
height_of_declaration (st.declaration _ _ p) = height_of_variables p

height_of_maybe : {limit h : ℕ} {e : Option Expr} {ts : List Token} → MaybeExpression limit h e ts → maybe_height e ≡ capped h
height_of_maybe st.no = refl
height_of_maybe (st.yes p) = height_of_expression p

height_of_update : {limit h : ℕ} {es : List Expr} {ts : List Token} → Update limit h es ts → tallest (map expr_height es) ≡ capped h
height_of_update st.none = refl
height_of_update (st.some p _) = height_of_listed p

height_of_start : {limit h : ℕ} {s : ForStart} {ts : List Token} → Start limit h s ts → start_height s ≡ capped h
height_of_start st.none = refl
height_of_start (st.variables p) = height_of_declaration p
height_of_start (st.expressions p _) = height_of_listed p

height_of_super : {limit h : ℕ} {n : StmtNode} {ts : List Token} → SuperStart limit h n ts → stmt_node_height n ≡ capped h
height_of_super (st.super_start _ p _) = of-StmtNode-SuperInit _ ∙ one_above _ _ (height_of_arguments p)

mutual
  height_of_plain : {limit h : ℕ} {is_open : Bool} {n : StmtNode} {ts : List Token} → Plain limit h is_open n ts → stmt_node_height n ≡ capped h
  height_of_plain (st.expression p _ _) = of-StmtNode-Do _ ∙ one_above _ _ (height_of_expression p)
  height_of_plain (st.while _ _ p _ q) = of-StmtNode-While _ _ ∙ two_above _ _ _ _ (height_of_expression p) (height_of_branch q)
  height_of_plain (st.for _ _ p _ q _ r _ s) = of-StmtNode-For _ _ _ _ ∙ four_above _ _ _ _ _ _ _ _ (height_of_start p) (height_of_maybe q) (height_of_update r) (height_of_branch s)
  height_of_plain (st.each _ _ _ _ _ _ p _ q) = of-StmtNode-Each _ _ _ _ _ ∙ two_above _ _ _ _ (height_of_expression p) (height_of_branch q)
  height_of_plain (st.return _ p _) = of-StmtNode-Return _ ∙ one_above _ _ (height_of_maybe p)
  height_of_plain (st.throw _ p _) = of-StmtNode-Throw _ ∙ one_above _ _ (height_of_expression p)
  height_of_plain (st.break _ _) = of-StmtNode-Break
  height_of_plain (st.continue _ _) = of-StmtNode-Continue
  height_of_plain (st.nothing _) = of-StmtNode-Empty

  height_of_choice : {limit h : ℕ} {is_open : Bool} {n : StmtNode} {ts : List Token} → Choice limit h is_open n ts → stmt_node_height n ≡ capped h
  height_of_choice (st.short {e} {items} {tail} _ _ p _ q) = of-StmtNode-If e (block_of items tail) otherwise.None ∙ ap (λ z. above (max (expr_height e) (max (block_height (block_of items tail)) z))) of-Else-None
      ∙ if_above _ _ _ _ (height_of_expression p) (height_of_branch q)
  height_of_choice (st.long {e} {items} {tail} {comments} {other} _ _ p _ q _ _ r) = of-StmtNode-If e (block_of items (tail ++ comments)) other
      ∙ three_above _ _ _ _ _ _ (height_of_expression p) (of-block items (tail ++ comments) ∙ sym (of-block items tail) ∙ height_of_branch q) (height_of_otherwise r)

  height_of_otherwise : {limit h : ℕ} {is_open : Bool} {other : Else} {ts : List Token} → Otherwise limit h is_open other ts → else_height other ≡ capped h
  height_of_otherwise (st.else_if {n} p) = of-Else-If _ ∙ of-stmt [] _ n ∙ height_of_choice p
  height_of_otherwise (st.else_enclosed p) = of-Else-Block _ ∙ height_of_enclosed p

  height_of_branch : {limit h : ℕ} {is_open : Bool} {items : List Stmt} {tail : List (List ℕ)} {ts : List Token} → Branch limit h is_open items tail ts → block_height (block_of items tail) ≡ capped h
  height_of_branch (st.enclosed_branch p) = height_of_enclosed p
  height_of_branch (st.choice_branch {n} {comments} _ p) = one_block comments [] _ n _ (height_of_choice p)

  height_of_enclosed : {limit h : ℕ} {is_open : Bool} {items : List Stmt} {tail : List (List ℕ)} {ts : List Token} → Enclosed limit h is_open items tail ts → block_height (block_of items tail) ≡ capped h
  height_of_enclosed (st.enclosed_block {items} {tail} {comments} _ p) = front_block comments tail (tailed comments items tail) items (height_of_block p)
  height_of_enclosed (st.enclosed_plain {n} {comments} _ p) = one_block comments [] _ n _ (height_of_plain p)

  pub height_of_block : {limit h : ℕ} {items : List Stmt} {tail : List (List ℕ)} {ts : List Token} → BlockOf limit h items tail ts → block_height (block_of items tail) ≡ capped h
  height_of_block (st.braced _ p _ _) = of-block _ _ ∙ one_above _ _ (height_of_statements p)

  height_of_single : {limit h : ℕ} {n : StmtNode} {ts : List Token} → Single limit h n ts → stmt_node_height n ≡ capped h
  height_of_single (st.single_block {items} {tail} p) = of-StmtNode-Block (block_of items tail) ∙ one_above _ _ (height_of_block p)
  height_of_single (st.single_declaration p _) = of-StmtNode-Let _ ∙ one_above _ _ (height_of_declaration p)
  height_of_single (st.single_plain p) = height_of_plain p
  height_of_single (st.single_choice p) = height_of_choice p

  height_of_statements : {limit h : ℕ} {items : List Stmt} {ts : List Token} → Statements limit h items ts → tallest (map stmt_height items) ≡ capped h
  height_of_statements st.no_statements = refl
  height_of_statements (st.more_statements {n} {notes} _ p q) = highest_of _ _ _ _ (of-stmt notes _ n ∙ height_of_single p) (height_of_statements q)

pub height_of_body : {limit h : ℕ} {items : List Stmt} {tail : List (List ℕ)} {ts : List Token} → ConstructorBlock limit h items tail ts → block_height (block_of items tail) ≡ capped h
height_of_body (st.usual p) = height_of_block p
height_of_body (st.super_first {n} {notes} _ _ p q _ _) = of-block _ _ ∙ one_above _ _ (highest_of _ _ _ _ (of-stmt notes _ n ∙ height_of_super p) (height_of_statements q))

-- The height that a walk over the statements of a body counts.
pub counted_body : {limit h : ℕ} {items : List Stmt} {tail : List (List ℕ)} {ts : List Token} (b : Block) {seen : List Stmt} {highest result : ℕ} → ConstructorBlock limit h items tail ts
    → b ≡ block_of items tail → seen ≡ (out-Block b).items → highest ≡ tallest (map stmt_height seen) → result ≡ above highest → result ≡ capped h
counted_body {items} {tail} b p e s m r = r ∙ ap above (m ∙ ap (λ xs. tallest (map stmt_height xs)) (s ∙ ap (λ z. (out-Block z).items) e ∙ ap (λ z. z.items) (out-roll-Block (record { items = items; tail = tail }))))
    ∙ sym (of-block items tail) ∙ height_of_body p

height_of_further : {limit h : ℕ} {ds : List (ℕ × Declarator)} {ts : List Token} (words : List (List ℕ)) (to : TypeName) → Variables limit h ds ts
    → tallest (map member_height (map (λ d. field_of [] d.0 words to d.1) ds)) ≡ capped h
height_of_further words to (st.last p) = only_one _ _ (height_of_variable p)
height_of_further words to (st.more p _ q) = highest_of _ _ _ _ (height_of_variable p) (height_of_further words to q)

height_of_fields : {limit h : ℕ} {ds : List (ℕ × Declarator)} {ts : List Token} (front : List (List ℕ)) (at : ℕ) (words : List (List ℕ)) (to : TypeName) → Variables limit h ds ts
    → tallest (map member_height (fields_of front at words to ds)) ≡ capped h
height_of_fields front at words to (st.last p) = only_one _ _ (height_of_variable p)
height_of_fields front at words to (st.more p _ q) = highest_of _ _ _ _ (height_of_variable p) (height_of_further words to q)

pub height_of_member : {limit : ℕ} {class : Option (List ℕ)} {h : ℕ} {ms : List Member} {ts : List Token} → Declared limit class h ms ts → tallest (map member_height ms) ≡ capped h
height_of_member (mem.field _ _ _ _ p _) = height_of_fields _ _ _ _ p
height_of_member (mem.method {comments} {tail} {items} _ _ _ _ _ _ _ p) = only_one _ _ (front_block comments tail (tailed comments items tail) items (height_of_block p))
height_of_member (mem.abstract_method _ _ _ _ _ _ _) = refl
height_of_member (mem.constructor_of {comments} {tail} {items} _ _ _ _ _ _ _ p) = only_one _ _ (front_block comments tail (tailed comments items tail) items (height_of_body p))

zero_max : (n : ℕ) → max 0 n ≡ n
zero_max n = omega arith

max_of_both : (a b c d : ℕ) → b ≡ max c d → max a b ≡ max (max a c) d
max_of_both a b c d h = rw h (omega arith)

tallest_of_both : (ms ns : List Member) → tallest (map member_height (ms ++ ns)) ≡ max (tallest (map member_height ms)) (tallest (map member_height ns))
tallest_of_both [] ns = sym (zero_max _)
tallest_of_both (m ∷ ms) ns = max_of_both _ _ _ _ (tallest_of_both ms ns)

height_of_members : {limit : ℕ} {class : Option (List ℕ)} {h : ℕ} {ms : List Member} {ts : List Token} → Body limit class h ms ts → tallest (map member_height ms) ≡ capped h
height_of_members mem.none = refl
height_of_members (mem.more {ms} {ns} p q) = tallest_of_both ms ns ∙ highest_of _ _ _ _ (height_of_member p) (height_of_members q)

-- the height of a source file
pub height_of_unit : {limit h : ℕ} {u : Source} {ts : List Token} → SourceFile limit h u ts → unit_height u ≡ capped h
height_of_unit (unit.source _ _ _ _ _ _ _ _ _ _ _ _ p _ _ _) = height_of_members p
