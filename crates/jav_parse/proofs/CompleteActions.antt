-- Expressions that may be statements are read whole at the front of a statement.
use Rattle.std.proofs.Common.{◌≡◌, ℕ, suc, ◌+◌, ◌-◌, ◌<◌, ◌≤◌, max, not, true, false, List, [], ◌∷◌, ◌++◌, Ok, refl, sym, ap, ◌∙◌, append_assoc, arith}
use Rattle.mol_base.specs.Operators.{prefixes, is_step}
use Rattle.mol_base.specs.Token.{Token}
use Rattle.jav_tree.specs.Operators.{IsAssignment, IsStep, IsPrefix}
use Rattle.jav_tree.specs.declared.expr.Expr.{Expr}
use Rattle.jav_tree.specs.declared.expr.ExprNode.{ExprNode}
use Rattle.jav_tree.specs.declared.expr.ExprNode.TheVariants as node
use Rattle.jav_tree.specs.Types.{array_of}
use Rattle.jav_tree.specs.Expressions as tree
use Rattle.jav_tree.specs.Expressions.{Expression, Primary, ArrayCreation, expr_at}
use Rattle.jav_tree.specs.Statements.{MayBeStatement, is_statement_expression}
use Rattle.jav_tree.proofs.StatementExpressions as nodes
use Rattle.jav_parse_cursor.specs.declared.limits.Limits.{Limits}
use Rattle.jav_parse_expr.specs.declared.primary.Goal.TheVariants as goals
use Rattle.jav_parse_cursor.specs.declared.sort.Sort.{Sort}
use Rattle.jav_parse_cursor.specs.declared.sort.Sort.TheVariants as sort
use Rattle.jav_parse_cursor.specs.declared.tall.Shape.{Shape}
use Rattle.jav_parse_cursor.specs.declared.tall.Shape.TheVariants.{Target, Invocation, Loose}
use Rattle.jav_parse_cursor.specs.declared.tall.Tall.{Tall}
use Rattle.jav_parse_cursor.specs.Nodes as made
use Rattle.jav_parse_cursor.specs.Nodes.{is_target, is_invocation}
use Rattle.jav_parse_expr.specs.PrimaryRules.{acting, part}
use Rattle.jav_parse_expr.specs.ActionRules.{ending, acts, action}
use Rattle.jav_parse_expr.specs.ExprRules.{expr, inside, is_assignment, step_after, assign_to, assignment, prefixed}
use Rattle.jav_parse_cursor.specs.Reading.{Outcome, sort as next}
use Rattle.jav_parse_cursor.specs.Sorts.{sort_of, same_sort}
use Rattle.jav_parse.proofs.FirstTokens.{Begins, primary_begins, part_begins}
use Rattle.jav_parse.proofs.PartSteps.{sized, room, near_acting, part_ends}
use Rattle.jav_parse.proofs.ReadingSteps.{IsNot, binds, Ends, ends_not, ends_at, no_link, same_self, sort_at, le_false, eq_false, BeginsPart, take_goes, tokens_append}
use Rattle.jav_parse.proofs.SortsOfTokens.{step_sort, assignment_sort, among_text}
use Rattle.jav_parse.proofs.WholeLaws.{WholeLaws, shape_of, target_read}
use Rattle.jav_parse.proofs.WholeReadings.{Short, Follows, whole}
use Rattle.jav_parse.proofs.OperatorSteps.{no_assignment}

-- ---- what makes a statement of a part

part_no_step : (s : Sort) → BeginsPart s → same_sort s sort.Step ≡ false
unfolding same_sort
part_no_step sort.Name b = refl
part_no_step sort.Literal b = refl
part_no_step sort.This b = refl
part_no_step sort.Super b = refl
part_no_step sort.New b = refl
part_no_step sort.Open b = refl
part_no_step s b = absurd b

module _ (l : Limits) (top : ℕ) where
  ending_step : (x : Tall) (op : Token) (rest : List Token) → sort_of op ≡ sort.Step → is_target x.shape ≡ true → x.height < top → ending l top x (op ∷ rest) ≡ Ok (made.stepped x op, rest)
  unfolding ending step_after next
  ending_step x op rest h t low = rw (h, same_self sort.Step, t, le_false top x.height low, take_goes op rest) refl

  ending_assign : (x y : Tall) (op : Token) (us rest : List Token) → is_assignment (sort_of op) ≡ true → IsNot sort.Step (op ∷ us) → is_target x.shape ≡ true → x.height < top
      → expr l (top - 1) (goals.Level 1) us ≡ Ok (y, rest) → ending l top x (op ∷ us) ≡ Ok (made.assigned x op y, rest)
  unfolding ending assignment assign_to next
  ending_assign x y op us rest a n t low h = rw (n, a, t, le_false top x.height low, take_goes op us, h) refl

  ending_stands : (x : Tall) (rest : List Token) → IsNot sort.Step rest → is_assignment (next rest) ≡ false → is_invocation x.shape ≡ true → ending l top x rest ≡ Ok (x, rest)
  unfolding ending
  ending_stands x rest n a i = rw (n, a, i) refl

  -- how an action is read: `++` in front, or a part and what makes a statement of it
  pub data Acts (ts : List Token) (r : Tall × List Token) : Type 0 where
    by_step : next ts ≡ sort.Step → prefixed l top (expr l (top - 1)) (expr l (top - 1 - 1)) goals.Target ts ≡ Ok r → Acts ts r
    by_part : (x : Tall) (mid : List Token) → BeginsPart (next ts) → IsNot sort.Name mid → part l top (acting top) (inside l (acting top)) ts ≡ Ok (x, mid) → ending l top x mid ≡ Ok r → Acts ts r

  acts_step : (ts : List Token) (r : Tall × List Token) → next ts ≡ sort.Step → prefixed l top (expr l (top - 1)) (expr l (top - 1 - 1)) goals.Target ts ≡ Ok r → acts l top ts ≡ Ok r
  unfolding acts
  acts_step ts r h q = rw (h, same_self sort.Step) q

  acts_part : (ts : List Token) (x : Tall) (mid : List Token) (r : Tall × List Token) → IsNot sort.Step ts → part l top (acting top) (inside l (acting top)) ts ≡ Ok (x, mid) → ending l top x mid ≡ Ok r → acts l top ts ≡ Ok r
  unfolding acts
  acts_part ts x mid r h p q = rw (h, p) q

  acts_goes : (ts : List Token) (r : Tall × List Token) → Acts ts r → acts l top ts ≡ Ok r
  acts_goes ts r (by_step h q) = acts_step ts r h q
  acts_goes ts r (by_part x mid b n p q) = acts_part ts x mid r (part_no_step (next ts) b) p q

  action_is : (ts : List Token) (r : Tall × List Token) → 0 < top → acts l top ts ≡ Ok r → action l top ts ≡ Ok r
  unfolding action
  action_is ts r some q = rw (eq_false top 0 some) q

  pub action_goes : (ts : List Token) (r : Tall × List Token) → 0 < top → Acts ts r → action l top ts ≡ Ok r
  action_goes ts r some a = action_is ts r some (acts_goes ts r a)

-- an expression that may be a statement is read whole
pub record ActionRead (l : Limits) (h : ℕ) (e : Expr) (ts : List Token) : Type 0 where
  pub some : 0 < h
  pub begins : (rest : List Token) → Begins (next (ts ++ rest))
  pub shape : Shape
  pub read : (top : ℕ) → h ≤ top → (rest : List Token) → Ends 1 rest → Short l ts rest → Acts l top (ts ++ rest) (sized e h shape, rest)

-- ---- what may follow a part

assign_binds : (s : Sort) → is_assignment s ≡ true → binds s < 2
assign_binds sort.Equals h = omega arith
assign_binds sort.Compound h = omega arith
assign_binds s h = absurd (cc)

ends_sort : (level : ℕ) (op : Token) (rest : List Token) → binds (sort_of op) < level → Ends level (op ∷ rest)
unfolding next
ends_sort level op rest h = h

assign_ends : (level : ℕ) → 1 < level → (op : Token) (rest : List Token) → IsAssignment op → Ends level (op ∷ rest)
assign_ends level low op rest h = ends_sort level op rest (let a = assign_binds (sort_of op) (assignment_sort h) in omega arith)

step_ends : (op : Token) (rest : List Token) → IsStep op → Ends 15 (op ∷ rest)
step_ends op rest h = ends_at sort.Step 15 op rest (step_sort h) (omega arith)

tall_is : (e : Expr) (h k : ℕ) (s : Shape) (rest : List Token) → h ≡ k → ◌≡◌ {A = Outcome Tall} (Ok (sized e h s, rest)) (Ok (sized e k s, rest))
tall_is e h k s rest q = ap (λ n. Ok (sized e n s, rest)) q

-- ---- the forms

follows_plain : (s : tree.Shape) (rest : List Token) → IsNot sort.Open rest → Follows (shape_of s) rest
follows_plain tree.target rest h = h
follows_plain tree.invocation rest h = h
follows_plain tree.atom rest h = h

step_begins : (op : Token) (rest : List Token) → sort_of op ≡ sort.Step → Begins (next (op ∷ rest))
unfolding next
step_begins op rest h = rw h tt

module _ (l : Limits) (w : WholeLaws l) where
  -- a part at the front, as high as what makes a statement of it leaves
  front_part : (s : tree.Shape) (h : ℕ) (e : Expr) (ts : List Token) → Primary l.most s h e ts → (top : ℕ) → h ≤ room (acting top) (shape_of s) → (mid : List Token) → Ends 15 mid → Short l ts mid
      → part l top (acting top) (inside l (acting top)) (ts ++ mid) ≡ Ok (sized e h (shape_of s), mid)
  front_part s h e ts p top low mid ends short =
      part_ends l top (acting top) (ts ++ mid) (sized e h (shape_of s)) mid
      ((w.part s h e ts p).reach top (acting top) (near_acting top) low mid (follows_plain s mid (ends_not sort.Open 15 mid ends (omega arith))) short) (no_link mid ends)

  assign_read : (h k : ℕ) (op : Token) (a b : Expr) (ts us : List Token) → Primary l.most tree.target h a ts → IsAssignment op → Expression l.most 1 k b us
      → ActionRead l (suc (max h k)) (expr_at a.at (node.Assign a op.text b)) (ts ++ op ∷ us)
  assign_read h k op a b ts us p ho x = record {
    some = omega arith;
    begins = λ rest. rw append_assoc (part_begins (next (ts ++ (op ∷ us ++ rest))) (primary_begins p (op ∷ us ++ rest)));
    shape = Loose;
    read = λ top fits rest ends short.
        let y = w.expression k b us x in let some = (w.part tree.target h a ts p).some in
        let z = tokens_append ts (op ∷ us) in let z2 = tokens_append us rest in
        rw append_assoc (by_part (sized a h Target) (op ∷ us ++ rest) (primary_begins p (op ∷ us ++ rest)) (ends_not sort.Name 15 (op ∷ us ++ rest) (assign_ends 15 (omega arith) op (us ++ rest) ho) (omega arith))
        (front_part tree.target h a ts p top (omega arith) (op ∷ us ++ rest) (assign_ends 15 (omega arith) op (us ++ rest) ho) (omega arith))
        (ending_assign l top (sized a h Target) (sized b k y.shape) op (us ++ rest) rest (assignment_sort ho) (ends_not sort.Step 14 (op ∷ us ++ rest) (assign_ends 14 (omega arith) op (us ++ rest) ho) (omega arith))
        refl (omega arith) (whole y (omega arith) (top - 1) (omega arith) rest ends (omega arith))
        ∙ tall_is (expr_at a.at (node.Assign a op.text b)) (max h k + 1) (suc (max h k)) Loose rest (omega arith)));
  }

  step_after_read : (h : ℕ) (op : Token) (e : Expr) (ts : List Token) → Primary l.most tree.target h e ts → IsStep op → ActionRead l (suc h) (expr_at e.at (node.Post e op.text)) (ts ++ op ∷ [])
  step_after_read h op e ts p ho = record {
    some = omega arith;
    begins = λ rest. rw append_assoc (part_begins (next (ts ++ op ∷ rest)) (primary_begins p (op ∷ rest)));
    shape = Loose;
    read = λ top fits rest ends short.
        let some = (w.part tree.target h e ts p).some in
        let z = tokens_append ts (op ∷ []) in
        rw append_assoc (by_part (sized e h Target) (op ∷ rest) (primary_begins p (op ∷ rest)) (ends_not sort.Name 15 (op ∷ rest) (step_ends op rest ho) (omega arith))
        (front_part tree.target h e ts p top (omega arith) (op ∷ rest) (step_ends op rest ho) (omega arith))
        (ending_step l top (sized e h Target) op rest (step_sort ho) refl (omega arith) ∙ tall_is (expr_at e.at (node.Post e op.text)) (h + 1) (suc h) Loose rest (omega arith)));
  }

  prefixed_goes : (top : ℕ) (op : Token) (x : Tall) (us rest : List Token) → 1 < top → expr l (top - 1) goals.Target us ≡ Ok (x, rest)
      → prefixed l top (expr l (top - 1)) (expr l (top - 1 - 1)) goals.Target (op ∷ us) ≡ Ok (made.unary op x, rest)
  unfolding prefixed
  prefixed_goes top op x us rest high q = rw (le_false top 1 high, take_goes op us, q) refl

  step_before_read : (h : ℕ) (op : Token) (e : Expr) (ts : List Token) → IsStep op → Primary l.most tree.target h e ts → ActionRead l (suc h) (expr_at op.start (node.Unary op.text e)) (op ∷ ts)
  step_before_read h op e ts ho p = record {
    some = omega arith;
    begins = λ rest. step_begins op (ts ++ rest) (step_sort ho);
    shape = Loose;
    read = λ top fits rest ends short.
        let some = (w.part tree.target h e ts p).some in
        by_step (sort_at op (ts ++ rest) ∙ step_sort ho) (prefixed_goes top op (sized e h Target) (ts ++ rest) rest (omega arith)
        (target_read l w h e ts p (top - 1) (omega arith) rest (omega arith) (omega arith)) ∙ tall_is (expr_at op.start (node.Unary op.text e)) (h + 1) (suc h) Loose rest (omega arith));
  }

  invocation_read : (h : ℕ) (e : Expr) (ts : List Token) → Primary l.most tree.invocation h e ts → ActionRead l h e ts
  invocation_read h e ts p = record {
    some = (w.part tree.invocation h e ts p).some;
    begins = λ rest. part_begins (next (ts ++ rest)) (primary_begins p rest);
    shape = Invocation;
    read = λ top fits rest ends short.
        by_part (sized e h Invocation) rest (primary_begins p rest) (ends_not sort.Name 1 rest ends (omega arith)) (front_part tree.invocation h e ts p top fits rest (omega arith) short)
        (ending_stands l top (sized e h Invocation) rest (ends_not sort.Step 1 rest ends (omega arith)) (no_assignment rest ends) refl);
  }

  no_statement : (n : ExprNode) → is_statement_expression n ≡ false → is_statement_expression n ≡ true → ⊥
  no_statement n a b = cc

  primary_read : (s : tree.Shape) (h : ℕ) (e : Expr) (ts : List Token) → Primary l.most s h e ts → MayBeStatement e → ActionRead l h e ts
  primary_read s h e ts (tree.literal {t = t} a) m = absurd (no_statement (node.Lit t.text) (nodes.statement-Lit t.text) m)
  primary_read s h e ts (tree.this a) m = absurd (no_statement node.This nodes.statement-This m)
  primary_read s h e ts (tree.paren {e = x} a b c) m = absurd (no_statement (node.Paren x) (nodes.statement-Paren x) m)
  primary_read s h e ts (tree.name {t = t} a) m = absurd (no_statement (node.Name t.text) (nodes.statement-Name t.text) m)
  primary_read s h e ts (tree.field {t = t} {e = x} a b c) m = absurd (no_statement (node.Dot x t.text) (nodes.statement-Dot x t.text) m)
  primary_read s h e ts (tree.index {e = x} {i = i} a b c d) m = absurd (no_statement (node.Index x i) (nodes.statement-Index x i) m)
  primary_read s h e ts (tree.call_on a b c d) m = invocation_read h e ts (tree.call_on a b c d)
  primary_read s h e ts (tree.call a b) m = invocation_read h e ts (tree.call a b)
  primary_read s h e ts (tree.super_call a b c d) m = invocation_read h e ts (tree.super_call a b c d)
  primary_read s h e ts (tree.new a b c) m = invocation_read h e ts (tree.new a b c)

  creation_read : (h : ℕ) (e : Expr) (ts : List Token) → ArrayCreation l.most h e ts → MayBeStatement e → ActionRead l h e ts
  creation_read h e ts (tree.sized {n = n} {base = base} {sizes = sizes} a b c d f) m = absurd (no_statement (node.NewArray base sizes n) (nodes.statement-NewArray base sizes n) m)
  creation_read h e ts (tree.filled {n = n} {base = base} {items = items} a b c d f) m = absurd (no_statement (node.ArrayLit (array_of (suc n) base) items) (nodes.statement-ArrayLit (array_of (suc n) base) items) m)

  no_prefix : (op : Token) (e : Expr) → IsPrefix op → is_statement_expression (node.Unary op.text e) ≡ true → ⊥
  no_prefix op e h m =
      let step : is_step op.text ≡ true = sym (nodes.statement-Unary op.text e) ∙ m in
      let other = among_text (λ t. not (is_step t)) prefixes op.text refl h.written in
      cc

  -- an expression that may be a statement is read whole
  pub action_read : (h : ℕ) (e : Expr) (ts : List Token) → Expression l.most 1 h e ts → MayBeStatement e → ActionRead l h e ts
  action_read h e ts (tree.assign {h = j} {k = k} {op = op} {a = a} {b = b} {ts = us} {us = vs} low p ho x) m = assign_read j k op a b us vs p ho x
  action_read h e ts (tree.cond {test = x} {a = a} {b = b} low p q y r z) m = absurd (no_statement (node.Cond x a b) (nodes.statement-Cond x a b) m)
  action_read h e ts (tree.binary {op = op} {a = a} {b = b} low o x y) m = absurd (no_statement (node.Binary a op.text b) (nodes.statement-Binary a op.text b) m)
  action_read h e ts (tree.instance_of {e = x} {to = to} low p q r) m = absurd (no_statement (node.InstanceOf x to) (nodes.statement-InstanceOf x to) m)
  action_read h e ts (tree.prefix {op = op} {e = x} low ho p) m = absurd (no_prefix op x ho m)
  action_read h e ts (tree.step_before {h = j} {op = op} {e = x} {ts = us} low ho p) m = step_before_read j op x us ho p
  action_read h e ts (tree.cast {to = to} {e = x} low a b c may p) m = absurd (no_statement (node.Cast to x) (nodes.statement-Cast to x) m)
  action_read h e ts (tree.step_after {h = j} {op = op} {e = x} {ts = us} low p ho) m = step_after_read j op x us p ho
  action_read h e ts (tree.creation low p) m = creation_read h e ts p m
  action_read h e ts (tree.primary {shape = s} p) m = primary_read s h e ts p m
