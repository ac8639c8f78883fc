-- Operands, operators and casts of the grammar are read.
use Rattle.std.proofs.Common.{◌≡◌, ◌⊎◌, inl, inr, ℕ, zero, suc, ◌+◌, ◌-◌, ◌<◌, ◌≤◌, max, Bool, true, false, List, [], ◌∷◌, ◌++◌, Ok, refl, sym, ap, ◌∙◌, subst, append_assoc, arith}
use Rattle.mol_base.specs.Token.{Token}
use Rattle.jav_tree.specs.declared.types.TypeName.{TypeName}
use Rattle.jav_tree.specs.declared.expr.Expr.{Expr}
use Rattle.jav_tree.specs.declared.expr.ExprNode.TheVariants as node
use Rattle.jav_tree.specs.Expressions.{expr_at, MayBeCast}
use Rattle.jav_tree.specs.Operators.{IsBinary, IsAssignment, IsStep, IsPrefix, BeginsWithSign}
use Rattle.jav_tree.specs.Tokens.{IsSymbol, IsKeyword}
use Rattle.jav_tree.specs.Types.{WholeType, is_primitive}
use Rattle.jav_parse_cursor.specs.declared.limits.Limits.{Limits}
use Rattle.jav_parse_expr.specs.declared.primary.Goal.TheVariants.{Level, Target as OfTarget}
use Rattle.jav_parse_cursor.specs.declared.sort.Sort.{Sort}
use Rattle.jav_parse_cursor.specs.declared.sort.Sort.TheVariants as sort
use Rattle.jav_parse_cursor.specs.declared.tall.Shape.{Shape}
use Rattle.jav_parse_cursor.specs.declared.tall.Shape.TheVariants.{Target, Invocation, Array, Loose}
use Rattle.jav_parse_cursor.specs.declared.tall.Tall.{Tall}
use Rattle.jav_parse_expr.specs.ExprRules as rule
use Rattle.jav_parse_expr.specs.ExprRules.{level_of, is_assignment, begins_operand, operand, climb, postfix, expr, inside}
use Rattle.jav_parse_cursor.specs.Nodes as made
use Rattle.jav_parse_expr.specs.PrimaryRules.{free, stepping, part}
use Rattle.jav_parse_cursor.specs.Reading.{sort as next}
use Rattle.jav_parse_cursor.specs.Sorts.{sort_of}
use Rattle.jav_parse_cursor.specs.TypeRules.{whole_type}
use Rattle.jav_parse.proofs.CastSteps.{prefix_goes, step_goes, cast_read}
use Rattle.jav_parse.proofs.CompletePrimary.{tall_same, ok_tall}
use Rattle.jav_parse.proofs.CompleteTypes.{whole_read}
use Rattle.jav_parse.proofs.FirstTokens.{Begins}
use Rattle.jav_parse.proofs.OpenedParens.{operand_part}
use Rattle.jav_parse.proofs.OperatorSteps.{postfix_ends, postfix_goes, climb_binary, climb_instance, operators_assign, choice_goes, operator_apart}
use Rattle.jav_parse.proofs.PartSteps.{sized, room, near_free, near_stepping, part_ends}
use Rattle.jav_parse.proofs.ReadingSteps.{tokens_append, binds, Ends, ends_at, ends_not, no_link, no_operand, BeginsPart}
use Rattle.jav_parse.proofs.SortsOfTokens.{IsOperator, binary_sort, assignment_sort, step_sort, prefix_sort, open_sort, close_sort, question_sort, colon_sort, instance_of_sort}
use Rattle.jav_parse_expr.proofs.AtHeight.{expr_is}
use Rattle.jav_parse.proofs.WholeReadings.{Builds, Short, Follows, PartRead, Climbing, Climbs, ExprRead, level_read, climbed, whole, climbs}

-- an operand is read
pub record OperandRead (l : Limits) (h : ℕ) (e : Expr) (s : Shape) (ts : List Token) : Type 0 where
  pub some : 0 < h
  pub read : (top : ℕ) → h ≤ top → (rest : List Token) → Ends 13 rest → Short l ts rest → operand l top (expr l (top - 1)) (expr l (top - 1 - 1)) (ts ++ rest) ≡ Ok (sized e h s, rest)

room_free : (s : Shape) (top : ℕ) → room (free top) s ≡ top
room_free Target top = refl
room_free Invocation top = refl
room_free s top = refl

follows_ends : (s : Shape) (rest : List Token) → Ends 15 rest → Follows s rest
follows_ends Array rest h = ends_not sort.Left 15 rest h (omega arith)
follows_ends s rest h = ends_not sort.Open 15 rest h (omega arith)

binds_operator : (s : Sort) → 3 ≤ level_of s → binds s ≡ level_of s
binds_operator sort.Dot h = absurd (omega arith)
binds_operator sort.Left h = absurd (omega arith)
binds_operator sort.Name h = absurd (omega arith)
binds_operator sort.Literal h = absurd (omega arith)
binds_operator sort.This h = absurd (omega arith)
binds_operator sort.Super h = absurd (omega arith)
binds_operator sort.New h = absurd (omega arith)
binds_operator sort.Open h = absurd (omega arith)
binds_operator sort.Not h = absurd (omega arith)
binds_operator sort.Step h = absurd (omega arith)
binds_operator sort.Question h = absurd (omega arith)
binds_operator sort.Equals h = absurd (omega arith)
binds_operator sort.Compound h = absurd (omega arith)
binds_operator s h = refl

ends_operator : (own level : ℕ) (op : Token) (rest : List Token) → IsOperator own (sort_of op) → own < level → Ends level (op ∷ rest)
unfolding next
ends_operator own level op rest o low = let a = o.level in let b = o.low in let c = binds_operator (sort_of op) (omega arith) in omega arith

binds_assignment : (s : Sort) → is_assignment s ≡ true → binds s ≡ 1
binds_assignment sort.Equals h = refl
binds_assignment sort.Compound h = refl
binds_assignment s h = absurd (cc)

ends_assignment : (op : Token) (rest : List Token) (level : ℕ) → is_assignment (sort_of op) ≡ true → 1 < level → Ends level (op ∷ rest)
unfolding next
ends_assignment op rest level h low = let a = binds_assignment (sort_of op) h in omega arith

no_assignment_at : (s : Sort) (c : Token) (rest : List Token) → sort_of c ≡ s → is_assignment s ≡ false → is_assignment (next (c ∷ rest)) ≡ false
unfolding next
no_assignment_at s c rest h q = ap is_assignment h ∙ q

level_at : (s : Sort) (c : Token) (rest : List Token) → sort_of c ≡ s → level_of (next (c ∷ rest)) ≡ level_of s
unfolding next
level_at s c rest h = ap level_of h

plain_or : (a b : ℕ) (c : Bool) → c ≡ false → (c ≡ false) ⊎ (a < b)
plain_or a b c h = inl h

module _ (l : Limits) (w : Builds l) where
  -- ---- operands

  -- a part, before what may follow one
  part_operand : {s : Shape} {h : ℕ} {e : Expr} {ts : List Token} → PartRead l s h e ts → (top : ℕ) → h ≤ top → (rest : List Token) → BeginsPart (next (ts ++ rest)) → Ends 15 rest → Short l ts rest
      → operand l top (expr l (top - 1)) (expr l (top - 1 - 1)) (ts ++ rest) ≡ postfix l top (expr l (top - 1)) (expr l (top - 1 - 1)) (sized e h s) rest
  part_operand {s} {h} {e} {ts} x top low rest begins ends short =
      let f = room_free s top in
      operand_part l w.built top (ts ++ rest) (sized e h s) rest (omega (arith, tokens_append ts rest)) begins (no_operand rest ends)
      (part_ends l top (free top) (ts ++ rest) (sized e h s) rest (x.reach top (free top) (near_free top) (omega arith) rest (follows_ends s rest ends) short) (no_link rest ends))

  pub part_whole : {s : Shape} {h : ℕ} {e : Expr} {ts : List Token} → ((rest : List Token) → BeginsPart (next (ts ++ rest))) → PartRead l s h e ts → OperandRead l h e s ts
  part_whole {s} {h} {e} {ts} begins x = record {
    some = x.some;
    read = λ top low rest ends short.
        part_operand x top low rest (begins rest) (omega arith) short
        ∙ postfix_ends l top (expr l (top - 1)) (expr l (top - 1 - 1)) (sized e h s) rest (ends_not sort.Step 13 rest ends (omega arith));
  }

  step_after_reach : (h : ℕ) (op : Token) (e : Expr) (ts : List Token) → ((rest : List Token) → BeginsPart (next (ts ++ rest))) → PartRead l Target h e ts → sort_of op ≡ sort.Step
      → (top : ℕ) → suc h ≤ top → (rest : List Token) → Short l (ts ++ op ∷ []) rest
      → operand l top (expr l (top - 1)) (expr l (top - 1 - 1)) (ts ++ op ∷ rest) ≡ Ok (sized (expr_at e.at (node.Post e op.text)) (suc h) Loose, rest)
  step_after_reach h op e ts begins x ho top low rest short =
      part_operand x top (omega arith) (op ∷ rest) (begins (op ∷ rest)) (ends_at sort.Step 15 op rest ho (omega arith)) (omega (arith, tokens_append ts (op ∷ [])))
      ∙ postfix_goes l top (expr l (top - 1)) (expr l (top - 1 - 1)) (sized e h Target) op rest ho refl low
      ∙ ok_tall _ (h + 1) (suc h) Loose rest (omega arith)

  pub step_after_whole : {h : ℕ} {op : Token} {e : Expr} {ts : List Token} → ((rest : List Token) → BeginsPart (next (ts ++ rest))) → PartRead l Target h e ts → IsStep op
      → OperandRead l (suc h) (expr_at e.at (node.Post e op.text)) Loose (ts ++ op ∷ [])
  step_after_whole {h} {op} {e} {ts} begins x o = record {
    some = omega arith;
    read = λ top low rest ends short. rw append_assoc (step_after_reach h op e ts begins x (step_sort o) top low rest short);
  }

  pub prefix_whole : {h : ℕ} {op : Token} {e : Expr} {ts : List Token} → IsPrefix op → ExprRead l 13 h e ts → OperandRead l (suc h) (expr_at op.start (node.Unary op.text e)) Loose (op ∷ ts)
  prefix_whole {h} {op} {e} {ts} o x = record {
    some = omega arith;
    read = λ top low rest ends short. let p = x.some in
        prefix_goes l top (expr l (top - 1)) (expr l (top - 1 - 1)) op (ts ++ rest) (sized e h x.shape) rest (prefix_sort o) (omega arith) (whole x (omega arith) (top - 1) (omega arith) rest ends (omega arith))
        ∙ ok_tall _ (h + 1) (suc h) Loose rest (omega arith);
  }

  target_is : (d : ℕ) (ts : List Token) (x : Tall) (rest : List Token) → 0 < d → made.is_target x.shape ≡ true → part l d (stepping d) (inside l (stepping d)) ts ≡ Ok (x, rest) → expr l d OfTarget ts ≡ Ok (x, rest)
  unfolding rule.target
  target_is d ts x rest some t h = expr_is l d OfTarget some ts ∙ rw (h, t) refl

  pub step_before_whole : {h : ℕ} {op : Token} {e : Expr} {ts : List Token} → IsStep op → PartRead l Target h e ts → OperandRead l (suc h) (expr_at op.start (node.Unary op.text e)) Loose (op ∷ ts)
  step_before_whole {h} {op} {e} {ts} o x = record {
    some = omega arith;
    read = λ top low rest ends short. let p = x.some in
        step_goes l top (expr l (top - 1)) (expr l (top - 1 - 1)) op (ts ++ rest) (sized e h Target) rest (step_sort o) (omega arith)
        (target_is (top - 1) (ts ++ rest) (sized e h Target) rest (omega arith) refl
        (part_ends l (top - 1) (stepping (top - 1)) (ts ++ rest) (sized e h Target) rest
        (x.reach (top - 1) (stepping (top - 1)) (near_stepping (top - 1)) (omega arith) rest (follows_ends Target rest (omega arith)) (omega arith)) (no_link rest (omega arith))))
        ∙ ok_tall _ (h + 1) (suc h) Loose rest (omega arith);
  }

  may_by : (to : TypeName) (us : List Token) (begins : Bool) → MayBeCast to us → (begins ≡ true) ⊎ BeginsWithSign us → (is_primitive to ≡ true) ⊎ (begins ≡ true)
  may_by to us begins (inl p) b = inl p
  may_by to us begins (inr n) (inl b) = inr b
  may_by to us begins (inr n) (inr b) = absurd (n b)

  cast_reach : (h : ℕ) (left right : Token) (to : TypeName) (e : Expr) (ts us : List Token) → sort_of left ≡ sort.Open → WholeType l.most to ts → sort_of right ≡ sort.Close → MayBeCast to us
      → ((rest : List Token) → (begins_operand (next (us ++ rest)) ≡ true) ⊎ BeginsWithSign us) → ExprRead l 13 h e us
      → (top : ℕ) → suc h ≤ top → (rest : List Token) → Ends 13 rest → Short l (left ∷ ts ++ right ∷ us) rest
      → operand l top (expr l (top - 1)) (expr l (top - 1 - 1)) (left ∷ ts ++ (right ∷ us ++ rest)) ≡ Ok (sized (expr_at left.start (node.Cast to e)) (suc h) Loose, rest)
  cast_reach h left right to e ts us hl t hr may begins x top low rest ends short =
      let p = x.some in
      cast_read l top (expr l (top - 1)) (expr l (top - 1 - 1)) t w.built (omega (arith, tokens_append ts (right ∷ us))) left right (us ++ rest) (sized e h x.shape) rest hl hr
      (may_by to us (begins_operand (next (us ++ rest))) may (begins rest)) (omega arith)
      (whole x (omega arith) (top - 1) (omega arith) rest ends (omega (arith, tokens_append ts (right ∷ us))))
      ∙ ok_tall _ (h + 1) (suc h) Loose rest (omega arith)

  pub cast_whole : {h : ℕ} {left right : Token} {to : TypeName} {e : Expr} {ts us : List Token} → IsSymbol "(" left → WholeType l.most to ts → IsSymbol ")" right → MayBeCast to us
      → ((rest : List Token) → (begins_operand (next (us ++ rest)) ≡ true) ⊎ BeginsWithSign us) → ExprRead l 13 h e us
      → OperandRead l (suc h) (expr_at left.start (node.Cast to e)) Loose (left ∷ ts ++ right ∷ us)
  cast_whole {h} {left} {right} {to} {e} {ts} {us} a t c may begins x = record {
    some = omega arith;
    read = λ top low rest ends short. rw append_assoc (cast_reach h left right to e ts us (open_sort a) t (close_sort c) may begins x top low rest ends short);
  }

  -- ---- expressions

  pub operand_whole : {level h : ℕ} {e : Expr} {s : Shape} {ts : List Token} → ((rest : List Token) → Begins (next (ts ++ rest))) → OperandRead l h e s ts → ExprRead l level h e ts
  operand_whole {level} {h} {e} {s} {ts} begins x = record {
    some = x.some;
    begins = begins;
    shape = s;
    form = inl (record {
      cap = 12;
      tight = omega arith;
      high = omega arith;
      reach = λ top low least below rest ends short. record { first = sized e h s; mid = rest; operand_is = x.read top low rest ends short; plain = λ p. p; turns = top; enough = omega arith; same = refl };
    });
  }

  -- one operator more
  binary_by : (top least own h k : ℕ) (a b : Expr) (s : Shape) (ts us : List Token) (cap : ℕ) (op : Token) (y : Tall) (rest : List Token) → (c : Climbing l top least ts (sized a h s) cap (op ∷ us)) → (n : ℕ) → n ≡ c.turns
      → IsOperator own (sort_of op) → least ≤ own → own ≤ cap → suc (max h k) ≤ top → ◌≡◌ {A = Tall} y (sized b k y.shape) → expr l (top - 1) (Level (own + 1)) us ≡ Ok (y, rest)
      → Climbing l top least ts (sized (expr_at a.at (node.Binary a op.text b)) (suc (max h k)) Loose) own rest
  binary_by top least own h k a b s ts us cap op y rest c zero e o low high fits same read = absurd (let z = c.enough in omega arith)
  binary_by top least own h k a b s ts us cap op y rest c (suc n) e o low high fits same read = record {
    first = c.first;
    mid = c.mid;
    operand_is = c.operand_is;
    plain = λ p. c.plain (let level = o.level in operator_apart (next (op ∷ us)) own (level_same op us own level) o.low);
    turns = n;
    enough = let z = c.enough in omega arith;
    same = c.same
        ∙ ap (λ m. climb l top (expr l (top - 1)) (expr l (top - 1 - 1)) m least cap (sized a h s) (op ∷ us)) (sym e)
        ∙ climb_binary l top (expr l (top - 1)) (expr l (top - 1 - 1)) n least cap own (sized a h s) y op us rest o low high (omega arith) read
        ∙ ap (λ v. climb l top (expr l (top - 1)) (expr l (top - 1 - 1)) n least own v rest) (joined_is a b h k s op y same);
  }
    where
      level_same : (op : Token) (us : List Token) (own : ℕ) → level_of (sort_of op) ≡ own → level_of (next (op ∷ us)) ≡ own
      level_same op us own h = level_at (sort_of op) op us refl ∙ h

      joined_is : (a b : Expr) (h k : ℕ) (s : Shape) (op : Token) (y : Tall) → y ≡ sized b k y.shape
          → made.joined (sized a h s) op y ≡ sized (expr_at a.at (node.Binary a op.text b)) (suc (max h k)) Loose
      joined_is a b h k s op y e = ap (made.joined (sized a h s) op) e ∙ tall_same (expr_at a.at (node.Binary a op.text b)) (max h k + 1) (suc (max h k)) Loose (omega arith)

  binary_reach : (level own h k : ℕ) (op : Token) (a b : Expr) (ts us : List Token) → level ≤ own → IsOperator own (sort_of op) → (x : ExprRead l own h a ts) → ExprRead l (suc own) k b us
      → (c : Climbs l own h a x.shape ts) → (top : ℕ) → suc (max h k) ≤ top → (least : ℕ) → least ≤ level → (rest : List Token) → Ends (suc own) rest → Short l (ts ++ op ∷ us) rest
      → Climbing l top least (ts ++ (op ∷ us ++ rest)) (sized (expr_at a.at (node.Binary a op.text b)) (suc (max h k)) Loose) own rest
  binary_reach level own h k op a b ts us below o x y c top fits least low rest ends short =
      let p = o.low in let q = o.high in let t = c.tight in
      let r = c.reach top (omega arith) least (omega arith) (op ∷ us ++ rest) (ends_operator own (suc c.cap) op (us ++ rest) o (omega arith)) (omega (arith, tokens_append us rest, tokens_append ts (op ∷ us))) in
      binary_by top least own h k a b x.shape (ts ++ (op ∷ us ++ rest)) (us ++ rest) c.cap op (sized b k y.shape) rest r r.turns refl o (omega arith) (omega arith) fits refl
      (subst (λ n. expr l (top - 1) (Level n) (us ++ rest) ≡ Ok (sized b k y.shape, rest)) (next_level own) (whole y (omega arith) (top - 1) (omega arith) rest ends (omega (arith, tokens_append ts (op ∷ us)))))
    where
      next_level : (n : ℕ) → suc n ≡ n + 1
      next_level n = omega arith

  pub binary_whole : {level own h k : ℕ} {op : Token} {a b : Expr} {ts us : List Token} → ((rest : List Token) → Begins (next ((ts ++ op ∷ us) ++ rest))) → level ≤ own → IsBinary own op
      → ExprRead l own h a ts → ExprRead l (suc own) k b us → ExprRead l level (suc (max h k)) (expr_at a.at (node.Binary a op.text b)) (ts ++ op ∷ us)
  binary_whole {level} {own} {h} {k} {op} {a} {b} {ts} {us} begins below o x y =
      let p = (binary_sort o).low in let q = (binary_sort o).high in record {
        some = omega arith;
        begins = begins;
        shape = Loose;
        form = inl (record {
          cap = own;
          tight = omega arith;
          high = q;
          reach = λ top fits least low rest ends short. rw append_assoc (binary_reach level own h k op a b ts us below (binary_sort o) x y (climbs x p) top fits least low rest ends short);
        });
      }

  instance_by : (top least h : ℕ) (a : Expr) (s : Shape) (to : TypeName) (ts us : List Token) (cap : ℕ) (word : Token) (rest : List Token) → (c : Climbing l top least ts (sized a h s) cap (word ∷ us)) → (n : ℕ) → n ≡ c.turns
      → sort_of word ≡ sort.InstanceOf → least ≤ 9 → 9 ≤ cap → suc h ≤ top → whole_type l us ≡ Ok (to, rest) → Climbing l top least ts (sized (expr_at a.at (node.InstanceOf a to)) (suc h) Loose) 9 rest
  instance_by top least h a s to ts us cap word rest c zero e o low high fits read = absurd (let z = c.enough in omega arith)
  instance_by top least h a s to ts us cap word rest c (suc n) e o low high fits read = record {
    first = c.first;
    mid = c.mid;
    operand_is = c.operand_is;
    plain = λ p. c.plain (no_assignment_at sort.InstanceOf word us o refl);
    turns = n;
    enough = let z = c.enough in omega arith;
    same = c.same
        ∙ ap (λ m. climb l top (expr l (top - 1)) (expr l (top - 1 - 1)) m least cap (sized a h s) (word ∷ us)) (sym e)
        ∙ climb_instance l top (expr l (top - 1)) (expr l (top - 1 - 1)) n least cap (sized a h s) word us rest to o low high (omega arith) read
        ∙ ap (λ v. climb l top (expr l (top - 1)) (expr l (top - 1 - 1)) n least 9 v rest) (tall_same (expr_at a.at (node.InstanceOf a to)) (h + 1) (suc h) Loose (omega arith));
  }

  instance_reach : (level h : ℕ) (word : Token) (a : Expr) (to : TypeName) (ts us : List Token) → level ≤ 9 → sort_of word ≡ sort.InstanceOf → (x : ExprRead l 9 h a ts) → WholeType l.most to us
      → (c : Climbs l 9 h a x.shape ts) → (top : ℕ) → suc h ≤ top → (least : ℕ) → least ≤ level → (rest : List Token) → Ends 10 rest → Short l (ts ++ word ∷ us) rest
      → Climbing l top least (ts ++ (word ∷ us ++ rest)) (sized (expr_at a.at (node.InstanceOf a to)) (suc h) Loose) 9 rest
  instance_reach level h word a to ts us below o x t c top fits least low rest ends short =
      let z = c.tight in
      let r = c.reach top (omega arith) least (omega arith) (word ∷ us ++ rest) (ends_at sort.InstanceOf (suc c.cap) word (us ++ rest) o (omega arith)) (omega (arith, tokens_append us rest, tokens_append ts (word ∷ us))) in
      instance_by top least h a x.shape to (ts ++ (word ∷ us ++ rest)) (us ++ rest) c.cap word rest r r.turns refl o (omega arith) (omega arith) fits
      (whole_read l w.built t (omega (arith, tokens_append ts (word ∷ us))) rest (ends_not sort.Dot 10 rest ends (omega arith)) (ends_not sort.Left 10 rest ends (omega arith)))

  pub instance_whole : {level h : ℕ} {word : Token} {a : Expr} {to : TypeName} {ts us : List Token} → ((rest : List Token) → Begins (next ((ts ++ word ∷ us) ++ rest))) → level ≤ 9 → ExprRead l 9 h a ts
      → IsKeyword "instanceof" word → WholeType l.most to us → ExprRead l level (suc h) (expr_at a.at (node.InstanceOf a to)) (ts ++ word ∷ us)
  instance_whole {level} {h} {word} {a} {to} {ts} {us} begins below x k t = record {
    some = omega arith;
    begins = begins;
    shape = Loose;
    form = inl (record {
      cap = 9;
      tight = omega arith;
      high = omega arith;
      reach = λ top fits least low rest ends short. rw append_assoc (instance_reach level h word a to ts us below (instance_of_sort k) x t (climbs x (omega arith)) top fits least low rest ends short);
    });
  }

  assign_reach : (level h k : ℕ) (op : Token) (a b : Expr) (ts us : List Token) → level ≤ 1 → OperandRead l h a Target ts → is_assignment (sort_of op) ≡ true → ExprRead l 1 k b us
      → (top : ℕ) → suc (max h k) ≤ top → (rest : List Token) → Ends level rest → Short l (ts ++ op ∷ us) rest
      → expr l top (Level level) (ts ++ (op ∷ us ++ rest)) ≡ Ok (sized (expr_at a.at (node.Assign a op.text b)) (suc (max h k)) Loose, rest)
  assign_reach level h k op a b ts us low x o y top fits rest ends short =
      level_read l top level (ts ++ (op ∷ us ++ rest)) (sized a h Target) _ (op ∷ us ++ rest) rest (omega arith)
      (x.read top (omega arith) (op ∷ us ++ rest) (ends_assignment op (us ++ rest) 13 o (omega arith)) (omega (arith, tokens_append us rest, tokens_append ts (op ∷ us))))
      (operators_assign l top (expr l (top - 1)) (expr l (top - 1 - 1)) level (sized a h Target) (sized b k y.shape) op (us ++ rest) rest low refl o (omega arith)
      (whole y (omega arith) (top - 1) (omega arith) rest (omega arith) (omega (arith, tokens_append ts (op ∷ us)))))
      ∙ ok_tall _ (max h k + 1) (suc (max h k)) Loose rest (omega arith)

  pub assign_whole : {level h k : ℕ} {op : Token} {a b : Expr} {ts us : List Token} → ((rest : List Token) → Begins (next ((ts ++ op ∷ us) ++ rest))) → level ≤ 1 → OperandRead l h a Target ts
      → IsAssignment op → ExprRead l 1 k b us → ExprRead l level (suc (max h k)) (expr_at a.at (node.Assign a op.text b)) (ts ++ op ∷ us)
  assign_whole {level} {h} {k} {op} {a} {b} {ts} {us} begins low x o y = record {
    some = omega arith;
    begins = begins;
    shape = Loose;
    form = inr (omega arith, λ top fits rest ends short. rw append_assoc (assign_reach level h k op a b ts us low x (assignment_sort o) y top fits rest ends short));
  }

  cond_reach : (level h j k : ℕ) (question colon : Token) (test a b : Expr) (ts us vs : List Token) → level ≤ 2 → (x : ExprRead l 3 h test ts) → Climbs l 3 h test x.shape ts → sort_of question ≡ sort.Question
      → ExprRead l 1 j a us → sort_of colon ≡ sort.Colon → ExprRead l 2 k b vs → (top : ℕ) → suc (max h (max j k)) ≤ top → (rest : List Token) → Ends level rest → Short l (ts ++ (question ∷ us ++ colon ∷ vs)) rest
      → expr l top (Level level) (ts ++ (question ∷ us ++ (colon ∷ vs ++ rest))) ≡ Ok (sized (expr_at test.at (node.Cond test a b)) (suc (max h (max j k))) Loose, rest)
  cond_reach level h j k question colon test a b ts us vs low x c hq y hc z top fits rest ends short =
      let t = c.tight in
      let r = c.reach top (omega arith) (max level 1) (omega arith) (question ∷ us ++ (colon ∷ vs ++ rest)) (ends_at sort.Question (suc c.cap) question (us ++ (colon ∷ vs ++ rest)) hq (omega arith))
      (omega (arith, tokens_append vs rest, tokens_append us (colon ∷ vs ++ rest), tokens_append us (colon ∷ vs), tokens_append ts (question ∷ us ++ colon ∷ vs))) in
      let stop = level_at sort.Question question (us ++ (colon ∷ vs ++ rest)) hq in
      climbed l top level (ts ++ (question ∷ us ++ (colon ∷ vs ++ rest))) (sized test h x.shape) c.cap (question ∷ us ++ (colon ∷ vs ++ rest)) _ r (omega arith) (omega arith)
      (plain_or 1 level (is_assignment (next r.mid)) (r.plain (no_assignment_at sort.Question question (us ++ (colon ∷ vs ++ rest)) hq refl)))
      (choice_goes l top (expr l (top - 1)) (expr l (top - 1 - 1)) level (sized test h x.shape) (sized a j y.shape) (sized b k z.shape) question colon (us ++ (colon ∷ vs ++ rest)) (vs ++ rest) rest low hq hc (omega arith)
      (whole y (omega arith) (top - 1) (omega arith) (colon ∷ vs ++ rest) (ends_at sort.Colon 1 colon (vs ++ rest) hc (omega arith)) (omega (arith, tokens_append vs rest, tokens_append us (colon ∷ vs), tokens_append ts (question ∷ us ++ colon ∷ vs))))
      (whole z (omega arith) (top - 1) (omega arith) rest (omega arith) (omega (arith, tokens_append us (colon ∷ vs), tokens_append ts (question ∷ us ++ colon ∷ vs)))))
      ∙ ok_tall _ (max h (max j k) + 1) (suc (max h (max j k))) Loose rest (omega arith)

  pub cond_whole : {level h j k : ℕ} {question colon : Token} {test a b : Expr} {ts us vs : List Token} → ((rest : List Token) → Begins (next ((ts ++ (question ∷ us ++ colon ∷ vs)) ++ rest))) → level ≤ 2
      → ExprRead l 3 h test ts → IsSymbol "?" question → ExprRead l 1 j a us → IsSymbol ":" colon → ExprRead l 2 k b vs
      → ExprRead l level (suc (max h (max j k))) (expr_at test.at (node.Cond test a b)) (ts ++ (question ∷ us ++ colon ∷ vs))
  cond_whole {level} {h} {j} {k} {question} {colon} {test} {a} {b} {ts} {us} {vs} begins low x q y c z = record {
    some = omega arith;
    begins = begins;
    shape = Loose;
    form = inr (
      low,
      λ top fits rest ends short. rw (append_assoc, append_assoc)
          (cond_reach level h j k question colon test a b ts us vs low x (climbs x (omega arith)) (question_sort q) y (colon_sort c) z top fits rest ends short),
    );
  }
