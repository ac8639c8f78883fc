-- Expressions of level 15 and array creations of the grammar are read.
use Rattle.std.proofs.Common.{◌≡◌, ℕ, suc, ◌+◌, ◌-◌, ◌≤◌, max, true, false, List, [], ◌∷◌, ◌++◌, Ok, Some, None, refl, ap, ◌∙◌, append_assoc, arith}
use Rattle.mol_base.specs.Token.{Token}
use Rattle.jav_tree.specs.declared.types.TypeName.TheVariants as ty
use Rattle.jav_tree.specs.declared.expr.Expr.{Expr}
use Rattle.jav_tree.specs.declared.expr.ExprNode.TheVariants as node
use Rattle.jav_tree.specs.Expressions.{expr_at}
use Rattle.jav_tree.specs.Tokens.{IsSymbol, IsKeyword, IsName, IsLiteral}
use Rattle.jav_tree.specs.Types.{Qualified, named}
use Rattle.jav_parse_cursor.specs.declared.limits.Limits.{Limits}
use Rattle.jav_parse_expr.specs.declared.primary.Rooms.{Rooms}
use Rattle.jav_parse_cursor.specs.declared.sort.Sort.{Sort}
use Rattle.jav_parse_cursor.specs.declared.sort.Sort.TheVariants as sort
use Rattle.jav_parse_cursor.specs.declared.tall.Shape.{Shape}
use Rattle.jav_parse_cursor.specs.declared.tall.Shape.TheVariants.{Target, Invocation, Atom, Array}
use Rattle.jav_parse_cursor.specs.declared.tall.Tall.{Tall}
use Rattle.jav_parse_cursor.specs.Nodes.{is_array}
use Rattle.jav_parse_expr.specs.PrimaryRules.{is_link}
use Rattle.jav_parse_cursor.specs.Reading.{Outcome, sort as next}
use Rattle.jav_parse_cursor.specs.Sorts.{same_sort, sort_of}
use Rattle.jav_parse.proofs.CompleteTypes.{base_read, qualified_begins}
use Rattle.jav_parse.proofs.PartSteps.{sized, Near, room_near, ReachesPart, starts, links, primary_name, primary_call, primary_literal, primary_this, primary_super, primary_parens, primary_created, link_field, link_call, link_index}
use Rattle.jav_parse.proofs.ReadingSteps.{tokens_append, IsNot, is_not, ends_at}
use Rattle.jav_parse.proofs.SortsOfTokens.{name_sort, literal_sort, this_sort, super_sort, new_sort, open_sort, close_sort, left_sort, right_sort, dot_sort}
use Rattle.jav_parse.proofs.WholeReadings.{Builds, Short, Follows, PartRead, DottedRead, ExprRead, ArgumentsRead, whole}

pub tall_same : (e : Expr) (h k : ℕ) (s : Shape) → h ≡ k → sized e h s ≡ sized e k s
tall_same e h k s q = ap (λ n. sized e n s) q

pub ok_tall : (e : Expr) (h k : ℕ) (s : Shape) (rest : List Token) → h ≡ k → ◌≡◌ {A = Outcome Tall} (Ok (sized e h s, rest)) (Ok (sized e k s, rest))
ok_tall e h k s rest q = ap (λ n. Ok (sized e n s, rest)) q

-- a dot may follow each part, and a bracket each but an array creation
follows_dot : (s : Shape) (dot : Token) (rest : List Token) → sort_of dot ≡ sort.Dot → Follows s (dot ∷ rest)
unfolding same_sort
follows_dot Array dot rest h = is_not sort.Left sort.Dot dot rest h refl
follows_dot s dot rest h = is_not sort.Open sort.Dot dot rest h refl

follows_left : (s : Shape) (left : Token) (rest : List Token) → is_array s ≡ false → sort_of left ≡ sort.Left → Follows s (left ∷ rest)
unfolding same_sort
follows_left Array left rest a h = absurd (cc)
follows_left s left rest a h = is_not sort.Open sort.Left left rest h refl

pub link_at : (s : Sort) (c : Token) (rest : List Token) → sort_of c ≡ s → is_link s ≡ true → is_link (next (c ∷ rest)) ≡ true
unfolding next
link_at s c rest h q = ap is_link h ∙ q

left_not_open : (c : Token) (rest : List Token) → sort_of c ≡ sort.Left → IsNot sort.Open (c ∷ rest)
unfolding same_sort
left_not_open c rest h = is_not sort.Open sort.Left c rest h refl

open_not_dot : (ts : List Token) → next ts ≡ sort.Open → IsNot sort.Dot ts
unfolding same_sort
open_not_dot ts h = rw h refl

name_not_primitive : (ts : List Token) → next ts ≡ sort.Name → IsNot sort.Prim ts
unfolding same_sort
name_not_primitive ts h = rw h refl

module _ (l : Limits) (w : Builds l) where
  pub literal_read : {t : Token} → IsLiteral t → PartRead l Atom 1 (expr_at t.start (node.Lit t.text)) (t ∷ [])
  literal_read {t} h = record { some = omega arith; reach = λ top rooms near fits rest o short. starts l top rooms (t ∷ rest) _ rest (primary_literal l top rooms t rest (literal_sort h) fits) }

  pub this_read : {t : Token} → IsKeyword "this" t → PartRead l Atom 1 (expr_at t.start node.This) (t ∷ [])
  this_read {t} h = record { some = omega arith; reach = λ top rooms near fits rest o short. starts l top rooms (t ∷ rest) _ rest (primary_this l top rooms t rest (this_sort h) fits) }

  pub name_read : {t : Token} → IsName t → PartRead l Target 1 (expr_at t.start (node.Name t.text)) (t ∷ [])
  name_read {t} h = record { some = omega arith; reach = λ top rooms near fits rest o short. starts l top rooms (t ∷ rest) _ rest (primary_name l top rooms t rest (name_sort h) o fits) }

  pub paren_read : {h : ℕ} {left right : Token} {e : Expr} {ts : List Token} → IsSymbol "(" left → ExprRead l 1 h e ts → IsSymbol ")" right
      → PartRead l Atom (suc h) (expr_at left.start (node.Paren e)) (left ∷ ts ++ right ∷ [])
  paren_read {h} {left} {right} {e} {ts} a x c = record {
    some = omega arith;
    reach = λ top rooms near fits rest o short. let p = x.some in
        rw append_assoc (starts l top rooms (left ∷ (ts ++ right ∷ rest)) _ rest
        (primary_parens l top rooms left (ts ++ right ∷ rest) (sized e h x.shape) right rest (open_sort a) (close_sort c) (omega arith)
        (whole x (omega arith) (rooms.rest - 1) (omega arith) (right ∷ rest) (ends_at sort.Close 1 right rest (close_sort c) (omega arith)) (omega (arith, tokens_append ts (right ∷ []))))
        ∙ ok_tall _ (h + 1) (suc h) Atom rest (omega arith)));
  }

  field_reach : (s : Shape) (h : ℕ) (e : Expr) (ts : List Token) (dot t : Token) → PartRead l s h e ts → sort_of dot ≡ sort.Dot → sort_of t ≡ sort.Name
      → (top : ℕ) (rooms : Rooms) → Near top rooms → suc h ≤ rooms.target → (rest : List Token) → IsNot sort.Open rest → Short l (ts ++ dot ∷ t ∷ []) rest
      → ReachesPart l top rooms (ts ++ dot ∷ t ∷ rest) (sized (expr_at e.at (node.Dot e t.text)) (suc h) Target) rest
  field_reach s h e ts dot t x d n top rooms near fits rest o short =
      let r = room_near top rooms near s in let q = near.target in
      links l top rooms (ts ++ dot ∷ t ∷ rest) (sized e h s) _ (dot ∷ t ∷ rest) rest
      (x.reach top rooms near (omega arith) (dot ∷ t ∷ rest) (follows_dot s dot (t ∷ rest) d) (omega (arith, tokens_append ts (dot ∷ t ∷ []))))
      (omega arith) (omega arith) (link_at sort.Dot dot (t ∷ rest) d refl)
      (link_field l top rooms (sized e h s) dot t rest d n o (omega arith) (omega arith) ∙ ok_tall _ (h + 1) (suc h) Target rest (omega arith))

  pub field_read : {h : ℕ} {dot t : Token} {e : Expr} {ts : List Token} → DottedRead l h e ts → IsSymbol "." dot → IsName t
      → PartRead l Target (suc h) (expr_at e.at (node.Dot e t.text)) (ts ++ dot ∷ t ∷ [])
  field_read {h} {dot} {t} {e} {ts} x d n = record {
    some = omega arith;
    reach = λ top rooms near fits rest o short. rw append_assoc (field_reach x.shape h e ts dot t x.part (dot_sort d) (name_sort n) top rooms near fits rest o short);
  }

  index_reach : (s : Shape) (h k : ℕ) (e i : Expr) (ts us : List Token) (left right : Token) → PartRead l s h e ts → is_array s ≡ false → sort_of left ≡ sort.Left → ExprRead l 1 k i us → sort_of right ≡ sort.Right
      → (top : ℕ) (rooms : Rooms) → Near top rooms → suc (max h k) ≤ rooms.target → (rest : List Token) → Short l (ts ++ (left ∷ us ++ right ∷ [])) rest
      → ReachesPart l top rooms (ts ++ (left ∷ us ++ right ∷ rest)) (sized (expr_at e.at (node.Index e i)) (suc (max h k)) Target) rest
  index_reach s h k e i ts us left right x a hl y hr top rooms near fits rest short =
      let r = room_near top rooms near s in let q = near.target in let p = x.some in
      links l top rooms (ts ++ (left ∷ us ++ right ∷ rest)) (sized e h s) _ (left ∷ us ++ right ∷ rest) rest
      (x.reach top rooms near (omega arith) (left ∷ us ++ right ∷ rest) (follows_left s left (us ++ right ∷ rest) a hl) (omega (arith, tokens_append us (right ∷ rest), tokens_append us (right ∷ []), tokens_append ts (left ∷ us ++ right ∷ []))))
      (omega arith) (omega arith) (link_at sort.Left left (us ++ right ∷ rest) hl refl)
      (link_index l top rooms (sized e h s) left (us ++ right ∷ rest) (sized i k y.shape) right rest hl hr a (omega arith)
      (whole y (omega arith) (rooms.target - 1) (omega arith) (right ∷ rest) (ends_at sort.Right 1 right rest hr (omega arith)) (omega (arith, tokens_append us (right ∷ rest), tokens_append us (right ∷ []), tokens_append ts (left ∷ us ++ right ∷ []))))
      ∙ ok_tall _ (max h k + 1) (suc (max h k)) Target rest (omega arith))

  pub index_read : {h k : ℕ} {left right : Token} {e i : Expr} {ts us : List Token} (s : Shape) → is_array s ≡ false → PartRead l s h e ts → IsSymbol "[" left → ExprRead l 1 k i us → IsSymbol "]" right
      → PartRead l Target (suc (max h k)) (expr_at e.at (node.Index e i)) (ts ++ (left ∷ us ++ right ∷ []))
  index_read {h} {k} {left} {right} {e} {i} {ts} {us} s a x b y c = record {
    some = omega arith;
    reach = λ top rooms near fits rest o short. rw (append_assoc, append_assoc) (index_reach s h k e i ts us left right x a (left_sort b) y (right_sort c) top rooms near fits rest short);
  }

  call_on_reach : (s : Shape) (h k : ℕ) (e : Expr) (args : List Expr) (ts us : List Token) (dot t : Token) → PartRead l s h e ts → sort_of dot ≡ sort.Dot → sort_of t ≡ sort.Name → ArgumentsRead l k args us
      → (top : ℕ) (rooms : Rooms) → Near top rooms → suc (max h k) ≤ rooms.invocation → (rest : List Token) → Short l (ts ++ dot ∷ t ∷ us) rest
      → ReachesPart l top rooms (ts ++ (dot ∷ t ∷ us ++ rest)) (sized (expr_at e.at (node.Call (Some e) t.text args)) (suc (max h k)) Invocation) rest
  call_on_reach s h k e args ts us dot t x d n y top rooms near fits rest short =
      let r = room_near top rooms near s in let q = near.invocation in
      links l top rooms (ts ++ (dot ∷ t ∷ us ++ rest)) (sized e h s) _ (dot ∷ t ∷ us ++ rest) rest
      (x.reach top rooms near (omega arith) (dot ∷ t ∷ us ++ rest) (follows_dot s dot (t ∷ us ++ rest) d) (omega (arith, tokens_append us rest, tokens_append ts (dot ∷ t ∷ us))))
      (omega arith) (omega arith) (link_at sort.Dot dot (t ∷ us ++ rest) d refl)
      (link_call l top rooms (sized e h s) dot t (us ++ rest) (record { exprs = args; height = k }) rest d n (y.opens rest) (omega arith) (omega arith)
      (y.read rooms.invocation (omega arith) rest (omega (arith, tokens_append us rest, tokens_append ts (dot ∷ t ∷ us))))
      ∙ ok_tall _ (max h k + 1) (suc (max h k)) Invocation rest (omega arith))

  pub call_on_read : {h k : ℕ} {dot t : Token} {e : Expr} {args : List Expr} {ts us : List Token} → DottedRead l h e ts → IsSymbol "." dot → IsName t → ArgumentsRead l k args us
      → PartRead l Invocation (suc (max h k)) (expr_at e.at (node.Call (Some e) t.text args)) (ts ++ dot ∷ t ∷ us)
  call_on_read {h} {k} {dot} {t} {e} {args} {ts} {us} x d n y = record {
    some = omega arith;
    reach = λ top rooms near fits rest o short. rw append_assoc (call_on_reach x.shape h k e args ts us dot t x.part (dot_sort d) (name_sort n) y top rooms near fits rest short);
  }

  pub call_read : {h : ℕ} {t : Token} {args : List Expr} {ts : List Token} → IsName t → ArgumentsRead l h args ts → PartRead l Invocation (suc h) (expr_at t.start (node.Call None t.text args)) (t ∷ ts)
  call_read {h} {t} {args} {ts} n y = record {
    some = omega arith;
    reach = λ top rooms near fits rest o short. starts l top rooms (t ∷ ts ++ rest) _ rest
        (primary_call l top rooms t (ts ++ rest) (record { exprs = args; height = h }) rest (name_sort n) (y.opens rest) (omega arith) (y.read rooms.invocation fits rest (omega arith))
        ∙ ok_tall _ (h + 1) (suc h) Invocation rest (omega arith));
  }

  pub super_call_read : {h : ℕ} {word dot t : Token} {args : List Expr} {ts : List Token} → IsKeyword "super" word → IsSymbol "." dot → IsName t → ArgumentsRead l h args ts
      → PartRead l Invocation (suc h) (expr_at word.start (node.SuperCall t.text args)) (word ∷ dot ∷ t ∷ ts)
  super_call_read {h} {word} {dot} {t} {args} {ts} k d n y = record {
    some = omega arith;
    reach = λ top rooms near fits rest o short. starts l top rooms (word ∷ dot ∷ t ∷ ts ++ rest) _ rest
        (primary_super l top rooms word dot t (ts ++ rest) (record { exprs = args; height = h }) rest (super_sort k) (dot_sort d) (name_sort n) (omega arith) (y.read rooms.invocation fits rest (omega arith))
        ∙ ok_tall _ (h + 1) (suc h) Invocation rest (omega arith));
  }

  pub new_read : {h : ℕ} {word : Token} {q : List ℕ} {args : List Expr} {ts us : List Token} → IsKeyword "new" word → Qualified q ts → ArgumentsRead l h args us
      → PartRead l Invocation (suc h) (expr_at word.start (node.New (ty.Named q) args)) (word ∷ ts ++ us)
  new_read {h} {word} {q} {args} {ts} {us} k x y = record {
    some = omega arith;
    reach = λ top rooms near fits rest o short.
        rw append_assoc (starts l top rooms (word ∷ (ts ++ (us ++ rest))) _ rest
        (primary_created l top rooms word (ts ++ (us ++ rest)) (ty.Named q) (us ++ rest) (record { exprs = args; height = h }) rest (new_sort k)
        (name_not_primitive (ts ++ (us ++ rest)) (qualified_begins x (us ++ rest))) (y.opens rest) (omega arith)
        (base_read (named x) l.turns (omega (arith, tokens_append ts us)) (us ++ rest) (open_not_dot (us ++ rest) (y.opens rest)))
        (y.read rooms.invocation fits rest (omega (arith, tokens_append ts us)))
        ∙ ok_tall _ (h + 1) (suc h) Invocation rest (omega arith)));
  }
