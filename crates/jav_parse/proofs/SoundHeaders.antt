-- Expressions that may be statements in a list, conditions, and the header of a `for`.
use Rattle.std.proofs.Common.{◌≡◌, ℕ, zero, suc, max, ◌<◌, ◌≤◌, Bool, true, false, List, [], ◌∷◌, ◌++◌, None, refl, sym, ap, ◌∙◌, subst, append_assoc, arith}
use Rattle.std.proofs.lemmas.List.{append-nil}
use Rattle.std.proofs.lemmas.List.Elements.{All-append, All-cons, All-nil}
use Rattle.std.specs.List.{All}
use Rattle.mol_base.specs.Token.{Token}
use Rattle.jav_tree.specs.declared.expr.Expr.{Expr}
use Rattle.jav_tree.specs.declared.types.TypeName.{TypeName}
use Rattle.jav_tree.specs.declared.stmt.ForStart.TheVariants as for_start
use Rattle.jav_tree.specs.Tokens.{IsSymbol, IsName}
use Rattle.jav_tree.specs.Types.{WholeType}
use Rattle.jav_tree.specs.Expressions as tree
use Rattle.jav_tree.specs.Expressions.{Expression}
use Rattle.jav_tree.specs.Statements as stmts
use Rattle.jav_tree.specs.Statements.{MaybeFinal, MayBeStatement, MaybeExpression, Update}
use Rattle.jav_parse_expr.specs.declared.action.Lead.{Lead}
use Rattle.jav_parse_expr.specs.declared.action.Lead.TheVariants as lead
use Rattle.jav_parse_stmt.specs.declared.flow.HeaderPart.{HeaderPart}
use Rattle.jav_parse_stmt.specs.declared.flow.HeaderPart.TheVariants.{Start, Each}
use Rattle.jav_parse_cursor.specs.declared.limits.Limits.{Limits}
use Rattle.jav_parse_cursor.specs.declared.sort.Sort.{Sort}
use Rattle.jav_parse_cursor.specs.declared.sort.Sort.TheVariants as sort
use Rattle.jav_parse_cursor.specs.declared.tall.Listed.{Listed}
use Rattle.jav_parse_cursor.specs.declared.tall.Tall.{Tall}
use Rattle.jav_parse_expr.specs.ActionRules.{further_actions, actions_after, actions}
use Rattle.jav_parse_cursor.specs.Nodes as made
use Rattle.jav_parse_cursor.specs.Nodes.{no_exprs}
use Rattle.jav_parse_cursor.specs.Reading.{Parser, ◌>>=◌}
use Rattle.jav_parse_stmt.specs.StmtRules.{condition, doing, header_let, header_of, header_led, header_named, header_by, header, for_test, updates}
use Rattle.jav_parse.proofs.ExpressionLaws.{ExpressionLaws, IsAction, IsLead}
use Rattle.jav_parse.proofs.Meets.{Spelling, ReadsAt, Reads, reads_pure, reads_refuse, reads_map, reads_any, reads_bind, reads_token, reads_peek, reads_when}
use Rattle.jav_parse.proofs.SoundLocals.{placed_names, reads_variables}
use Rattle.jav_parse.proofs.Steps.{reads_to}
use Rattle.jav_parse.proofs.TokenSorts as token
use Rattle.jav_parse.proofs.TokenSteps.{expect_open, expect_close, expect_name}
use Rattle.jav_parse.proofs.Within.{IsLevel}

-- one expression more at the end
listed_end : {limit h k : ℕ} {es : List Expr} {ts us : List Token} {comma : Token} {e : Expr} → tree.Listed limit h es ts → IsSymbol "," comma → Expression limit 1 k e us
    → tree.Listed limit (max h k) (es ++ e ∷ []) (ts ++ comma ∷ us)
listed_end (tree.last_listed x) c y = tree.more_listed x c (tree.last_listed y)
listed_end {limit} {h} {k} {es} {ts} {us} {comma} {e} (tree.more_listed {h = a} {k = b} {comma = c0} {ts = ps} {us = qs} x d rest) c y =
    let same : max (max a b) k ≡ max a (max b k) = omega arith in
    rw (same, append_assoc ps (c0 ∷ qs) (comma ∷ us)) (tree.more_listed x d (listed_end rest c y))

-- expressions that may be statements
abbrev pub AreActions : Limits → ℕ → Spelling Listed
AreActions l top all ts = tree.Listed l.most all.height all.exprs ts × All MayBeStatement all.exprs × (all.height ≤ top)

module _ (l : Limits) (laws : ExpressionLaws l) (top : ℕ) (p : 0 < top) where
  first_action : (x : Tall) (ts : List Token) → IsAction l top x ts → AreActions l top (made.with no_exprs x) ts
  first_action x ts h =
      let e : max 0 x.height ≡ x.height = omega arith in let low = h.2 in
      (rw e (tree.last_listed h.0), All-cons MayBeStatement x.expr [] h.1 (All-nil MayBeStatement), omega arith)

  next_action : (all : Listed) (ts : List Token) → AreActions l top all ts → (comma : Token) → IsSymbol "," comma → (x : Tall) (us : List Token) → IsAction l top x us
      → AreActions l top (made.with all x) (ts ++ comma ∷ us)
  next_action all ts h comma hc x us k =
      let a = h.2 in let b = k.2 in
      (listed_end h.0 hc k.0, All-append MayBeStatement all.exprs (x.expr ∷ []) h.1 (All-cons MayBeStatement x.expr [] k.1 (All-nil MayBeStatement)), omega arith)

  reads_further : (n : ℕ) (all : Listed) (ts : List Token) → AreActions l top all ts → Reads (λ y vs. AreActions l top y (ts ++ vs)) (further_actions l top n all)
  unfolding further_actions
  reads_further zero all ts h = reads_refuse (all, [], rw append-nil h)
  reads_further (suc n) all ts h = reads_when sort.Comma
      (reads_token (λ z. cc) (λ comma hc. reads_bind (laws.acts top p)
      (λ x us k. reads_map (reads_further n (made.with all x) (ts ++ comma ∷ us) (next_action all ts h comma (token.comma_is comma hc) x us k)) (λ y vs q. rw append_assoc at q))))
      (reads_pure all (rw append-nil h))

  -- actions after the first
  reads_after : (x : Tall) (ts : List Token) → IsAction l top x ts → Reads (λ y vs. AreActions l top y (ts ++ vs)) (actions_after l top x)
  unfolding actions_after
  reads_after x ts h = reads_further l.turns (made.with no_exprs x) ts (first_action x ts h)

  pub reads_actions : Reads (AreActions l top) (actions l top)
  unfolding actions
  reads_actions = reads_bind (laws.acts top p) reads_after

  pub reads_updates : Reads (λ y ts. Update l.most y.height y.exprs ts × (y.height ≤ top)) (updates l top)
  unfolding updates
  reads_updates = reads_when sort.Close
      (reads_pure no_exprs (stmts.none, omega arith))
      (reads_any (reads_map reads_actions (λ y us h. (stmts.some h.0 h.1, h.2))))

  pub reads_test : Reads (λ y ts. MaybeExpression l.most y.height y.expr ts × (y.height ≤ top)) (for_test l top)
  unfolding for_test
  reads_test = reads_when sort.Semi
      (reads_pure (record { expr = None; height = 0 }) (stmts.no, omega arith))
      (reads_any (reads_to _ (laws.level top p) (λ x us h. (stmts.yes h.0, h.1))))

  -- an expression in parentheses
  record IsCondition (x : Tall) (ts : List Token) : Type 0 where
    left : Token
    right : Token
    inner : List Token
    tokens : ts ≡ left ∷ inner ++ right ∷ []
    opens : IsSymbol "(" left
    is : IsLevel l 1 top x inner
    closes : IsSymbol ")" right

  reads_condition : Reads IsCondition (condition l top)
  unfolding condition
  reads_condition = expect_open (λ left hl. reads_bind (laws.level top p) (λ x us h. expect_close (λ right hr. reads_pure x
      (record { left = left; right = right; inner = us; tokens = refl; opens = hl; is = h; closes = hr }))))

  pub condition_then : {B : Type 0} {S : Spelling B} {P : Sort → Type 0} {f : Tall → Parser B}
      → ((left : Token) (x : Tall) (us : List Token) (right : Token) → IsSymbol "(" left → IsLevel l 1 top x us → IsSymbol ")" right → Reads (λ y vs. S y (left ∷ us ++ right ∷ vs)) (f x))
      → ReadsAt S P (condition l top >>= f)
  condition_then {B} {S} {P} {f} k = reads_bind (reads_any reads_condition) (λ x ts c. reads_map (k c.left x c.inner c.right c.opens c.is c.closes)
      (λ y vs h. let e : ts ++ vs ≡ c.left ∷ c.inner ++ c.right ∷ vs = ap (λ r. r ++ vs) c.tokens ∙ ap (λ r. c.left ∷ r) (append_assoc c.inner (c.right ∷ []) vs) in subst (λ r. S y r) (sym e) h))

-- ---- the header of a `for`

-- what stands before `:`
pub record IsEach (l : Limits) (is_final : Bool) (to : TypeName) (name : List ℕ) (ts : List Token) : Type 0 where
  pub first : Token
  pub front : List Token
  pub back : List Token
  pub tokens : ts ≡ front ++ (back ++ first ∷ [])
  pub final : MaybeFinal is_final front
  pub type : WholeType l.most to back
  pub is_name : IsName first
  pub text : name ≡ first.text

abbrev pub IsHeader : Limits → ℕ → Spelling HeaderPart
IsHeader l top (Start start height) ts = stmts.Start l.most height start ts × (height ≤ top)
IsHeader l top (Each is_final to name) ts = IsEach l is_final to name ts

module _ (l : Limits) (laws : ExpressionLaws l) (top : ℕ) (p : 0 < top) where
  reads_let : (is_final : Bool) (to : TypeName) (fs us : List Token) → MaybeFinal is_final fs → WholeType l.most to us → (first : Token) → IsName first
      → Reads (λ y vs. IsHeader l top y (fs ++ (us ++ first ∷ vs))) (header_let l top is_final to first)
  unfolding header_let
  reads_let is_final to fs us hf ht first hn = reads_to _ (reads_variables l laws top first hn)
      (λ all vs ha. (rw (sym (placed_names all.items)) (stmts.variables (stmts.declaration hf ht ha.0)), ha.1))

  reads_header_of : (is_final : Bool) (to : TypeName) (fs us : List Token) → MaybeFinal is_final fs → WholeType l.most to us
      → Reads (λ y vs. IsHeader l top y (fs ++ (us ++ vs))) (header_of l top is_final to)
  unfolding header_of
  reads_header_of is_final to fs us hf ht = expect_name (λ first hn. reads_when sort.Colon
      (reads_pure (Each is_final to first.text) (record { first = first; front = fs; back = us; tokens = refl; final = hf; type = ht; is_name = hn; text = refl }))
      (reads_any (reads_let is_final to fs us hf ht first hn)))

  doing_is : (all : Listed) (ts : List Token) → AreActions l top all ts → IsHeader l top (doing all) ts
  doing_is all ts h = (stmts.expressions h.0 h.1, h.2)

  reads_led : (x : Lead) (us : List Token) → IsLead l top x us → Reads (λ y vs. IsHeader l top y (us ++ vs)) (header_led l top x)
  reads_led (lead.Declaration to) us h = reads_header_of false to [] us stmts.no h
  reads_led (lead.Part first) us h = reads_bind h (λ x vs hx. reads_to _ (reads_after l laws top p x (us ++ vs) hx)
      (λ all ws k. rw append_assoc at (doing_is all ((us ++ vs) ++ ws) k)))

  reads_header_by : (s : Sort) → ReadsAt (IsHeader l top) (λ u. u ≡ s) (header_by l top s)
  unfolding header_named
  reads_header_by sort.Semi = reads_pure (Start for_start.None 0) (stmts.none, omega arith)
  reads_header_by sort.Final = reads_token (λ z. cc) (λ t ht. reads_bind laws.type (λ to us h. reads_header_of true to (t ∷ []) us (stmts.yes (token.final_is t ht)) h))
  reads_header_by sort.Prim = reads_any (reads_bind laws.type (λ to us h. reads_header_of false to [] us stmts.no h))
  reads_header_by sort.Name = reads_any (reads_bind (laws.lead top) (λ x us h. reads_led x us h))
  reads_header_by s = reads_any (reads_to _ (reads_actions l laws top p) (λ all us h. doing_is all us h))

  pub reads_header : Reads (IsHeader l top) (header l top)
  unfolding header
  reads_header = reads_peek reads_header_by
