-- With what an expression and a statement begin.
use Rattle.std.proofs.Common.{◌≡◌, ℕ, List, ◌∷◌, [], ◌++◌, codes, Bool, true, false, refl, sym as flip, ap, ◌∙◌}
use Prim.Native.String.{String}
use Rattle.mol_base.specs.Token.{Token}
use Rattle.mol_base.specs.declared.token_kind.TokenKind.TheVariants as kind
use Rattle.jav_tree.specs.declared.expr.Expr.{Expr}
use Rattle.jav_tree.specs.declared.stmt.Stmt.{Stmt}
use Rattle.jav_tree.specs.declared.stmt.StmtNode.{StmtNode}
use Rattle.jav_tree.specs.Tokens.{IsSymbol, IsKeyword, IsName, IsLiteral, IsComment}
use Rattle.jav_tree.specs.Tokens as token
use Rattle.jav_tree.specs.Operators.{IsStep, IsPrefix, among}
use Rattle.jav_tree.specs.Expressions.{Shape, Expression, Primary, BeforeDot, ArrayCreation}
use Rattle.jav_tree.specs.Expressions as is
use Rattle.jav_tree.specs.Statements.{Plain, Choice, Branch, Enclosed, BlockOf}
use Rattle.jav_tree.specs.Statements as st

-- with what an expression begins
pub data Begins : List Token → Type 0 where
  literal : {t : Token} {ts : List Token} → IsLiteral t → Begins (t ∷ ts)
  this : {t : Token} {ts : List Token} → IsKeyword "this" t → Begins (t ∷ ts)
  name : {t : Token} {ts : List Token} → IsName t → Begins (t ∷ ts)
  super : {t dot : Token} {ts : List Token} → IsKeyword "super" t → IsSymbol "." dot → Begins (t ∷ dot ∷ ts)
  new : {t : Token} {ts : List Token} → IsKeyword "new" t → Begins (t ∷ ts)
  paren : {t : Token} {ts : List Token} → IsSymbol "(" t → Begins (t ∷ ts)
  step : {t : Token} {ts : List Token} → IsStep t → Begins (t ∷ ts)
  prefix : {t : Token} {ts : List Token} → IsPrefix t → Begins (t ∷ ts)

pub begins_longer : {ts : List Token} (us : List Token) → Begins ts → Begins (ts ++ us)
begins_longer us (Begins.literal p) = Begins.literal p
begins_longer us (Begins.this p) = Begins.this p
begins_longer us (Begins.name p) = Begins.name p
begins_longer us (Begins.super p q) = Begins.super p q
begins_longer us (Begins.new p) = Begins.new p
begins_longer us (Begins.paren p) = Begins.paren p
begins_longer us (Begins.step p) = Begins.step p
begins_longer us (Begins.prefix p) = Begins.prefix p

creation_begins : {limit h : ℕ} {e : Expr} {ts : List Token} → ArrayCreation limit h e ts → Begins ts
creation_begins (is.sized t _ _ _ _) = Begins.new t
creation_begins (is.filled t _ _ _ _) = Begins.new t

mutual
  pub primary_begins : {limit h : ℕ} {shape : Shape} {e : Expr} {ts : List Token} → Primary limit shape h e ts → Begins ts
  primary_begins (is.literal t) = Begins.literal t
  primary_begins (is.this t) = Begins.this t
  primary_begins (is.paren left _ _) = Begins.paren left
  primary_begins (is.name t) = Begins.name t
  primary_begins (is.field p _ _) = begins_longer _ (before_dot_begins p)
  primary_begins (is.index p _ _ _) = begins_longer _ (primary_begins p)
  primary_begins (is.call_on p _ _ _) = begins_longer _ (before_dot_begins p)
  primary_begins (is.call t _) = Begins.name t
  primary_begins (is.super_call t dot _ _) = Begins.super t dot
  primary_begins (is.new t _ _) = Begins.new t

  before_dot_begins : {limit h : ℕ} {e : Expr} {ts : List Token} → BeforeDot limit h e ts → Begins ts
  before_dot_begins (is.primary_before_dot p) = primary_begins p
  before_dot_begins (is.array_before_dot p) = creation_begins p

pub expression_begins : {limit level h : ℕ} {e : Expr} {ts : List Token} → Expression limit level h e ts → Begins ts
expression_begins (is.assign _ p _ _) = begins_longer _ (primary_begins p)
expression_begins (is.cond _ p _ _ _ _) = begins_longer _ (expression_begins p)
expression_begins (is.binary _ _ p _) = begins_longer _ (expression_begins p)
expression_begins (is.instance_of _ p _ _) = begins_longer _ (expression_begins p)
expression_begins (is.prefix _ op _) = Begins.prefix op
expression_begins (is.step_before _ op _) = Begins.step op
expression_begins (is.cast _ left _ _ _ _) = Begins.paren left
expression_begins (is.step_after _ p _) = begins_longer _ (primary_begins p)
expression_begins (is.creation _ p) = creation_begins p
expression_begins (is.primary p) = primary_begins p

-- no expression begins with a symbol that is neither `(` nor an operator before an operand
pub symbol_begins : {text : String} {t : Token} {ts : List Token} → IsSymbol text t → among ("(" ∷ []) (codes text) ≡ false
    → among ("++" ∷ "--" ∷ []) (codes text) ≡ false → among ("+" ∷ "-" ∷ "!" ∷ "~" ∷ []) (codes text) ≡ false → Begins (t ∷ ts) → ⊥
symbol_begins s a b c (Begins.literal p) = cc (s.symbol, p.literal)
symbol_begins s a b c (Begins.this p) = cc (s.symbol, p.keyword)
symbol_begins s a b c (Begins.name p) = cc (s.symbol, p.word)
symbol_begins s a b c (Begins.super p _) = cc (s.symbol, p.keyword)
symbol_begins s a b c (Begins.new p) = cc (s.symbol, p.keyword)
symbol_begins s a b c (Begins.paren p) = let f : true ≡ false = ap (among ("(" ∷ [])) (flip p.written ∙ s.written) ∙ a in cc
symbol_begins s a b c (Begins.step p) = let f : true ≡ false = flip p.written ∙ (ap (among ("++" ∷ "--" ∷ [])) s.written ∙ b) in cc
symbol_begins s a b c (Begins.prefix p) = let f : true ≡ false = flip p.written ∙ (ap (among ("+" ∷ "-" ∷ "!" ∷ "~" ∷ [])) s.written ∙ c) in cc

-- nor with a keyword but these three
pub keyword_begins : {text : String} {t : Token} {ts : List Token} → IsKeyword text t → among ("this" ∷ "super" ∷ "new" ∷ []) (codes text) ≡ false → Begins (t ∷ ts) → ⊥
keyword_begins s a (Begins.literal p) = cc (s.keyword, p.literal)
keyword_begins s a (Begins.this p) = let f : true ≡ false = ap (among ("this" ∷ "super" ∷ "new" ∷ [])) (flip p.written ∙ s.written) ∙ a in cc
keyword_begins s a (Begins.name p) = cc (s.keyword, p.word)
keyword_begins s a (Begins.super p _) = let f : true ≡ false = ap (among ("this" ∷ "super" ∷ "new" ∷ [])) (flip p.written ∙ s.written) ∙ a in cc
keyword_begins s a (Begins.new p) = let f : true ≡ false = ap (among ("this" ∷ "super" ∷ "new" ∷ [])) (flip p.written ∙ s.written) ∙ a in cc
keyword_begins s a (Begins.paren p) = cc (s.keyword, p.symbol)
keyword_begins s a (Begins.step p) = cc (s.keyword, p.symbol)
keyword_begins s a (Begins.prefix p) = cc (s.keyword, p.symbol)

-- the keywords with which a statement begins that is no block, no declaration and no expression
abbrev pub statement_words : List String
statement_words = "if" ∷ "while" ∷ "for" ∷ "return" ∷ "throw" ∷ "break" ∷ "continue" ∷ []

-- with what a branch or loop body begins
pub data BranchBegins : List Token → Type 0 where
  comment : {t : Token} {ts : List Token} → IsComment t → BranchBegins (t ∷ ts)
  brace : {t : Token} {ts : List Token} → IsSymbol "{" t → BranchBegins (t ∷ ts)
  semicolon : {t : Token} {ts : List Token} → IsSymbol ";" t → BranchBegins (t ∷ ts)
  word : {t : Token} {ts : List Token} → t.kind ≡ kind.Keyword → among statement_words t.text ≡ true → BranchBegins (t ∷ ts)
  expression : {ts : List Token} → Begins ts → BranchBegins ts

by_word : (text : String) {t : Token} {ts : List Token} → among statement_words (codes text) ≡ true → IsKeyword text t → BranchBegins (t ∷ ts)
by_word text a w = BranchBegins.word w.keyword (ap (among statement_words) w.written ∙ a)

pub plain_begins : {limit h : ℕ} {is_open : Bool} {n : StmtNode} {ts : List Token} → Plain limit h is_open n ts → BranchBegins ts
plain_begins (st.expression p _ _) = BranchBegins.expression (begins_longer _ (expression_begins p))
plain_begins (st.while w _ _ _ _) = by_word "while" refl w
plain_begins (st.for w _ _ _ _ _ _ _ _) = by_word "for" refl w
plain_begins (st.each w _ _ _ _ _ _ _ _) = by_word "for" refl w
plain_begins (st.return w _ _) = by_word "return" refl w
plain_begins (st.throw w _ _) = by_word "throw" refl w
plain_begins (st.break w _) = by_word "break" refl w
plain_begins (st.continue w _) = by_word "continue" refl w
plain_begins (st.nothing semi) = BranchBegins.semicolon semi

pub choice_begins : {limit h : ℕ} {is_open : Bool} {n : StmtNode} {ts : List Token} → Choice limit h is_open n ts → BranchBegins ts
choice_begins (st.short w _ _ _ _) = by_word "if" refl w
choice_begins (st.long w _ _ _ _ _ _ _) = by_word "if" refl w

pub block_begins : {limit h : ℕ} {items : List Stmt} {tail : List (List ℕ)} {ts : List Token} → BlockOf limit h items tail ts → BranchBegins ts
block_begins (st.braced left _ _ _) = BranchBegins.brace left

pub enclosed_begins : {limit h : ℕ} {is_open : Bool} {items : List Stmt} {tail : List (List ℕ)} {ts : List Token} → Enclosed limit h is_open items tail ts → BranchBegins ts
enclosed_begins (st.enclosed_block token.none b) = block_begins b
enclosed_begins (st.enclosed_block (token.comment c _) _) = BranchBegins.comment c
enclosed_begins (st.enclosed_plain token.none p) = plain_begins p
enclosed_begins (st.enclosed_plain (token.comment c _) _) = BranchBegins.comment c

pub branch_begins : {limit h : ℕ} {is_open : Bool} {items : List Stmt} {tail : List (List ℕ)} {ts : List Token} → Branch limit h is_open items tail ts → BranchBegins ts
branch_begins (st.enclosed_branch p) = enclosed_begins p
branch_begins (st.choice_branch token.none p) = choice_begins p
branch_begins (st.choice_branch (token.comment c _) _) = BranchBegins.comment c
