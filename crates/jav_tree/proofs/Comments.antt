-- No comment stands in a type or an expression.
use Rattle.std.proofs.Common.{ℕ, List, ◌∷◌, [], ◌++◌}
use Prim.Native.String.{String}
use Rattle.mol_base.specs.Token.{Token}
use Rattle.jav_tree.specs.declared.types.TypeName.{TypeName}
use Rattle.jav_tree.specs.declared.expr.Expr.{Expr}
use Rattle.jav_tree.specs.Tokens.{IsSymbol, IsKeyword, IsName, IsComment}
use Rattle.jav_tree.specs.Types.{IsPrimitive, Qualified, BaseType, Brackets, WholeType}
use Rattle.jav_tree.specs.Types as type
use Rattle.jav_tree.specs.Operators.{IsStep}
use Rattle.jav_tree.specs.Expressions.{Shape, Expression, Primary, BeforeDot, ArrayCreation, Sizes, Arguments, Listed, Init, Items, Inits}
use Rattle.jav_tree.specs.Expressions as is
use Rattle.jav_tree.specs.Trees.{IsExpr, IsType}

-- tokens among which no comment stands
pub data NoComment : List Token → Type 0 where
  none : NoComment []
  more : {t : Token} {ts : List Token} → ¬ (IsComment t) → NoComment ts → NoComment (t ∷ ts)

joined : {ts us : List Token} → NoComment ts → NoComment us → NoComment (ts ++ us)
joined NoComment.none q = q
joined (NoComment.more f p) q = NoComment.more f (joined p q)

one : {t : Token} → ¬ (IsComment t) → NoComment (t ∷ [])
one f = NoComment.more f NoComment.none

a_symbol : {text : String} {t : Token} → IsSymbol text t → IsComment t → ⊥
a_symbol s c = cc (s.symbol, c.comment)

a_keyword : {text : String} {t : Token} → IsKeyword text t → IsComment t → ⊥
a_keyword s c = cc (s.keyword, c.comment)

a_name : {t : Token} → IsName t → IsComment t → ⊥
a_name s c = cc (s.word, c.comment)

a_step : {t : Token} → IsStep t → IsComment t → ⊥
a_step s c = cc (s.symbol, c.comment)

a_primitive : {t : Token} → IsPrimitive t → IsComment t → ⊥
a_primitive (type.boolean k _) c = cc (k, c.comment)
a_primitive (type.byte k _) c = cc (k, c.comment)
a_primitive (type.short k _) c = cc (k, c.comment)
a_primitive (type.char k _) c = cc (k, c.comment)
a_primitive (type.int k _) c = cc (k, c.comment)
a_primitive (type.long k _) c = cc (k, c.comment)

in_names : {q : List ℕ} {ts : List Token} → Qualified q ts → NoComment ts
in_names (type.name n) = one (a_name n)
in_names (type.dotted p dot n) = joined (in_names p) (NoComment.more (a_symbol dot) (one (a_name n)))

in_base : {to : TypeName} {ts : List Token} → BaseType to ts → NoComment ts
in_base (type.primitive p) = one (a_primitive p)
in_base (type.named p) = in_names p

in_brackets : {n : ℕ} {ts : List Token} → Brackets n ts → NoComment ts
in_brackets type.none = NoComment.none
in_brackets (type.pair left right p) = NoComment.more (a_symbol left) (NoComment.more (a_symbol right) (in_brackets p))

in_type : {limit : ℕ} {to : TypeName} {ts : List Token} → WholeType limit to ts → NoComment ts
in_type (type.whole p q _) = joined (in_base p) (in_brackets q)

-- tokens between two symbols
between : {a b : String} {left right : Token} {ts us : List Token} → IsSymbol a left → NoComment ts → IsSymbol b right → NoComment us → NoComment (left ∷ ts ++ right ∷ us)
between left p right q = NoComment.more (a_symbol left) (joined p (NoComment.more (a_symbol right) q))

mutual
  in_expression : {limit level h : ℕ} {e : Expr} {ts : List Token} → Expression limit level h e ts → NoComment ts
  in_expression (is.assign _ p op q) = joined (in_primary p) (NoComment.more (λ c. cc (op.symbol, c.comment)) (in_expression q))
  in_expression (is.cond _ p question q colon r) = joined (in_expression p) (between question (in_expression q) colon (in_expression r))
  in_expression (is.binary _ op p q) = joined (in_expression p) (NoComment.more (λ c. cc (op.symbol, c.comment)) (in_expression q))
  in_expression (is.instance_of _ p word q) = joined (in_expression p) (NoComment.more (a_keyword word) (in_type q))
  in_expression (is.prefix _ op p) = NoComment.more (λ c. cc (op.symbol, c.comment)) (in_expression p)
  in_expression (is.step_before _ op p) = NoComment.more (a_step op) (in_primary p)
  in_expression (is.cast _ left p right _ q) = between left (in_type p) right (in_expression q)
  in_expression (is.step_after _ p op) = joined (in_primary p) (one (a_step op))
  in_expression (is.creation _ p) = in_creation p
  in_expression (is.primary p) = in_primary p

  in_primary : {limit h : ℕ} {shape : Shape} {e : Expr} {ts : List Token} → Primary limit shape h e ts → NoComment ts
  in_primary (is.literal t) = one (λ c. cc (t.literal, c.comment))
  in_primary (is.this t) = one (a_keyword t)
  in_primary (is.paren left p right) = between left (in_expression p) right NoComment.none
  in_primary (is.name t) = one (a_name t)
  in_primary (is.field p dot t) = joined (in_before_dot p) (NoComment.more (a_symbol dot) (one (a_name t)))
  in_primary (is.index p left q right) = joined (in_primary p) (between left (in_expression q) right NoComment.none)
  in_primary (is.call_on p dot t q) = joined (in_before_dot p) (NoComment.more (a_symbol dot) (NoComment.more (a_name t) (in_arguments q)))
  in_primary (is.call t q) = NoComment.more (a_name t) (in_arguments q)
  in_primary (is.super_call word dot t q) = NoComment.more (a_keyword word) (NoComment.more (a_symbol dot) (NoComment.more (a_name t) (in_arguments q)))
  in_primary (is.new word p q) = NoComment.more (a_keyword word) (joined (in_names p) (in_arguments q))

  in_before_dot : {limit h : ℕ} {e : Expr} {ts : List Token} → BeforeDot limit h e ts → NoComment ts
  in_before_dot (is.primary_before_dot p) = in_primary p
  in_before_dot (is.array_before_dot p) = in_creation p

  in_creation : {limit h : ℕ} {e : Expr} {ts : List Token} → ArrayCreation limit h e ts → NoComment ts
  in_creation (is.sized word p q r _) = NoComment.more (a_keyword word) (joined (in_base p) (joined (in_sizes q) (in_brackets r)))
  in_creation (is.filled word p q _ r) = NoComment.more (a_keyword word) (joined (in_base p) (joined (in_brackets q) (in_items r)))

  in_sizes : {limit h : ℕ} {es : List Expr} {ts : List Token} → Sizes limit h es ts → NoComment ts
  in_sizes (is.last_size left p right) = between left (in_expression p) right NoComment.none
  in_sizes (is.more_sizes left p right q) = between left (in_expression p) right (in_sizes q)

  in_arguments : {limit h : ℕ} {es : List Expr} {ts : List Token} → Arguments limit h es ts → NoComment ts
  in_arguments (is.no_arguments left right) = between left NoComment.none right NoComment.none
  in_arguments (is.some_arguments left p right _) = between left (in_listed p) right NoComment.none

  in_listed : {limit h : ℕ} {es : List Expr} {ts : List Token} → Listed limit h es ts → NoComment ts
  in_listed (is.last_listed p) = in_expression p
  in_listed (is.more_listed p comma q) = joined (in_expression p) (NoComment.more (a_symbol comma) (in_listed q))

  in_init : {limit h : ℕ} {e : Expr} {ts : List Token} → Init limit h e ts → NoComment ts
  in_init (is.value p) = in_expression p
  in_init (is.braces p) = in_items p

  in_items : {limit h : ℕ} {es : List Expr} {ts : List Token} → Items limit h es ts → NoComment ts
  in_items (is.no_items left right) = between left NoComment.none right NoComment.none
  in_items (is.some_items left p right) = between left (in_inits p) right NoComment.none
  in_items (is.items_comma left p last right) = between left (in_inits p) last (one (a_symbol right))

  in_inits : {limit h : ℕ} {es : List Expr} {ts : List Token} → Inits limit h es ts → NoComment ts
  in_inits (is.last_item p) = in_init p
  in_inits (is.more_items p comma q) = joined (in_init p) (NoComment.more (a_symbol comma) (in_inits q))

within : {t : Token} (ts us : List Token) → NoComment (ts ++ t ∷ us) → IsComment t → ⊥
within [] us (NoComment.more f _) c = f c
within (x ∷ ts) us (NoComment.more _ p) c = within ts us p c

-- no expression has a comment before, inside or after it
pub no_comment_in_expression : {limit max_height : ℕ} {e : Expr} {t : Token} (ts us : List Token) → IsComment t → IsExpr limit max_height e (ts ++ t ∷ us) → ⊥
no_comment_in_expression ts us c p = within ts us (in_expression p.2) c

-- no type has one
pub no_comment_in_type : {limit : ℕ} {to : TypeName} {t : Token} (ts us : List Token) → IsComment t → IsType limit to (ts ++ t ∷ us) → ⊥
no_comment_in_type ts us c p = within ts us (in_type p) c
