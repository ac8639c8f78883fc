-- The tokens with which expressions begin.
use Rattle.std.proofs.Common.{◌≡◌, ◌⊎◌, inl, inr, ℕ, Bool, true, false, List, [], ◌∷◌, ◌++◌, refl, ap, ◌∙◌, subst, append_assoc}
use Rattle.mol_base.specs.Token.{Token}
use Rattle.jav_tree.specs.declared.expr.Expr.{Expr}
use Rattle.jav_tree.specs.Expressions as grammar
use Rattle.jav_tree.specs.Expressions.{Shape, Expression, Primary, BeforeDot, ArrayCreation, primary_before_dot, array_before_dot, Init, Items, value, braces, no_items, some_items, items_comma}
use Rattle.jav_tree.specs.Operators.{BeginsWithSign}
use Rattle.jav_parse_cursor.specs.declared.sort.Sort.{Sort}
use Rattle.jav_parse_cursor.specs.declared.sort.Sort.TheVariants as sort
use Rattle.jav_parse_expr.specs.ExprRules.{begins_operand}
use Rattle.jav_parse_cursor.specs.Reading.{sort as next}
use Rattle.jav_parse_cursor.specs.Sorts.{same_sort}
use Rattle.jav_parse.proofs.ReadingSteps.{IsNot, BeginsPart}
use Rattle.jav_parse.proofs.SortsOfTokens.{name_sort, literal_sort, this_sort, super_sort, new_sort, open_sort, begin_sort, step_sort, prefix_sort, is_prefix_sort, prefix_apart, step_sign}
use Rattle.jav_parse.proofs.Written.{is_same}

-- a part, or an operator before an operand
abbrev pub Begins : Sort → Type 0
Begins sort.Name = Unit {0}
Begins sort.Literal = Unit {0}
Begins sort.This = Unit {0}
Begins sort.Super = Unit {0}
Begins sort.New = Unit {0}
Begins sort.Open = Unit {0}
Begins sort.Not = Unit {0}
Begins sort.Sign = Unit {0}
Begins sort.Step = Unit {0}
Begins _ = ⊥

pub part_begins : (s : Sort) → BeginsPart s → Begins s
part_begins sort.Name b = tt
part_begins sort.Literal b = tt
part_begins sort.This b = tt
part_begins sort.Super b = tt
part_begins sort.New b = tt
part_begins sort.Open b = tt
part_begins s b = absurd b

part_operand : (s : Sort) → BeginsPart s → begins_operand s ≡ true
part_operand sort.Name b = refl
part_operand sort.Literal b = refl
part_operand sort.This b = refl
part_operand sort.Super b = refl
part_operand sort.New b = refl
part_operand sort.Open b = refl
part_operand s b = absurd b

prefix_begins : (s : Sort) → is_prefix_sort s ≡ true → Begins s
prefix_begins sort.Sign h = tt
prefix_begins sort.Not h = tt
prefix_begins s h = absurd (cc)

-- a token with which no expression begins
apart_by : (s u : Sort) → Begins s → (Begins u → ⊥) → (same : Bool) → (same ≡ true → s ≡ u) → same ≡ false
apart_by s u b n true e = absurd (n (subst Begins (e refl) b))
apart_by s u b n false e = refl

pub begins_not : (s : Sort) (ts : List Token) → Begins (next ts) → (Begins s → ⊥) → IsNot s ts
begins_not s ts b n = apart_by (next ts) s b n (same_sort (next ts) s) (is_same (next ts) s)

creation_begins : {limit h : ℕ} {e : Expr} {ts : List Token} → ArrayCreation limit h e ts → (rest : List Token) → next (ts ++ rest) ≡ sort.New
unfolding next
creation_begins (grammar.sized w b s n few) rest = new_sort w
creation_begins (grammar.filled w b n few i) rest = new_sort w

pub array_begins : {limit h : ℕ} {e : Expr} {ts : List Token} → ArrayCreation limit h e ts → (rest : List Token) → BeginsPart (next (ts ++ rest))
array_begins x rest = rw (creation_begins x rest) tt

mutual
  unfolding next

  pub primary_begins : {limit h : ℕ} {shape : Shape} {e : Expr} {ts : List Token} → Primary limit shape h e ts → (rest : List Token) → BeginsPart (next (ts ++ rest))
  primary_begins (grammar.literal t) rest = rw (literal_sort t) tt
  primary_begins (grammar.this t) rest = rw (this_sort t) tt
  primary_begins (grammar.paren a x c) rest = rw (open_sort a) tt
  primary_begins (grammar.name t) rest = rw (name_sort t) tt
  primary_begins (grammar.field {dot = dot} {t = t} x d n) rest = rw append_assoc (before_dot_begins x (dot ∷ t ∷ rest))
  primary_begins (grammar.index {left = left} {right = right} {us = us} x a i c) rest = rw append_assoc (primary_begins x (left ∷ (us ++ right ∷ []) ++ rest))
  primary_begins (grammar.call_on {dot = dot} {t = t} {us = us} x d n args) rest = rw append_assoc (before_dot_begins x (dot ∷ t ∷ us ++ rest))
  primary_begins (grammar.call t args) rest = rw (name_sort t) tt
  primary_begins (grammar.super_call w d t args) rest = rw (super_sort w) tt
  primary_begins (grammar.new w q args) rest = rw (new_sort w) tt

  pub before_dot_begins : {limit h : ℕ} {e : Expr} {ts : List Token} → BeforeDot limit h e ts → (rest : List Token) → BeginsPart (next (ts ++ rest))
  before_dot_begins (primary_before_dot x) rest = primary_begins x rest
  before_dot_begins (array_before_dot x) rest = array_begins x rest

pub expression_begins : {limit level h : ℕ} {e : Expr} {ts : List Token} → Expression limit level h e ts → (rest : List Token) → Begins (next (ts ++ rest))
unfolding next
expression_begins (grammar.assign {op = op} {us = us} low x o y) rest = rw append_assoc (part_begins _ (primary_begins x (op ∷ us ++ rest)))
expression_begins (grammar.cond {question = question} {colon = colon} {us = us} {vs = vs} low x q a c b) rest = rw append_assoc (expression_begins x (question ∷ (us ++ colon ∷ vs) ++ rest))
expression_begins (grammar.binary {op = op} {us = us} low o x y) rest = rw append_assoc (expression_begins x (op ∷ us ++ rest))
expression_begins (grammar.instance_of {word = word} {us = us} low x w to) rest = rw append_assoc (expression_begins x (word ∷ us ++ rest))
expression_begins (grammar.prefix low o x) rest = prefix_begins _ (prefix_sort o)
expression_begins (grammar.step_before low o x) rest = rw (step_sort o) tt
expression_begins (grammar.cast low a to c may x) rest = rw (open_sort a) tt
expression_begins (grammar.step_after {op = op} low x o) rest = rw append_assoc (part_begins _ (primary_begins x (op ∷ rest)))
expression_begins (grammar.creation low x) rest = part_begins _ (array_begins x rest)
expression_begins (grammar.primary x) rest = part_begins _ (primary_begins x rest)

longer : (ts us : List Token) → BeginsWithSign ts → BeginsWithSign (ts ++ us)
longer [] us s = absurd s
longer (t ∷ ts) us s = s

more_of : {A : Type 0} (ts us : List Token) → (A ⊎ BeginsWithSign ts) → (A ⊎ BeginsWithSign (ts ++ us))
more_of ts us (inl a) = inl a
more_of ts us (inr s) = inr (longer ts us s)

-- an expression begins as the operand of a cast does, or with a sign
pub cast_begins : {limit level h : ℕ} {e : Expr} {ts : List Token} → Expression limit level h e ts → (rest : List Token) → (begins_operand (next (ts ++ rest)) ≡ true) ⊎ BeginsWithSign ts
unfolding next
cast_begins (grammar.assign {op = op} {us = us} low x o y) rest = inl (rw append_assoc (part_operand _ (primary_begins x (op ∷ us ++ rest))))
cast_begins (grammar.cond {question = question} {colon = colon} {ts = ts} {us = us} {vs = vs} low x q a c b) rest = more_of ts _ (rw append_assoc (cast_begins x (question ∷ (us ++ colon ∷ vs) ++ rest)))
cast_begins (grammar.binary {op = op} {ts = ts} {us = us} low o x y) rest = more_of ts _ (rw append_assoc (cast_begins x (op ∷ us ++ rest)))
cast_begins (grammar.instance_of {word = word} {ts = ts} {us = us} low x w to) rest = more_of ts _ (rw append_assoc (cast_begins x (word ∷ us ++ rest)))
cast_begins (grammar.prefix low o x) rest = prefix_apart o
cast_begins (grammar.step_before low o x) rest = inr (step_sign o)
cast_begins (grammar.cast low a to c may x) rest = inl (rw (open_sort a) refl)
cast_begins (grammar.step_after {op = op} low x o) rest = inl (rw append_assoc (part_operand _ (primary_begins x (op ∷ rest))))
cast_begins (grammar.creation low x) rest = inl (part_operand _ (array_begins x rest))
cast_begins (grammar.primary x) rest = inl (part_operand _ (primary_begins x rest))

-- items in braces begin with one
pub items_begin : {limit h : ℕ} {es : List Expr} {ts : List Token} → Items limit h es ts → (rest : List Token) → next (ts ++ rest) ≡ sort.Begin
unfolding next
items_begin (no_items a c) rest = begin_sort a
items_begin (some_items a x c) rest = begin_sort a
items_begin (items_comma a x l c) rest = begin_sort a

pub init_not : (s : Sort) {limit h : ℕ} {e : Expr} {ts : List Token} → Init limit h e ts → (rest : List Token) → (Begins s → ⊥) → same_sort sort.Begin s ≡ false → IsNot s (ts ++ rest)
init_not s {ts = ts} (value x) rest n d = begins_not s (ts ++ rest) (expression_begins x rest) n
init_not s (braces i) rest n d = ap (λ v. same_sort v s) (items_begin i rest) ∙ d
