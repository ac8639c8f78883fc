-- The sort of a token, from what the grammar asks of it.
use Rattle.std.proofs.Common.{◌≡◌, ◌⊎◌, inl, inr, ℕ, ◌≤◌, Bool, true, false, ◌||◌, if◌then◌else◌, List, [], ◌∷◌, refl, sym, ap, ◌∙◌, subst, codes, Option, Some, arith}
use Prim.Native.String.{String}
use Rattle.std.proofs.lemmas.Slice.Eq.{bytes_eq-Decides}
use Rattle.std.specs.Str.{bytes_eq}
use Rattle.mol_base.specs.Among.{among}
use Rattle.mol_base.specs.Operators.{assignments, steps, prefixes, is_sign}
use Rattle.mol_base.specs.Token.{Token}
use Rattle.mol_base.specs.declared.token_kind.TokenKind.TheVariants as kind
use Rattle.jav_tree.specs.Operators.{binary_level, IsBinary, IsAssignment, IsStep, IsPrefix, IsSign}
use Rattle.jav_tree.specs.Tokens.{IsSymbol, IsKeyword, IsName, IsLiteral, IsComment}
use Rattle.jav_tree.specs.Types as types
use Rattle.jav_tree.specs.Types.{IsPrimitive}
use Rattle.jav_parse_cursor.specs.declared.sort.Sort.{Sort}
use Rattle.jav_parse_cursor.specs.declared.sort.Sort.TheVariants as sort
use Rattle.jav_parse_expr.specs.ExprRules.{level_of, is_assignment, begins_operand}
use Rattle.jav_parse_cursor.specs.Sorts.{same_sort, looked_up, symbols, keywords, sort_of}
use Rattle.jav_parse.proofs.Written.{is_same}

-- ---- one text

pub symbol_sort : (text : String) (t : Token) → IsSymbol text t → sort_of t ≡ looked_up symbols (codes text)
unfolding sort_of
symbol_sort text t h = rw (h.symbol, h.written) refl

pub keyword_sort : (text : String) (t : Token) → IsKeyword text t → sort_of t ≡ looked_up keywords (codes text)
unfolding sort_of
keyword_sort text t h = rw (h.keyword, h.written) refl

pub open_sort : {t : Token} → IsSymbol "(" t → sort_of t ≡ sort.Open
open_sort {t} h = symbol_sort "(" t h

pub close_sort : {t : Token} → IsSymbol ")" t → sort_of t ≡ sort.Close
close_sort {t} h = symbol_sort ")" t h

pub left_sort : {t : Token} → IsSymbol "[" t → sort_of t ≡ sort.Left
left_sort {t} h = symbol_sort "[" t h

pub right_sort : {t : Token} → IsSymbol "]" t → sort_of t ≡ sort.Right
right_sort {t} h = symbol_sort "]" t h

pub begin_sort : {t : Token} → IsSymbol "{" t → sort_of t ≡ sort.Begin
begin_sort {t} h = symbol_sort "{" t h

pub finish_sort : {t : Token} → IsSymbol "}" t → sort_of t ≡ sort.Finish
finish_sort {t} h = symbol_sort "}" t h

pub dot_sort : {t : Token} → IsSymbol "." t → sort_of t ≡ sort.Dot
dot_sort {t} h = symbol_sort "." t h

pub comma_sort : {t : Token} → IsSymbol "," t → sort_of t ≡ sort.Comma
comma_sort {t} h = symbol_sort "," t h

pub semi_sort : {t : Token} → IsSymbol ";" t → sort_of t ≡ sort.Semi
semi_sort {t} h = symbol_sort ";" t h

pub question_sort : {t : Token} → IsSymbol "?" t → sort_of t ≡ sort.Question
question_sort {t} h = symbol_sort "?" t h

pub colon_sort : {t : Token} → IsSymbol ":" t → sort_of t ≡ sort.Colon
colon_sort {t} h = symbol_sort ":" t h

pub equals_sort : {t : Token} → IsSymbol "=" t → sort_of t ≡ sort.Equals
equals_sort {t} h = symbol_sort "=" t h

pub this_sort : {t : Token} → IsKeyword "this" t → sort_of t ≡ sort.This
this_sort {t} h = keyword_sort "this" t h

pub super_sort : {t : Token} → IsKeyword "super" t → sort_of t ≡ sort.Super
super_sort {t} h = keyword_sort "super" t h

pub new_sort : {t : Token} → IsKeyword "new" t → sort_of t ≡ sort.New
new_sort {t} h = keyword_sort "new" t h

pub instance_of_sort : {t : Token} → IsKeyword "instanceof" t → sort_of t ≡ sort.InstanceOf
instance_of_sort {t} h = keyword_sort "instanceof" t h

-- ---- one kind

pub name_sort : {t : Token} → IsName t → sort_of t ≡ sort.Name
unfolding sort_of
name_sort {t} h = rw (h.word) refl

pub literal_sort : {t : Token} → IsLiteral t → sort_of t ≡ sort.Literal
unfolding sort_of
literal_sort {t} h = rw (h.literal) refl

pub comment_sort : {t : Token} → IsComment t → sort_of t ≡ sort.Comment
unfolding sort_of
comment_sort {t} h = rw (h.comment) refl

pub primitive_sort : {t : Token} → IsPrimitive t → sort_of t ≡ sort.Prim
unfolding sort_of
primitive_sort (types.boolean k e) = rw (k, e) refl
primitive_sort (types.byte k e) = rw (k, e) refl
primitive_sort (types.short k e) = rw (k, e) refl
primitive_sort (types.char k e) = rw (k, e) refl
primitive_sort (types.int k e) = rw (k, e) refl
primitive_sort (types.long k e) = rw (k, e) refl

-- ---- some texts

-- each of these texts passes a test
abbrev all_of : (List ℕ → Bool) → List String → Bool
all_of P [] = true
all_of P (w ∷ ws) = if P (codes w) then all_of P ws else false

and_left : (a b : Bool) → (if a then b else false) ≡ true → a ≡ true
and_left true b h = refl
and_left false b h = absurd (cc)

and_right : (a b : Bool) → (if a then b else false) ≡ true → b ≡ true
and_right true b h = h
and_right false b h = absurd (cc)

among_by : (found : Bool) (P : List ℕ → Bool) (w : String) (ws : List String) (text : List ℕ) → (found ≡ true → text ≡ codes w) → all_of P (w ∷ ws) ≡ true
    → (all_of P ws ≡ true → among ws text ≡ true → P text ≡ true) → (found || among ws text) ≡ true → P text ≡ true
among_by true P w ws text e all go h = ap P (e refl) ∙ and_left (P (codes w)) (all_of P ws) all
among_by false P w ws text e all go h = go (and_right (P (codes w)) (all_of P ws) all) h

-- what holds of each of some texts
pub among_text : (P : List ℕ → Bool) (ws : List String) (text : List ℕ) → all_of P ws ≡ true → among ws text ≡ true → P text ≡ true
among_text P [] text all h = absurd (cc)
among_text P (w ∷ ws) text all h = among_by (bytes_eq text (codes w)) P w ws text (λ b. (bytes_eq-Decides text (codes w)).0 b) all (among_text P ws text) h

among_sort : (P : Sort → Bool) (ws : List String) (text : List ℕ) → all_of (λ r. P (looked_up symbols r)) ws ≡ true → among ws text ≡ true → P (looked_up symbols text) ≡ true
among_sort P ws text all h = among_text (λ r. P (looked_up symbols r)) ws text all h

symbol_is : (t : Token) → t.kind ≡ kind.Symbol → sort_of t ≡ looked_up symbols t.text
unfolding sort_of
symbol_is t h = rw h refl

pub assignment_sort : {t : Token} → IsAssignment t → is_assignment (sort_of t) ≡ true
assignment_sort {t} h = ap is_assignment (symbol_is t h.symbol) ∙ among_sort is_assignment assignments t.text refl h.written

pub step_sort : {t : Token} → IsStep t → sort_of t ≡ sort.Step
unfolding same_sort
step_sort {t} h = symbol_is t h.symbol ∙ is_same (looked_up symbols t.text) sort.Step (among_sort (λ s. same_sort s sort.Step) steps t.text refl h.written)

-- an operator before an operand: a sign, or one with which the operand of a cast may begin
abbrev pub is_prefix_sort : Sort → Bool
is_prefix_sort sort.Sign = true
is_prefix_sort sort.Not = true
is_prefix_sort _ = false

pub prefix_sort : {t : Token} → IsPrefix t → is_prefix_sort (sort_of t) ≡ true
prefix_sort {t} h = ap is_prefix_sort (symbol_is t h.symbol) ∙ among_sort is_prefix_sort prefixes t.text refl h.written

either : (a b : Bool) → (a || b) ≡ true → (a ≡ true) ⊎ (b ≡ true)
either true b h = inl refl
either false b h = inr h

-- an operator before an operand begins the operand of a cast, or is a sign
pub prefix_apart : {t : Token} → IsPrefix t → (begins_operand (sort_of t) ≡ true) ⊎ IsSign t
prefix_apart {t} h =
    elim (either (begins_operand (looked_up symbols t.text)) (is_sign t.text) (among_text (λ r. begins_operand (looked_up symbols r) || is_sign r) prefixes t.text refl h.written)) [
      | inl k ↦ inl (ap begins_operand (symbol_is t h.symbol) ∙ k)
      | inr k ↦ inr (record { symbol = h.symbol; written = k })
    ]

pub step_sign : {t : Token} → IsStep t → IsSign t
step_sign {t} h = record { symbol = h.symbol; written = among_text is_sign steps t.text refl h.written }

-- an operator between two operands
pub record IsOperator (own : ℕ) (s : Sort) : Type 0 where
  pub level : level_of s ≡ own
  pub low : 3 ≤ own
  pub high : own ≤ 12
  pub plain : same_sort s sort.InstanceOf ≡ false

if_level : (found : Bool) (k own : ℕ) (text : List ℕ) (s : Sort) (others : Option ℕ) → (found ≡ true → same_sort (looked_up symbols text) s ≡ true) → IsOperator k s
    → (others ≡ Some own → IsOperator own (looked_up symbols text)) → (if found then Some k else others) ≡ Some own → IsOperator own (looked_up symbols text)
if_level true k own text s others e op go h =
    let found : looked_up symbols text ≡ s = is_same (looked_up symbols text) s (e refl) in
    let same : k ≡ own = cc in
    subst (λ n. IsOperator n (looked_up symbols text)) same (subst (IsOperator k) (sym found) op)
if_level false k own text s others e op go h = go h

operator_or : IsOperator 3 sort.Or
unfolding same_sort
operator_or = record { level = refl; low = omega arith; high = omega arith; plain = refl }

operator_and : IsOperator 4 sort.And
unfolding same_sort
operator_and = record { level = refl; low = omega arith; high = omega arith; plain = refl }

operator_bitor : IsOperator 5 sort.BitOr
unfolding same_sort
operator_bitor = record { level = refl; low = omega arith; high = omega arith; plain = refl }

operator_xor : IsOperator 6 sort.Xor
unfolding same_sort
operator_xor = record { level = refl; low = omega arith; high = omega arith; plain = refl }

operator_bitand : IsOperator 7 sort.BitAnd
unfolding same_sort
operator_bitand = record { level = refl; low = omega arith; high = omega arith; plain = refl }

operator_equality : IsOperator 8 sort.Equality
unfolding same_sort
operator_equality = record { level = refl; low = omega arith; high = omega arith; plain = refl }

operator_relation : IsOperator 9 sort.Relation
unfolding same_sort
operator_relation = record { level = refl; low = omega arith; high = omega arith; plain = refl }

operator_shift : IsOperator 10 sort.Shift
unfolding same_sort
operator_shift = record { level = refl; low = omega arith; high = omega arith; plain = refl }

operator_sign : IsOperator 11 sort.Sign
unfolding same_sort
operator_sign = record { level = refl; low = omega arith; high = omega arith; plain = refl }

operator_product : IsOperator 12 sort.Product
unfolding same_sort
operator_product = record { level = refl; low = omega arith; high = omega arith; plain = refl }

binary_by : (own : ℕ) (text : List ℕ) → binary_level text ≡ Some own → IsOperator own (looked_up symbols text)
unfolding same_sort
binary_by own text =
    if_level (among ("||" ∷ []) text) 3 own text sort.Or _ (among_sort (λ s. same_sort s sort.Or) ("||" ∷ []) text refl) operator_or (
    if_level (among ("&&" ∷ []) text) 4 own text sort.And _ (among_sort (λ s. same_sort s sort.And) ("&&" ∷ []) text refl) operator_and (
    if_level (among ("|" ∷ []) text) 5 own text sort.BitOr _ (among_sort (λ s. same_sort s sort.BitOr) ("|" ∷ []) text refl) operator_bitor (
    if_level (among ("^" ∷ []) text) 6 own text sort.Xor _ (among_sort (λ s. same_sort s sort.Xor) ("^" ∷ []) text refl) operator_xor (
    if_level (among ("&" ∷ []) text) 7 own text sort.BitAnd _ (among_sort (λ s. same_sort s sort.BitAnd) ("&" ∷ []) text refl) operator_bitand (
    if_level (among ("==" ∷ "!=" ∷ []) text) 8 own text sort.Equality _ (among_sort (λ s. same_sort s sort.Equality) ("==" ∷ "!=" ∷ []) text refl) operator_equality (
    if_level (among ("<" ∷ ">" ∷ "<=" ∷ ">=" ∷ []) text) 9 own text sort.Relation _ (among_sort (λ s. same_sort s sort.Relation) ("<" ∷ ">" ∷ "<=" ∷ ">=" ∷ []) text refl) operator_relation (
    if_level (among ("<<" ∷ ">>" ∷ ">>>" ∷ []) text) 10 own text sort.Shift _ (among_sort (λ s. same_sort s sort.Shift) ("<<" ∷ ">>" ∷ ">>>" ∷ []) text refl) operator_shift (
    if_level (among ("+" ∷ "-" ∷ []) text) 11 own text sort.Sign _ (among_sort (λ s. same_sort s sort.Sign) ("+" ∷ "-" ∷ []) text refl) operator_sign (
    if_level (among ("*" ∷ "/" ∷ "%" ∷ []) text) 12 own text sort.Product _ (among_sort (λ s. same_sort s sort.Product) ("*" ∷ "/" ∷ "%" ∷ []) text refl) operator_product (
    (λ h. absurd (cc))))))))))))

pub binary_sort : {own : ℕ} {t : Token} → IsBinary own t → IsOperator own (sort_of t)
binary_sort {own} {t} h = subst (IsOperator own) (sym (symbol_is t h.symbol)) (binary_by own t.text h.level_is)

pub checked : ℕ
checked = 1
