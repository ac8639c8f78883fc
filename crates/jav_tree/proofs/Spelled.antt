-- Tokens and trees for worked examples, each from its text and its offset.
use Rattle.std.proofs.Common.{◌≡◌, ℕ, ◌+◌, [], ◌∷◌, length, codes, Some, true, refl}
use Prim.Native.String.{String}
use Rattle.mol_base.specs.Token.{Token}
use Rattle.mol_base.specs.declared.token_kind.TokenKind.{TokenKind}
use Rattle.mol_base.specs.declared.token_kind.TokenKind.TheVariants as kind
use Rattle.jav_tree.specs.declared.types.TypeName.TheVariants as ty
use Rattle.jav_tree.specs.declared.expr.Expr.{Expr}
use Rattle.jav_tree.specs.declared.expr.ExprNode.TheVariants as node
use Rattle.jav_tree.specs.Tokens.{IsSymbol, IsKeyword, IsName, IsLiteral, IsComment}
use Rattle.jav_tree.specs.Operators.{IsBinary, IsAssignment, IsStep, IsPrefix, binary_level, among}
use Rattle.jav_tree.specs.Types.{IsPrimitive, BaseType, WholeType, Qualified}
use Rattle.jav_tree.specs.Types as type
use Rattle.jav_tree.specs.Expressions.{Expression, Primary, target, expr_at}
use Rattle.jav_tree.specs.Expressions as is

abbrev made : TokenKind → String → ℕ → Token
made k text at = record { kind = k; text = codes text; start = at; end = at + length (codes text) }

abbrev pub sym : String → ℕ → Token
sym = made kind.Symbol

abbrev pub key : String → ℕ → Token
key = made kind.Keyword

abbrev pub word : String → ℕ → Token
word = made kind.Word

abbrev pub lit : String → ℕ → Token
lit = made kind.Literal

abbrev pub note : String → ℕ → Token
note = made kind.Comment

-- that these are what the grammar takes them for
pub symbol : (text : String) (at : ℕ) → IsSymbol text (sym text at)
symbol text at = record { symbol = refl; written = refl }

pub keyword : (text : String) (at : ℕ) → IsKeyword text (key text at)
keyword text at = record { keyword = refl; written = refl }

pub named : (text : String) (at : ℕ) → IsName (word text at)
named text at = record { word = refl }

pub literal : (text : String) (at : ℕ) → IsLiteral (lit text at)
literal text at = record { literal = refl }

pub comment : (text : String) (at : ℕ) → IsComment (note text at)
comment text at = record { comment = refl }

pub operator : (level : ℕ) (text : String) (at : ℕ) → binary_level (codes text) ≡ Some level → IsBinary level (sym text at)
operator level text at e = record { symbol = refl; level_is = e }

pub assigns : (text : String) (at : ℕ) → among ("=" ∷ "+=" ∷ "-=" ∷ "*=" ∷ "/=" ∷ "&=" ∷ "|=" ∷ "^=" ∷ "%=" ∷ "<<=" ∷ ">>=" ∷ ">>>=" ∷ []) (codes text) ≡ true → IsAssignment (sym text at)
assigns text at e = record { symbol = refl; written = e }

pub steps : (text : String) (at : ℕ) → among ("++" ∷ "--" ∷ []) (codes text) ≡ true → IsStep (sym text at)
steps text at e = record { symbol = refl; written = e }

pub prefixes : (text : String) (at : ℕ) → among ("+" ∷ "-" ∷ "!" ∷ "~" ∷ []) (codes text) ≡ true → IsPrefix (sym text at)
prefixes text at e = record { symbol = refl; written = e }

pub int_at : (at : ℕ) → BaseType (ty.Prim (codes "int")) (key "int" at ∷ [])
int_at at = type.primitive (type.int refl refl)

pub class_at : (text : String) (at : ℕ) → BaseType (ty.Named (codes text)) (word text at ∷ [])
class_at text at = type.named (type.name (named text at))

-- trees
abbrev pub nm : ℕ → String → Expr
nm at text = expr_at at (node.Name (codes text))

abbrev pub num : ℕ → String → Expr
num at text = expr_at at (node.Lit (codes text))

abbrev pub un : ℕ → String → Expr → Expr
un at op e = expr_at at (node.Unary (codes op) e)

abbrev pub bin : String → Expr → Expr → Expr
bin op a b = expr_at a.at (node.Binary a (codes op) b)

abbrev pub set : String → Expr → Expr → Expr
set op a b = expr_at a.at (node.Assign a (codes op) b)

-- that a name is a target
pub name_at : (text : String) (at : ℕ) → Primary 255 target 1 (nm at text) (word text at ∷ [])
name_at text at = is.name (named text at)

-- that a name or a literal is an expression of any level
pub is_nm : {level : ℕ} (text : String) (at : ℕ) → Expression 255 level 1 (nm at text) (word text at ∷ [])
is_nm text at = is.primary (name_at text at)

pub is_num : {level : ℕ} (text : String) (at : ℕ) → Expression 255 level 1 (num at text) (lit text at ∷ [])
is_num text at = is.primary (is.literal (literal text at))
