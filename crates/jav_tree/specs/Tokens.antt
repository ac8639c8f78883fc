-- What the grammar asks of a single token, and lists of comments.
use Rattle.std.specs.Prelude.{◌≡◌, ℕ, List, [], ◌∷◌, codes}
use Prim.Native.String.{String}
use Rattle.mol_base.specs.Token.{Token}
use Rattle.mol_base.specs.declared.token_kind.TokenKind.TheVariants as kind

-- the symbol or operator that is written so
pub record IsSymbol (text : String) (t : Token) : Type 0 where
  pub symbol : t.kind ≡ kind.Symbol
  pub written : t.text ≡ codes text

-- the keyword that is written so
pub record IsKeyword (text : String) (t : Token) : Type 0 where
  pub keyword : t.kind ≡ kind.Keyword
  pub written : t.text ≡ codes text

-- an identifier
pub record IsName (t : Token) : Type 0 where
  pub word : t.kind ≡ kind.Word

-- a literal
pub record IsLiteral (t : Token) : Type 0 where
  pub literal : t.kind ≡ kind.Literal

-- a comment
pub record IsComment (t : Token) : Type 0 where
  pub comment : t.kind ≡ kind.Comment

-- where a list of tokens begins
abbrev pub start_of : List Token → ℕ
start_of [] = 0
start_of (t ∷ ts) = t.start

-- Comments texts ts: the tokens ts are comments, and texts are their texts.
pub data Comments : List (List ℕ) → List Token → Type 0 where
  none : Comments [] []
  comment : {t : Token} {texts : List (List ℕ)} {ts : List Token} → IsComment t → Comments texts ts → Comments (t.text ∷ texts) (t ∷ ts)
