-- What one token is, by cases, and lists of tokens (JLS 3.5).
use Rattle.std.specs.Prelude.{ℕ, List, ◌∷◌, [], All, Contains, codes}
use Rattle.std.specs.Str.{IsUtf8}
use Rattle.mol_base.specs.Token.{Token}
use Rattle.mol_base.specs.Lexical.Escapes.{HasNoEscape}
use Rattle.mol_base.specs.Lexical.Names.{keywords, word_literals}
use Rattle.mol_base.specs.Lexical.Forms.Comment.{IsComment}
use Rattle.mol_base.specs.Lexical.Forms.Name.{IsWord}
use Rattle.mol_base.specs.Lexical.Forms.Number.{IsNumber}
use Rattle.mol_base.specs.Lexical.Forms.Quoted.{IsString, IsCharacter}
use Rattle.mol_base.specs.declared.token_kind.TokenKind.{TokenKind}
use Rattle.mol_base.specs.declared.token_kind.TokenKind.TheVariants.{Word, Keyword, Literal, Symbol, Comment}

-- separators and operators (JLS 3.11, 3.12)
unfoldable pub symbols : List (List ℕ)
symbols = codes "(" ∷ codes ")" ∷ codes "{" ∷ codes "}" ∷ codes "[" ∷ codes "]" ∷ codes ";" ∷ codes "," ∷ codes "."
    ∷ codes "..." ∷ codes "@" ∷ codes "::" ∷ codes "=" ∷ codes ">" ∷ codes "<" ∷ codes "!" ∷ codes "~" ∷ codes "?"
    ∷ codes ":" ∷ codes "->" ∷ codes "==" ∷ codes ">=" ∷ codes "<=" ∷ codes "!=" ∷ codes "&&" ∷ codes "||" ∷ codes "++"
    ∷ codes "--" ∷ codes "+" ∷ codes "-" ∷ codes "*" ∷ codes "/" ∷ codes "&" ∷ codes "|" ∷ codes "^" ∷ codes "%"
    ∷ codes "<<" ∷ codes ">>" ∷ codes ">>>" ∷ codes "+=" ∷ codes "-=" ∷ codes "*=" ∷ codes "/=" ∷ codes "&=" ∷ codes "|="
    ∷ codes "^=" ∷ codes "%=" ∷ codes "<<=" ∷ codes ">>=" ∷ codes ">>>=" ∷ []

-- `true`, `false` and `null`, whole numbers, strings and characters (JLS 3.10)
pub data IsLiteral (bytes : List ℕ) : Type 0 where
  word : Contains word_literals bytes → IsLiteral bytes
  number : IsNumber bytes → IsLiteral bytes
  string : IsString bytes → IsLiteral bytes
  character : IsCharacter bytes → IsLiteral bytes

-- all of the bytes are one token of the kind
abbrev pub IsToken : TokenKind → List ℕ → Type 0
IsToken Word bytes = IsWord bytes
IsToken Keyword bytes = Contains keywords bytes
IsToken Literal bytes = IsLiteral bytes
IsToken Symbol bytes = Contains symbols bytes
IsToken Comment bytes = IsComment bytes

-- the bytes are one token of the kind, as a source may have it: UTF-8 without a Unicode escape
pub record IsOneToken (kind : TokenKind) (bytes : List ℕ) : Type 0 where
  pub utf8 : IsUtf8 bytes
  pub escapes : HasNoEscape bytes
  pub token : IsToken kind bytes

-- each text is a token of its kind
abbrev pub AreTokens : List Token → Type 0
AreTokens tokens = All (λ token. IsToken token.kind token.text) tokens
