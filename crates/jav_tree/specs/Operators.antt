-- Tokens that are operators. As texts, with how tightly they bind, they stand in mol_base.
use Rattle.std.specs.Prelude.{◌≡◌, ℕ, List, [], ◌∷◌, true, Some}
pub use Rattle.mol_base.specs.Among.{among}
pub use Rattle.mol_base.specs.Operators.{binary_level}
use Rattle.mol_base.specs.Operators.{is_assignment, is_step, is_prefix, is_sign}
use Rattle.mol_base.specs.Token.{Token}
use Rattle.mol_base.specs.declared.token_kind.TokenKind.TheVariants as kind

-- an operator between two operands, of this level
pub record IsBinary (level : ℕ) (t : Token) : Type 0 where
  pub symbol : t.kind ≡ kind.Symbol
  pub level_is : binary_level t.text ≡ Some level

-- `=` and the compound assignments
pub record IsAssignment (t : Token) : Type 0 where
  pub symbol : t.kind ≡ kind.Symbol
  pub written : is_assignment t.text ≡ true

-- `++` and `--`, before or after their operand
pub record IsStep (t : Token) : Type 0 where
  pub symbol : t.kind ≡ kind.Symbol
  pub written : is_step t.text ≡ true

-- the other operators before an operand
pub record IsPrefix (t : Token) : Type 0 where
  pub symbol : t.kind ≡ kind.Symbol
  pub written : is_prefix t.text ≡ true

-- whether a token is `+`, `-`, `++` or `--`
pub record IsSign (t : Token) : Type 0 where
  pub symbol : t.kind ≡ kind.Symbol
  pub written : is_sign t.text ≡ true

-- tokens that begin with `+`, `-`, `++` or `--`
abbrev pub BeginsWithSign : List Token → Type 0
BeginsWithSign [] = ⊥
BeginsWithSign (t ∷ ts) = IsSign t
