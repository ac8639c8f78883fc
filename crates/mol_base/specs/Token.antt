-- A token as definitions see it: what sort it is, its bytes, and where they begin and end in the source.
use Rattle.std.specs.Prelude.{ℕ, List}
use Rattle.mol_base.specs.declared.token_kind.TokenKind.{TokenKind}

pub record Token : Type 0 where
  pub kind : TokenKind
  pub text : List ℕ
  pub start : ℕ
  pub end : ℕ
