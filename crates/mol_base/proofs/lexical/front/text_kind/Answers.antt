use Rattle.std.proofs.Common.{sym, subst, ◌∙◌, Option}
use Rattle.std.specs.Prelude.{IfSome}
use Rattle.mol_base.specs.Lexical.Tokens.{IsOneToken}
use Rattle.mol_base.specs.declared.token_kind.TokenKind.{TokenKind}
use Rattle.mol_base.proofs.OneToken.{IsOneToken-token_kind, token_kind-IsOneToken}
use Rattle.mol_base.proofs.lexical.front.text_kind.Goals as goal

pub returns-clause-some : goal.returns-clause-some
returns-clause-some c =
    let P : Option TokenKind → Type 0 = λ o. IfSome o (λ kind. IsOneToken kind c.args.bytes.now) in
    subst P (sym c.kind_of_whole.ensures) (IsOneToken-token_kind c.args.bytes.now)

pub returns-clause-only : goal.returns-clause-only
returns-clause-only c = λ kind is. c.kind_of_whole.ensures ∙ token_kind-IsOneToken kind c.args.bytes.now is
