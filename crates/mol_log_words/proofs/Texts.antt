-- For each form of a text there is a word of that form.
use Rattle.std.proofs.Common.{◌≡◌, ◌&&◌, true, [], ◌∷◌, codes, refl, ap, arith, lit<}
use Rattle.std.specs.Prelude.{IsFalse}
use Rattle.std.proofs.lemmas.List.Elements.{All-nil}
use Rattle.std.proofs.lemmas.Str.{IsUtf8-from_ascii}
use Rattle.std.proofs.lemmas.Str.Ascii.{IsAscii-cons, IsAscii-nil}
use Rattle.mol_base.specs.Lexical.Characters.{is_line_end}
use Rattle.mol_base.specs.Lexical.Forms.Comment.{line}
use Rattle.mol_base.specs.Lexical.Forms.Number.{plain, zero}
use Rattle.mol_base.specs.Lexical.Names.{keywords, word_literals}
use Rattle.mol_base.specs.Lexical.Tokens.{IsOneToken, number}
use Rattle.mol_base.specs.declared.token_kind.TokenKind.TheVariants as kind
use Rattle.mol_base.proofs.Escaping.{HasNoEscape-from_scan}
use Rattle.mol_base.proofs.OneToken.{token_kind-IsOneToken}
use Rattle.mol_values_types.proofs.AsciiNames.{ascii-name}
use Rattle.mol_values_types.specs.TokenForms.{is_literal_kind, is_comment_kind, is_literal, is_comment, is_name, is_dotted}

zero_token : IsOneToken kind.Literal (codes "0")
zero_token = record {
  utf8 = IsUtf8-from_ascii (codes "0") (IsAscii-cons 48 [] (lit< tt) IsAscii-nil);
  escapes = HasNoEscape-from_scan (codes "0") refl;
  token = number (plain (zero refl));
}

line_token : IsOneToken kind.Comment (codes "//")
line_token = record {
  utf8 = IsUtf8-from_ascii (codes "//") (IsAscii-cons 47 (47 ∷ []) (lit< tt) (IsAscii-cons 47 [] (lit< tt) IsAscii-nil));
  escapes = HasNoEscape-from_scan (codes "//") refl;
  token = line (record { text = []; spelled = refl; within_line = All-nil (λ b. IsFalse (is_line_end b)) });
}

pub a_literal : is_literal (codes "0") ≡ true
a_literal = ap is_literal_kind (token_kind-IsOneToken kind.Literal (codes "0") zero_token)

pub a_comment : is_comment (codes "//") ≡ true
a_comment = ap is_comment_kind (token_kind-IsOneToken kind.Comment (codes "//") line_token)

pub a_name : is_name (codes "a") ≡ true
unfolding keywords word_literals
a_name = ascii-name 97 [] refl refl (omega arith) refl

pub a_dotted : is_dotted (codes "a") ≡ true
a_dotted = ap (λ b. b && true) a_name
