-- Texts that are one token, and texts that are none.
use Rattle.std.specs.Prelude.{◌≡◌, ◌<◌, ◌==◌, ℕ, zero, suc, All, slice_index, Bool, true, false, ◌&&◌, ◌||◌}
use Rattle.std.specs.Prelude.{drop, List, [], ◌∷◌, codes, Some}
use Rattle.std.proofs.Common.{refl, ap, arith}
use Rattle.std.proofs.lemmas.List.Elements.{All-nil, All-cons}
use Rattle.std.proofs.lemmas.Str.{IsUtf8-from_ascii}
use Rattle.std.proofs.lemmas.Str.Ascii.{IsAscii-from_all}
use Rattle.std.specs.Str.{chars, is_utf8}
use Rattle.mol_base.proofs.OneToken.{token_kind-IsOneToken}
use Rattle.mol_base.specs.Lexical.Characters.{first, first_char}
use Rattle.mol_base.specs.Lexical.Comments.{line_comment}
use Rattle.mol_base.specs.Lexical.Front.{front, is_clean, token_kind}
use Rattle.mol_base.specs.Lexical.Names.{keywords, starts_name}
use Rattle.mol_base.specs.Lexical.Numbers.{is_digits, is_float, is_integer, number}
use Rattle.mol_base.specs.Lexical.Symbols.{symbol}
use Rattle.mol_base.specs.Lexical.Tokens.{IsToken}
use Rattle.mol_base.specs.declared.token_kind.TokenKind.{TokenKind}
use Rattle.mol_base.specs.declared.token_kind.TokenKind.TheVariants.{Keyword}
use Rattle.mol_values_types.specs.TokenForms.{is_comment, is_dotted, is_filler, is_literal, is_name, is_number, is_word_kind}

a_literal : is_literal (codes "2") ≡ true
unfolding token_kind is_clean front number is_float is_integer is_digits is_utf8 chars lib.Utf8.encode
a_literal = refl

-- ---- the empty text is no token

pub no_name : is_name [] ≡ false
unfolding token_kind is_clean front symbol starts_name first_char is_utf8 chars lib.Utf8.encode
no_name = refl

pub no_literal : is_literal [] ≡ false
unfolding token_kind is_clean front symbol starts_name first_char is_utf8 chars lib.Utf8.encode
no_literal = refl

pub no_comment : is_comment [] ≡ false
unfolding token_kind is_clean front symbol starts_name first_char is_utf8 chars lib.Utf8.encode
no_comment = refl

pub no_dotted : is_dotted [] ≡ false
no_dotted = ap (λ b. b && true) no_name

pub no_filler : is_filler [] ≡ false
no_filler = ap (λ b. b || ((first [] == 45) && is_number (drop 1 []))) no_literal

-- ---- a keyword is no name

-- bytes below 128 with no backslash among them are UTF-8 and have no Unicode escape
ascii-token : (kind : TokenKind) (bytes : List ℕ) → All (λ b. b < 128) bytes → ((place : ℕ) → slice_index bytes place ≡ 92 → ⊥)
    → IsToken kind bytes → token_kind bytes ≡ Some kind
ascii-token kind bytes ascii clean token =
    token_kind-IsOneToken kind bytes (record {
      utf8 = IsUtf8-from_ascii bytes (IsAscii-from_all bytes ascii);
      escapes = λ place escape. clean place escape.backslash;
      token = token;
    })

below : (b : ℕ) (bs : List ℕ) → b < 128 → All (λ b. b < 128) bs → All (λ b. b < 128) (b ∷ bs)
below b bs less later = All-cons (λ b. b < 128) b bs less later

none-below : All (λ b. b < 128) []
none-below = All-nil (λ b. b < 128)

do-clean : (place : ℕ) → slice_index (codes "do") place ≡ 92 → ⊥
do-clean zero e = let is : 100 ≡ 92 = e in absurd (omega (arith, is))
do-clean (suc zero) e = let is : 111 ≡ 92 = e in absurd (omega (arith, is))
do-clean (suc (suc place)) e = let is : 0 ≡ 92 = e in absurd (omega (arith, is))

keyword_as_name : is_name (codes "do") ≡ false
unfolding keywords
keyword_as_name =
    ap is_word_kind
    (ascii-token Keyword (codes "do") (below 100 (111 ∷ []) (omega arith) (below 111 [] (omega arith) none-below)) do-clean
    (12, omega arith, refl))

-- ---- comments, and fillers

pub a_comment : is_comment (codes "//a") ≡ true
unfolding token_kind is_clean front line_comment is_utf8 chars lib.Utf8.encode
a_comment = refl

number_as_comment : is_comment (codes "1") ≡ false
unfolding token_kind is_clean front number is_float is_integer is_digits is_utf8 chars lib.Utf8.encode
number_as_comment = refl

literal_as_filler : is_filler (codes "2") ≡ true
literal_as_filler = ap (λ b. b || ((first (codes "2") == 45) && is_number (drop 1 (codes "2")))) a_literal

negative_filler : is_filler (codes "-2") ≡ true
negative_filler = second (is_literal (codes "-2")) _ (ap (λ b. b && true) a_literal) where
  second : (a b : Bool) → b ≡ true → (a || b) ≡ true
  second true b is = refl
  second false b is = is
