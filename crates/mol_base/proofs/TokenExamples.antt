-- Worked examples of what one token is: by the definitions by cases alone, and of what is none by the law.
use Rattle.std.proofs.Common.{◌≡◌, ◌++◌, ℕ, false, List, [], ◌∷◌, length, get_or, drop, refl, sym, ap, inr, arith, subst, lit<, lit≤, length-append}
use Rattle.std.specs.Prelude.{codes}
use Rattle.std.proofs.lemmas.List.Elements.{All-from_recursion, All-head}
use Rattle.std.specs.Prelude.{All, IsFalse, IsTrue, ◌⊎◌}
use Rattle.std.specs.Str.{IsUtf8, chars, is_utf8}
use Rattle.std.proofs.lemmas.Str.{IsUtf8-from_ascii, chars-IsAscii}
use Rattle.std.proofs.lemmas.Str.Ascii.{IsAscii-cons, IsAscii-nil}
use Rattle.mol_base.specs.Lexical.Characters.{is_line_end, first_char}
use Rattle.mol_base.specs.Lexical.Numbers.{is_digit_of, number as number_front, is_float, is_integer, is_digits}
use Rattle.mol_base.specs.Lexical.Quoted.{quoted, is_one_char, is_one_escape, fits_between}
use Rattle.mol_base.specs.Lexical.Front.{front}
use Rattle.mol_base.specs.declared.token_kind.TokenKind.{TokenKind}
use Rattle.mol_base.specs.declared.lexical.front.Front.TheVariants.{Wrong}
use Rattle.mol_base.specs.declared.lexical.front.Flaw.{Flaw}
use Rattle.mol_base.specs.declared.lexical.front.Flaw.TheVariants.{OpenString, BadEscape, FloatLiteral, BadNumber, TextBlock}
use Rattle.mol_base.proofs.Whole.{IsWhole-token}
use Rattle.mol_base.specs.Lexical.Forms.Comment.{line, block}
use Rattle.mol_base.specs.Lexical.Forms.Number.{single, several, decimal, octal, plain, long}
use Rattle.mol_base.specs.Lexical.Forms.Quoted.{IsPiece, byte, escape, letter, octal_3, character as one_character, ill_formed}
use Rattle.mol_base.specs.Lexical.Tokens.{IsToken, symbols, number, string, character}
use Rattle.mol_base.specs.declared.lexical.numbers.Radix.TheVariants.{Decimal}
use Rattle.mol_base.specs.declared.token_kind.TokenKind.TheVariants.{Comment, Symbol, Literal}

comment_of_a_line : IsToken Comment (codes "// a")
comment_of_a_line = line (record { text = codes " a"; spelled = refl; within_line = All-from_recursion (λ b. IsFalse (is_line_end b)) (codes " a") (refl, (refl, tt)) })

-- the line's end is no part of it
comment_with_its_line_end : IsToken Comment (codes "//\n") → ⊥
comment_with_its_line_end (line c) =
    let text : codes "\n" ≡ c.text = ap (λ (xs : List ℕ). drop 2 xs) c.spelled in
    let P : List ℕ → Type 0 = λ xs. All (λ b. IsFalse (is_line_end b)) xs in
    let within : is_line_end 10 ≡ false = All-head (λ b. IsFalse (is_line_end b)) 10 [] (subst P (sym text) c.within_line) in
    absurd cc
comment_with_its_line_end (block c) = let second = ap (λ (xs : List ℕ). get_or xs 1 0) c.spelled in absurd (omega arith)

comment_of_three : IsToken Comment (codes "/*/") → ⊥
comment_of_three (line c) = let second = ap (λ (xs : List ℕ). get_or xs 1 0) c.spelled in absurd (omega arith)
comment_of_three (block c) = let len = ap (λ (xs : List ℕ). length xs) c.spelled in absurd (omega (arith, length-append c.body (codes "*/")))

-- comments do not nest, and end at the first `*/`
comment_with_two_ends : IsToken Comment (codes "/* */ */") → ⊥
comment_with_two_ends (line c) = let second = ap (λ (xs : List ℕ). get_or xs 1 0) c.spelled in absurd (omega arith)
comment_with_two_ends (block c) =
    let rest : codes " */ */" ≡ c.body ++ codes "*/" = ap (λ (xs : List ℕ). drop 2 xs) c.spelled in
    let after = c.first_end (codes " ") (codes " */") (sym rest) in
    absurd cc

four_signs : IsToken Symbol (codes ">>>=")
unfolding symbols
four_signs = (49, lit< tt, refl)

underscores_inside : IsToken Literal (codes "1__0")
underscores_inside = number (plain (decimal 49 (codes "__0") refl refl
    (several 49 (codes "__") 48 refl refl refl (All-from_recursion (λ b. IsTrue (is_digit_of Decimal b) ⊎ (b ≡ 95)) (codes "__") (inr refl, (inr refl, tt))))))

octal_after_underscores : IsToken Literal (codes "0__7L")
octal_after_underscores = number (long (codes "0__7") (octal 2 (codes "7") refl (single 55 refl refl)) (inr refl))

string_of_escapes : IsToken Literal (codes "\"a\\\"\\377\"")
string_of_escapes = string (record {
  pieces = codes "a" ∷ codes "\\\"" ∷ codes "\\377" ∷ [];
  spelled = refl;
  each = All-from_recursion IsPiece (codes "a" ∷ codes "\\\"" ∷ codes "\\377" ∷ [])
      (byte 97 refl refl, (escape (letter 34 refl (5, lit< tt, refl)), (escape (octal_3 51 55 55 refl refl refl refl), tt)));
})

quote_text : IsUtf8 (34 ∷ []) × (chars (34 ∷ []) ≡ 34 ∷ [])
quote_text = let is = IsAscii-cons 34 [] (lit< tt) IsAscii-nil in (IsUtf8-from_ascii (34 ∷ []) is, chars-IsAscii (34 ∷ []) is)

-- a quote of the other sort is a character, and so is a byte of no well-formed text
character_of_a_quote : IsToken Literal (codes "'\"'")
character_of_a_quote = character (record { body = codes "\""; spelled = refl; form = one_character 34 (quote_text.0) (quote_text.1) (lit≤ tt) refl })

character_of_a_bad_byte : IsToken Literal (39 ∷ 255 ∷ 39 ∷ [])
character_of_a_bad_byte = character (record { body = 255 ∷ []; spelled = refl; form = ill_formed 255 refl (lit≤ tt) })

-- what is no token of any kind
no_token : (bytes : List ℕ) (flaw : Flaw) (at : ℕ) → front bytes ≡ Wrong flaw at → (kind : TokenKind) → IsToken kind bytes → ⊥
no_token bytes flaw at wrong kind is = let taken = IsWhole-token kind bytes is in absurd cc

underscore_at_the_end : (kind : TokenKind) → IsToken kind (codes "1_") → ⊥
unfolding front number_front is_float is_integer is_digits
underscore_at_the_end = no_token (codes "1_") BadNumber 0 refl

underscore_after_radix : (kind : TokenKind) → IsToken kind (codes "0x_1") → ⊥
unfolding front number_front is_float is_integer is_digits
underscore_after_radix = no_token (codes "0x_1") BadNumber 0 refl

octal_digit_eight : (kind : TokenKind) → IsToken kind (codes "08") → ⊥
unfolding front number_front is_float is_integer is_digits
octal_digit_eight = no_token (codes "08") BadNumber 0 refl

exponent : (kind : TokenKind) → IsToken kind (codes "1e3") → ⊥
unfolding front number_front is_float is_integer is_digits
exponent = no_token (codes "1e3") FloatLiteral 0 refl

string_over_two_lines : (kind : TokenKind) → IsToken kind (codes "\"a\n\"") → ⊥
unfolding front quoted
string_over_two_lines = no_token (codes "\"a\n\"") OpenString 0 refl

string_with_a_bad_escape : (kind : TokenKind) → IsToken kind (codes "\"\\q\"") → ⊥
unfolding front quoted
string_with_a_bad_escape = no_token (codes "\"\\q\"") BadEscape 1 refl

character_octal_too_great : (kind : TokenKind) → IsToken kind (codes "'\\477'") → ⊥
unfolding front quoted is_one_char is_one_escape fits_between first_char is_utf8 chars
character_octal_too_great = no_token (codes "'\\477'") OpenString 0 refl

three_quotes : (kind : TokenKind) → IsToken kind (codes "\"\"\"") → ⊥
unfolding front
three_quotes = no_token (codes "\"\"\"") TextBlock 0 refl
