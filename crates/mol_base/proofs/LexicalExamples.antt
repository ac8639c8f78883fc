-- Worked examples of the lexical rules, by computation.
use Rattle.std.proofs.Common.{◌≡◌, refl}
use Rattle.std.specs.Prelude.{codes}
use Rattle.std.specs.Str.{is_utf8, chars}
use Rattle.mol_base.specs.Lexical.Characters.{first_char}
use Rattle.mol_base.specs.Lexical.Comments.{line_comment, block_comment}
use Rattle.mol_base.specs.Lexical.Numbers.{number, is_float, is_integer, is_digits}
use Rattle.mol_base.specs.Lexical.Quoted.{quoted, is_one_char, is_one_escape, fits_between}
use Rattle.mol_base.specs.Lexical.Symbols.{symbol}
use Rattle.mol_base.specs.Lexical.Front.{front}
use Rattle.mol_base.specs.declared.token_kind.TokenKind.TheVariants.{Literal, Symbol, Comment}
use Rattle.mol_base.specs.declared.lexical.front.Front.TheVariants.{Taken, Wrong}
use Rattle.mol_base.specs.declared.lexical.front.Flaw.TheVariants.{BadChar, OpenString, OpenComment, BadEscape, FloatLiteral, BadNumber, TextBlock}

float_with_dot : front (codes "1.5") ≡ Wrong FloatLiteral 0
unfolding front number is_float is_integer is_digits
float_with_dot = refl

float_with_exponent : front (codes "1e3") ≡ Wrong FloatLiteral 0
unfolding front number is_float is_integer is_digits
float_with_exponent = refl

float_with_suffix : front (codes "1f") ≡ Wrong FloatLiteral 0
unfolding front number is_float is_integer is_digits
float_with_suffix = refl

float_hexadecimal : front (codes "0x1p3") ≡ Wrong FloatLiteral 0
unfolding front number is_float is_integer is_digits
float_hexadecimal = refl

float_from_dot : front (codes ".5") ≡ Wrong FloatLiteral 0
unfolding front
float_from_dot = refl

underscore_at_the_end : front (codes "1_") ≡ Wrong BadNumber 0
unfolding front number is_float is_integer is_digits
underscore_at_the_end = refl

underscore_after_zero : front (codes "0_") ≡ Wrong BadNumber 0
unfolding front number is_float is_integer is_digits
underscore_after_zero = refl

underscores_inside : front (codes "1__0;") ≡ Taken Literal 4
unfolding front number is_float is_integer is_digits
underscores_inside = refl

octal_after_underscores : front (codes "0__7)") ≡ Taken Literal 4
unfolding front number is_float is_integer is_digits
octal_after_underscores = refl

octal_digit_eight : front (codes "08") ≡ Wrong BadNumber 0
unfolding front number is_float is_integer is_digits
octal_digit_eight = refl

hexadecimal_long : front (codes "0xFf_0L+") ≡ Taken Literal 7
unfolding front number is_float is_integer is_digits
hexadecimal_long = refl

hexadecimal_empty : front (codes "0x") ≡ Wrong BadNumber 0
unfolding front number is_float is_integer is_digits
hexadecimal_empty = refl

binary_digit_two : front (codes "0b2") ≡ Wrong BadNumber 0
unfolding front number is_float is_integer is_digits
binary_digit_two = refl

dollar_after_digits : front (codes "1$a") ≡ Taken Literal 1
unfolding front number is_float is_integer is_digits
dollar_after_digits = refl

shift : front (codes "1>>2") ≡ Taken Literal 1
unfolding front number is_float is_integer is_digits
shift = refl

one_token_of_two_signs : symbol (codes ">>2") ≡ Taken Symbol 2
unfolding symbol
one_token_of_two_signs = refl

four_signs : symbol (codes ">>>=>") ≡ Taken Symbol 4
unfolding symbol
four_signs = refl

three_dots : symbol (codes "....") ≡ Taken Symbol 3
unfolding symbol
three_dots = refl

two_dots : symbol (codes "..5") ≡ Taken Symbol 1
unfolding symbol
two_dots = refl

hash : symbol (codes "#") ≡ Wrong BadChar 0
unfolding symbol
hash = refl

backslash : symbol (codes "\\x") ≡ Wrong BadChar 0
unfolding symbol
backslash = refl

comment : front (codes "/* * **/ */") ≡ Taken Comment 8
unfolding front line_comment block_comment
comment = refl

comment_of_three : front (codes "/*/") ≡ Wrong OpenComment 0
unfolding front line_comment block_comment
comment_of_three = refl

comment_not_nested : front (codes "/*/*/ */") ≡ Taken Comment 5
unfolding front line_comment block_comment
comment_not_nested = refl

comment_of_a_line : front (codes "// a\r\n") ≡ Taken Comment 4
unfolding front line_comment block_comment
comment_of_a_line = refl

string : front (codes "\"a\\\"b\" c") ≡ Taken Literal 6
unfolding front quoted is_one_char is_one_escape fits_between first_char is_utf8 chars
string = refl

string_empty : front (codes "\"\";") ≡ Taken Literal 2
unfolding front quoted is_one_char is_one_escape fits_between first_char is_utf8 chars
string_empty = refl

string_open : front (codes "\"a\n\"") ≡ Wrong OpenString 0
unfolding front quoted is_one_char is_one_escape fits_between first_char is_utf8 chars
string_open = refl

string_bad_escape : front (codes "\"a\\q\"") ≡ Wrong BadEscape 2
unfolding front quoted is_one_char is_one_escape fits_between first_char is_utf8 chars
string_bad_escape = refl

string_bad_escape_open : front (codes "\"\\q") ≡ Wrong OpenString 0
unfolding front quoted is_one_char is_one_escape fits_between first_char is_utf8 chars
string_bad_escape_open = refl

text_block : front (codes "\"\"\"x") ≡ Wrong TextBlock 0
unfolding front quoted is_one_char is_one_escape fits_between first_char is_utf8 chars
text_block = refl

character : front (codes "'\"'") ≡ Taken Literal 3
unfolding front quoted is_one_char is_one_escape fits_between first_char is_utf8 chars
character = refl

character_two : front (codes "'ab'") ≡ Wrong OpenString 0
unfolding front quoted is_one_char is_one_escape fits_between first_char is_utf8 chars
character_two = refl

character_none : front (codes "''") ≡ Wrong OpenString 0
unfolding front quoted is_one_char is_one_escape fits_between first_char is_utf8 chars
character_none = refl

character_octal : front (codes "'\\377'") ≡ Taken Literal 6
unfolding front quoted is_one_char is_one_escape fits_between first_char is_utf8 chars
character_octal = refl

character_octal_too_great : front (codes "'\\477'") ≡ Wrong OpenString 0
unfolding front quoted is_one_char is_one_escape fits_between first_char is_utf8 chars
character_octal_too_great = refl

character_bad_escape : front (codes "'\\qq'") ≡ Wrong BadEscape 1
unfolding front quoted is_one_char is_one_escape fits_between first_char is_utf8 chars
character_bad_escape = refl
