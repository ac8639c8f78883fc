-- Worked examples of lines, columns and Unicode escapes, by computation.
use Rattle.std.proofs.Common.{◌≡◌, [], ◌∷◌, refl, arith}
use Rattle.std.specs.Prelude.{codes}
use Rattle.mol_base.specs.Lines.{line, column}
use Rattle.mol_base.specs.Lexical.Escapes.{IsEscapeAt}

-- CR LF is one line end, and its LF stands on the old line, after the CR
line_of_lf : line (codes "a\r\nb") 2 ≡ 1
unfolding line
line_of_lf = refl

column_of_lf : column (codes "a\r\nb") 2 ≡ 3
unfolding column line
column_of_lf = refl

line_after_cr_lf : line (codes "a\r\nb") 3 ≡ 2
unfolding line
line_after_cr_lf = refl

column_after_cr_lf : column (codes "a\r\nb") 3 ≡ 1
unfolding column line
column_after_cr_lf = refl

-- CR alone ends a line, also at the end
line_at_the_end : line (codes "\n\r\n\r") 4 ≡ 4
unfolding line
line_at_the_end = refl

-- after a line end, a character of two bytes and one of three
column_of_characters : column (97 ∷ 10 ∷ 195 ∷ 169 ∷ 226 ∷ 130 ∷ 172 ∷ 98 ∷ []) 7 ≡ 3
unfolding column line
column_of_characters = refl

-- a backslash before `u`, after none, one and two others
escape_alone : IsEscapeAt (codes "\\u") 0
escape_alone = record { backslash = refl; unescaped = refl; followed = refl }

no_escape_after_one : IsEscapeAt (codes "\\\\u") 1 → ⊥
no_escape_after_one is = absurd (omega (arith, is.unescaped))

escape_after_two : IsEscapeAt (codes "\\\\\\u") 2
escape_after_two = record { backslash = refl; unescaped = refl; followed = refl }
