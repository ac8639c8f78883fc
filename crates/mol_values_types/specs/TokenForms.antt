-- The texts in values: names, literals and comments are one token each (JLS 3.7, 3.8, 3.10).
use Rattle.std.specs.Prelude.{ℕ, ◌==◌, Bool, true, false, ◌&&◌, ◌||◌, List, [], ◌∷◌, drop, Option, Some}
use Rattle.std.specs.List.{list_all, slice_split}
use Rattle.mol_base.specs.Lexical.Characters.{is_digit, first}
use Rattle.mol_base.specs.Lexical.Front.{token_kind}
use Rattle.mol_base.specs.declared.token_kind.TokenKind.{TokenKind}
use Rattle.mol_base.specs.declared.token_kind.TokenKind.TheVariants.{Word, Literal, Comment}

abbrev pub is_word_kind : Option TokenKind → Bool
is_word_kind (Some Word) = true
is_word_kind other = false

abbrev pub is_literal_kind : Option TokenKind → Bool
is_literal_kind (Some Literal) = true
is_literal_kind other = false

abbrev pub is_comment_kind : Option TokenKind → Bool
is_comment_kind (Some Comment) = true
is_comment_kind other = false

-- an identifier: one token, no keyword, at most 255 bytes
abbrev pub is_name : List ℕ → Bool
is_name text = is_word_kind (token_kind text)

abbrev pub is_literal : List ℕ → Bool
is_literal text = is_literal_kind (token_kind text)

abbrev pub is_comment : List ℕ → Bool
is_comment text = is_comment_kind (token_kind text)

abbrev pub are_comments : List (List ℕ) → Bool
are_comments texts = list_all is_comment texts

abbrev pub is_empty : {A : Type 0} → List A → Bool
is_empty [] = true
is_empty (x ∷ xs) = false

-- names joined by `.` (46)
abbrev pub is_dotted : List ℕ → Bool
is_dotted text = list_all is_name (slice_split (λ byte. byte == 46) text)

-- a literal that begins with a digit
abbrev pub is_number : List ℕ → Bool
is_number text = is_literal text && is_digit (first text)

-- what a call gives that recorded no argument: a literal, or `-` (45) and a number
abbrev pub is_filler : List ℕ → Bool
is_filler text = is_literal text || (first text == 45 && is_number (drop 1 text))
