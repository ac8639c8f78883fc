-- Which texts are one token of a sort (JLS 3.5), and which are names joined by dots (JLS 6.2).
use Rattle.std.specs.Prelude.{ℕ, List, Bool, true, false, Option, Some, ◌==◌}
use Rattle.std.specs.List.{list_all, slice_split}
use Rattle.mol_base.specs.Lexical.Front.{token_kind}
use Rattle.mol_base.specs.declared.token_kind.TokenKind.{TokenKind}
use Rattle.mol_base.specs.declared.token_kind.TokenKind.TheVariants as kind

abbrev pub is_word_kind : Option TokenKind → Bool
is_word_kind (Some kind.Word) = true
is_word_kind _ = false

abbrev pub is_literal_kind : Option TokenKind → Bool
is_literal_kind (Some kind.Literal) = true
is_literal_kind _ = false

abbrev pub is_comment_kind : Option TokenKind → Bool
is_comment_kind (Some kind.Comment) = true
is_comment_kind _ = false

-- an identifier
abbrev pub is_name : List ℕ → Bool
is_name text = is_word_kind (token_kind text)

abbrev pub is_literal : List ℕ → Bool
is_literal text = is_literal_kind (token_kind text)

abbrev pub are_comments : List (List ℕ) → Bool
are_comments texts = list_all (λ text. is_comment_kind (token_kind text)) texts

-- identifiers joined by dots, at least one, without spaces
abbrev pub is_dotted_name : List ℕ → Bool
is_dotted_name text = list_all is_name (slice_split (λ c. c == 46) text)
