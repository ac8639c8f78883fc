-- What the grammar knows of a token: one of a few sorts.
use Rattle.std.specs.Prelude.{ℕ, List, [], ◌∷◌, if◌then◌else◌, Bool, map}
use Rattle.std.specs.Str.{bytes_eq}
use denote.Enum.Bare.{sameb}
use Rattle.mol_base.specs.Token.{Token}
use Rattle.mol_base.specs.declared.token_kind.TokenKind.{TokenKind}
use Rattle.mol_base.specs.declared.token_kind.TokenKind.TheVariants as kind
use Rattle.jav_parse_cursor.specs.contracts.sort.Sort.{the_type}
use Rattle.jav_parse_cursor.specs.declared.sort.Sort.{Sort}
use Rattle.jav_parse_cursor.specs.declared.sort.Sort.TheVariants.{Name, Literal, Comment, Other}
use Rattle.jav_parse_cursor.specs.declared.sort.TheConstants.{SYMBOLS, KEYWORDS}

-- whether two sorts are the same
unfoldable pub same_sort : Sort → Sort → Bool
same_sort = sameb the_type

-- the sort of the first row with this text
abbrev pub looked_up : List (List ℕ × Sort) → List ℕ → Sort
looked_up [] text = Other
looked_up (row ∷ rest) text = if bytes_eq row.0 text then row.1 else looked_up rest text

-- the rows of the tables
abbrev pub symbols : List (List ℕ × Sort)
symbols = map (λ row. (row.0.now, row.1)) SYMBOLS

abbrev pub keywords : List (List ℕ × Sort)
keywords = map (λ row. (row.0.now, row.1)) KEYWORDS

abbrev pub by_kind : TokenKind → List ℕ → Sort
by_kind kind.Word text = Name
by_kind kind.Literal text = Literal
by_kind kind.Comment text = Comment
by_kind kind.Symbol text = looked_up symbols text
by_kind kind.Keyword text = looked_up keywords text

unfoldable pub sort_of : Token → Sort
sort_of t = by_kind t.kind t.text
