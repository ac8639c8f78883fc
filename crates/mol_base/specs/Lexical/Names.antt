-- Identifiers, keywords, and the literals that are spelled as words (JLS 3.8, 3.9, 3.10.3, 3.10.7).
use Rattle.std.specs.Prelude.{ℕ, zero, suc, ◌+◌, ◌-◌, Bool, false, ◌||◌, ◌&&◌, ◌==◌, nat_lt, List, [], ◌∷◌, take, if◌then◌else◌, codes}
use Rattle.std.specs.Option.{option_map_or}
use Rattle.std.specs.List.{list_any}
use Rattle.std.specs.Str.{bytes_eq}
use Rattle.unicode_ident.specs.Ident.{is_xid_start, is_xid_continue}
use Rattle.mol_base.specs.Limits.{max_name_bytes}
use Rattle.mol_base.specs.Lexical.Characters.{first, width, first_char}
use Rattle.mol_base.specs.declared.token_kind.TokenKind.{TokenKind}
use Rattle.mol_base.specs.declared.token_kind.TokenKind.TheVariants.{Word, Keyword, Literal}
use Rattle.mol_base.specs.declared.lexical.front.Front.{Front}
use Rattle.mol_base.specs.declared.lexical.front.Front.TheVariants.{Taken, Wrong}
use Rattle.mol_base.specs.declared.lexical.front.Flaw.TheVariants.{NameTooLong, BadChar}

-- a character that begins an identifier: one of XID_Start, `_` or `$`
unfoldable pub is_start : ℕ → Bool
is_start c = is_xid_start c || c == 95 || c == 36

-- a character that goes on with one
unfoldable pub is_part : ℕ → Bool
is_part c = is_start c || is_xid_continue c

-- the bytes begin with such a character
unfoldable pub starts_name : List ℕ → Bool
starts_name bytes = option_map_or is_start (first_char bytes) false

unfoldable pub goes_on : List ℕ → Bool
goes_on bytes = option_map_or is_part (first_char bytes) false

-- how many bytes the characters take that go on with an identifier, up to the first that does not.
-- The first `inside` bytes are of a character that goes on with it.
abbrev pub name_len : ℕ → List ℕ → ℕ
name_len inside [] = 0
name_len (suc inside) (b ∷ bs) = 1 + name_len inside bs
name_len zero (b ∷ bs) = if goes_on (b ∷ bs) then 1 + name_len (width b - 1) bs else 0

unfoldable pub keywords : List (List ℕ)
keywords = codes "abstract" ∷ codes "assert" ∷ codes "boolean" ∷ codes "break" ∷ codes "byte" ∷ codes "case" ∷ codes "catch"
    ∷ codes "char" ∷ codes "class" ∷ codes "const" ∷ codes "continue" ∷ codes "default" ∷ codes "do" ∷ codes "double"
    ∷ codes "else" ∷ codes "enum" ∷ codes "extends" ∷ codes "final" ∷ codes "finally" ∷ codes "float" ∷ codes "for"
    ∷ codes "goto" ∷ codes "if" ∷ codes "implements" ∷ codes "import" ∷ codes "instanceof" ∷ codes "int" ∷ codes "interface"
    ∷ codes "long" ∷ codes "native" ∷ codes "new" ∷ codes "package" ∷ codes "private" ∷ codes "protected" ∷ codes "public"
    ∷ codes "return" ∷ codes "short" ∷ codes "static" ∷ codes "strictfp" ∷ codes "super" ∷ codes "switch"
    ∷ codes "synchronized" ∷ codes "this" ∷ codes "throw" ∷ codes "throws" ∷ codes "transient" ∷ codes "try" ∷ codes "void"
    ∷ codes "volatile" ∷ codes "while" ∷ []

unfoldable pub word_literals : List (List ℕ)
word_literals = codes "true" ∷ codes "false" ∷ codes "null" ∷ []

unfoldable pub is_keyword : List ℕ → Bool
is_keyword name = list_any (λ word. bytes_eq word name) keywords

unfoldable pub is_word_literal : List ℕ → Bool
is_word_literal name = list_any (λ word. bytes_eq word name) word_literals

unfoldable pub word_kind : List ℕ → TokenKind
word_kind name = if is_keyword name then Keyword else (if is_word_literal name then Literal else Word)

-- of bytes that begin with a character that begins an identifier: the longest run of its characters.
-- More bytes than the limit are too many, and `_` alone is no identifier.
unfoldable pub name : List ℕ → Front
name bytes = let n = name_len 0 bytes in
    if nat_lt max_name_bytes n then Wrong NameTooLong 0
    else (if n == 1 && first bytes == 95 then Wrong BadChar 0 else Taken (word_kind (take n bytes)) n)
