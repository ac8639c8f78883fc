-- Separators and operators (JLS 3.11, 3.12).
use Rattle.std.specs.Prelude.{ℕ, Bool, ◌||◌, ◌&&◌, ◌==◌, List, slice_index, if◌then◌else◌, codes}
use Rattle.std.specs.List.{list_any}
use Rattle.mol_base.specs.Lexical.Characters.{first, second, third}
use Rattle.mol_base.specs.declared.token_kind.TokenKind.TheVariants.{Symbol}
use Rattle.mol_base.specs.declared.lexical.front.Front.{Front}
use Rattle.mol_base.specs.declared.lexical.front.Front.TheVariants.{Taken, Wrong}
use Rattle.mol_base.specs.declared.lexical.front.Flaw.TheVariants.{BadChar}

-- symbols of one byte
abbrev pub is_symbol_1 : ℕ → Bool
is_symbol_1 a = list_any (λ s. s == a) (codes "(){}[];,.@=><!~?:+-*/&|^%")

-- operators that `=` may follow; signs that come twice
abbrev pub takes_equals : ℕ → Bool
takes_equals a = list_any (λ s. s == a) (codes "=><!+-*/&|^%")

abbrev pub comes_twice : ℕ → Bool
comes_twice a = list_any (λ s. s == a) (codes ":&|+-<>")

-- of two: `=` after an operator; a sign twice; `->`
abbrev pub is_symbol_2 : ℕ → ℕ → Bool
is_symbol_2 a b = (b == 61 && takes_equals a)
    || (a == b && comes_twice a)
    || (a == 45 && b == 62)

-- of three: `...`, `>>>`, `<<=`, `>>=`
abbrev pub is_symbol_3 : ℕ → ℕ → ℕ → Bool
is_symbol_3 a b c = a == b && ((a == 46 && c == 46) || (a == 62 && c == 62) || (a == 60 && c == 61) || (a == 62 && c == 61))

-- of four: `>>>=`
abbrev pub is_symbol_4 : ℕ → ℕ → ℕ → ℕ → Bool
is_symbol_4 a b c d = a == 62 && b == 62 && c == 62 && d == 61

-- the longest symbol at the front
unfoldable pub symbol : List ℕ → Front
symbol bytes = if is_symbol_4 (first bytes) (second bytes) (third bytes) (slice_index bytes 3) then Taken Symbol 4
    else (if is_symbol_3 (first bytes) (second bytes) (third bytes) then Taken Symbol 3
    else (if is_symbol_2 (first bytes) (second bytes) then Taken Symbol 2
    else (if is_symbol_1 (first bytes) then Taken Symbol 1 else Wrong BadChar 0)))
