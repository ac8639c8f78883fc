-- Numbers (JLS 3.10.1, 3.10.2).
use Rattle.std.specs.Prelude.{ℕ, ◌+◌, ◌-◌, Bool, ◌||◌, ◌&&◌, ◌==◌, not, List, [], ◌∷◌, take, drop, length, slice_index, if◌then◌else◌}
use Rattle.std.specs.Int.{is_in_range}
use Rattle.std.specs.List.{list_any, list_all}
use Rattle.mol_base.specs.Lexical.Characters.{is_digit, first, second}
use Rattle.mol_base.specs.declared.token_kind.TokenKind.TheVariants.{Literal}
use Rattle.mol_base.specs.declared.lexical.numbers.Radix.{Radix}
use Rattle.mol_base.specs.declared.lexical.numbers.Radix.TheVariants.{Binary, Octal, Decimal, Hexadecimal}
use Rattle.mol_base.specs.declared.lexical.front.Front.{Front}
use Rattle.mol_base.specs.declared.lexical.front.Front.TheVariants.{Taken, Wrong}
use Rattle.mol_base.specs.declared.lexical.front.Flaw.TheVariants.{FloatLiteral, BadNumber}

-- an ASCII letter, a digit or `_`
abbrev pub is_run_byte : ℕ → Bool
is_run_byte b = is_digit b || is_in_range 65 90 b || is_in_range 97 122 b || b == 95

-- how many bytes the run of these at the front has
abbrev pub run_len : List ℕ → ℕ
run_len [] = 0
run_len (b ∷ bs) = if is_run_byte b then 1 + run_len bs else 0

abbrev pub is_octal : ℕ → Bool
is_octal b = is_in_range 48 55 b

-- `0x` or `0X`; `0b` or `0B`
abbrev pub begins_hexadecimal : List ℕ → Bool
begins_hexadecimal run = first run == 48 && (second run == 120 || second run == 88)

abbrev pub begins_binary : List ℕ → Bool
begins_binary run = first run == 48 && (second run == 98 || second run == 66)

-- e E f F d D; p P
abbrev pub is_float_letter : ℕ → Bool
is_float_letter b = b == 101 || b == 69 || b == 102 || b == 70 || b == 100 || b == 68

abbrev pub is_exponent_letter : ℕ → Bool
is_exponent_letter b = b == 112 || b == 80

abbrev pub is_digit_of : Radix → ℕ → Bool
is_digit_of Binary b = is_in_range 48 49 b
is_digit_of Octal b = is_octal b
is_digit_of Decimal b = is_digit b
is_digit_of Hexadecimal b = is_digit b || is_in_range 65 70 b || is_in_range 97 102 b

abbrev pub has_float_letter : List ℕ → Bool
has_float_letter run = list_any is_float_letter run

abbrev pub has_exponent_letter : List ℕ → Bool
has_exponent_letter run = list_any is_exponent_letter run

-- a run with a sign of a floating-point literal in it
unfoldable pub is_float : List ℕ → Bool
is_float run = if begins_hexadecimal run then has_exponent_letter run else (not (begins_binary run) && has_float_letter run)

-- at least one digit, and underscores between digits only
abbrev pub may_be_inside : Radix → ℕ → Bool
may_be_inside radix b = is_digit_of radix b || b == 95

abbrev pub all_inside : Radix → List ℕ → Bool
all_inside radix digits = list_all (may_be_inside radix) digits

unfoldable pub is_digits : Radix → List ℕ → Bool
is_digits radix digits = is_digit_of radix (first digits) && is_digit_of radix (slice_index digits (length digits - 1))
    && all_inside radix digits

-- the last byte is `l` or `L`
abbrev pub is_long : List ℕ → Bool
is_long run = slice_index run (length run - 1) == 108 || slice_index run (length run - 1) == 76

-- a run without the last `l` or `L`
abbrev pub without_suffix : List ℕ → List ℕ
without_suffix run = if is_long run then take (length run - 1) run else run

-- an integer without suffix: hexadecimal, binary, octal (with `0` itself), decimal
unfoldable pub is_integer : List ℕ → Bool
is_integer run = if begins_hexadecimal run then is_digits Hexadecimal (drop 2 run)
    else (if begins_binary run then is_digits Binary (drop 2 run)
    else (if first run == 48 then is_digits Octal run else is_digits Decimal run))

-- of bytes that begin with a digit: the whole run is taken
unfoldable pub number : List ℕ → Front
number bytes = let n = run_len bytes in let run = take n bytes in
    if slice_index bytes n == 46 || is_float run then Wrong FloatLiteral 0
    else (if is_integer (without_suffix run) then Taken Literal n else Wrong BadNumber 0)
