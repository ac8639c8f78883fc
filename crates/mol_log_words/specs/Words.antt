-- Single words of a log's trees: which they are, and what they stand for.
use Rattle.std.specs.Prelude.{◌≡◌, ℕ, zero, suc, ◌+◌, ◌-◌, ◌*◌, ◌/◌, ◌%◌, Bool, true, false, ◌&&◌, ◌||◌, ◌==◌, nat_le, nat_lt, List, []}
use Rattle.std.specs.Prelude.{◌∷◌, ◌++◌, Option, Some, None, is_some, if◌then◌else◌}
use Rattle.std.specs.Char.{is_ascii_digit}
use Rattle.std.specs.List.{list_all}
use Rattle.mol_base.specs.Limits.{max_items}
use Rattle.mol_base.specs.Operators.{is_prefix, is_step, is_assignment, binary_level}
use Rattle.mol_values_types.specs.TokenForms.{is_name, is_literal, is_comment, is_dotted, is_empty}
use Rattle.mol_log_words.specs.declared.bounds.Bounds.{Bounds}
use Rattle.mol_log_words.specs.declared.bounds.Bounds.TheVariants as bound
use Rattle.mol_log_words.specs.declared.text_form.TextForm.{TextForm}
use Rattle.mol_log_words.specs.declared.text_form.TextForm.TheVariants as form

-- the bytes of a word
abbrev pub Word : Type 0
Word = List ℕ

-- ---- texts: literals, comments, names and operators (JLS 3.7, 3.8, 3.10, 15)

-- an operator between two operands that is no `instanceof`
abbrev pub is_binary : Word → Bool
is_binary word = is_some (binary_level word)

abbrev pub has_form : TextForm → Word → Bool
has_form form.Literal word = is_literal word
has_form form.Comment word = is_comment word
has_form form.Name word = is_name word
has_form form.Dotted word = is_dotted word
has_form form.Rest word = is_empty word || is_dotted word
has_form form.Unary word = is_prefix word || is_step word
has_form form.Step word = is_step word
has_form form.Binary word = is_binary word
has_form form.Assignment word = is_assignment word

-- ---- counts: decimal digits without a leading zero, however many

abbrev pub all_digits : Word → Bool
all_digits word = list_all is_ascii_digit word

abbrev pub is_count : Word → Bool
is_count [] = false
is_count (b ∷ []) = is_ascii_digit b
is_count (b ∷ c ∷ bs) = nat_le 49 b && nat_le b 57 && all_digits (c ∷ bs)

-- the number that digits spell after others that spell n
abbrev pub value_from : ℕ → Word → ℕ
value_from n [] = n
value_from n (b ∷ bs) = value_from (n * 10 + (b - 48)) bs

-- the number that a word spells
unfoldable pub counts : Word → Option ℕ
counts word = if is_count word then Some (value_from 0 word) else None

-- what is there, where it passes the test
abbrev pub kept : {A : Type 0} → (A → Bool) → Option A → Option A
kept test (Some a) = if test a then Some a else None
kept test None = None

-- which counts are allowed
abbrev pub within : Bounds → ℕ → Bool
within bound.Few n = nat_le n max_items
within bound.Sizes n = nat_lt 0 n && nat_le n max_items
within bound.Positive n = nat_lt 0 n
within bound.Any n = true

-- the word counts n, which is within the bounds
abbrev pub IsCount : Bounds → Word → ℕ → Type 0
IsCount bounds word n = (counts word ≡ Some n) × (within bounds n ≡ true)

-- within the bounds, and more than 0 only if there is room for what is counted
abbrev pub count_fits : Bounds → Bool → ℕ → Bool
count_fits bounds deeper n = within bounds n && (n == 0 || deeper)

abbrev pub count_of : Bounds → Bool → Word → Option ℕ
count_of bounds deeper word = kept (count_fits bounds deeper) (counts word)

-- pairs of empty brackets after so many sizes: at most 255 dimensions together (JVMS 4.11)
abbrev pub pairs_fit : ℕ → ℕ → Bool
pairs_fit sizes n = nat_le (sizes + n) max_items

abbrev pub pairs_of : ℕ → Word → Option ℕ
pairs_of sizes word = kept (pairs_fit sizes) (counts word)

-- ---- the word of a number

-- the last `fuel` digits of n, without leading zeros
abbrev pub digits_of : ℕ → ℕ → Word
digits_of zero n = []
digits_of (suc fuel) n = if nat_lt n 10 then (48 + n) ∷ [] else digits_of fuel (n / 10) ++ (48 + n % 10) ∷ []

-- a number in decimal
unfoldable pub numeral : ℕ → Word
numeral n = digits_of (n + 1) n
