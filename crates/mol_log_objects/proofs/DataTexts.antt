-- The compact texts of what the lines of a log say: they have no line end in them, and can be written and read.
use Rattle.std.proofs.Common.{◌≡◌, ℕ, zero, suc, ◌<◌, ◌≤◌, List, [], ◌∷◌, ◌++◌, Bool, true, false, Option, None, Some, refl, ap, ◌∙◌}
use Rattle.std.proofs.Common.{arith, codes, lit<}
use Rattle.std.specs.Prelude.{◌&&◌, ◌||◌, ◌==◌, not, nat_lt}
use Rattle.std.specs.List.{list_all}
use Rattle.std.proofs.lemmas.Bool.Decides.{nat_tests}
use Rattle.std.proofs.lemmas.Fmt.{decimal_digit}
use Rattle.json.specs.Print.{escape_byte, escape, quoted}
use Rattle.json.proofs.Printed.Strings.{escape_byte_plain}
use Rattle.serde_json.specs.Data.{Data, null, string, number, unsigned, array, depth, items_depth, members_depth}
use Rattle.serde_json.specs.Written.{compact_text, items_text, members_text, comma_if, has_float, items_have_float, members_have_float}
use Rattle.mol_base.proofs.Tags.{both_true}
use Rattle.mol_log_rows.specs.lines.Objects.{Pair, members, object_of, items, text_items, texts_data, maybe_texts}

-- ---- bytes that end no line

abbrev pub is_inner : ℕ → Bool
is_inner byte = not (byte == 10)

-- no line end stands in the text
abbrev pub is_line : List ℕ → Bool
is_line text = list_all is_inner text

and-of : (a b : Bool) → a ≡ true → b ≡ true → (a && b) ≡ true
and-of a b x y = ap (λ c. c && b) x ∙ y

pub line-append : (a b : List ℕ) → is_line a ≡ true → is_line b ≡ true → is_line (a ++ b) ≡ true
line-append [] b x y = y
line-append (byte ∷ a) b x y = let parts = both_true (is_inner byte) (is_line a) x in and-of _ _ parts.0 (line-append a b parts.1 y)

-- a test of all numbers below one
abbrev all_below : (ℕ → Bool) → ℕ → Bool
all_below test zero = true
all_below test (suc n) = test n && all_below test n

below : (test : ℕ → Bool) (n : ℕ) → all_below test n ≡ true → (x : ℕ) → x < n → test x ≡ true
below test zero all x low = absurd (omega (arith, low))
below test (suc n) all x low =
    let parts = both_true (test n) (all_below test n) all in by parts.0 (below test n parts.1 x) (x == n) refl where
      by : test n ≡ true → (x < n → test x ≡ true) → (same : Bool) → (x == n) ≡ same → test x ≡ true
      by is less true at = let same : x ≡ n = grind (arith, nat_tests, at) in ap test same ∙ is
      by is less false at = less (grind (arith, nat_tests, at, low))

controls : all_below (λ x. is_line (escape_byte x)) 32 ≡ true
unfolding escape_byte
controls = refl

line-quote : is_line (escape_byte 34) ≡ true
unfolding escape_byte
line-quote = refl

line-backslash : is_line (escape_byte 92) ≡ true
unfolding escape_byte
line-backslash = refl

line-byte : (x : ℕ) → is_line (escape_byte x) ≡ true
line-byte x = by (nat_lt x 32) refl (x == 34) refl (x == 92) refl where
  by : (low : Bool) → nat_lt x 32 ≡ low → (q : Bool) → (x == 34) ≡ q → (b : Bool) → (x == 92) ≡ b → is_line (escape_byte x) ≡ true
  by true is q at-quote b at-backslash = below (λ x. is_line (escape_byte x)) 32 controls x (grind (arith, nat_tests, is))
  by false is true at-quote b at-backslash =
      let same : x ≡ 34 = grind (arith, nat_tests, at-quote) in ap (λ y. is_line (escape_byte y)) same ∙ line-quote
  by false is false at-quote true at-backslash =
      let same : x ≡ 92 = grind (arith, nat_tests, at-backslash) in ap (λ y. is_line (escape_byte y)) same ∙ line-backslash
  by false is false at-quote false at-backslash =
      let high : 32 ≤ x = grind (arith, nat_tests, is) in
      let other : x ≡ 34 → ⊥ = λ e. absurd (grind (arith, nat_tests, at-quote, e)) in
      let another : x ≡ 92 → ⊥ = λ e. absurd (grind (arith, nat_tests, at-backslash, e)) in
      let inner : is_inner x ≡ true = grind (arith, nat_tests, high) in
      ap is_line (escape_byte_plain x other another high) ∙ and-of _ _ inner refl

line-escape : (s : List ℕ) → is_line (escape s) ≡ true
line-escape [] = refl
line-escape (x ∷ s) = line-append (escape_byte x) (escape s) (line-byte x) (line-escape s)

line-quoted : (s : List ℕ) → is_line (quoted s) ≡ true
line-quoted s = line-append (escape s) (34 ∷ []) (line-escape s) refl

-- ---- data that is written as a line

-- no deeper than d, without a float, and with no line end in its text
pub record IsLineData (d : ℕ) («data» : Data) : Type 0 where
  pub whole : has_float «data» ≡ false
  pub deep : depth «data» ≤ d
  pub line : is_line (compact_text «data») ≡ true

pub string-line : (d : ℕ) (s : List ℕ) → IsLineData d (string s)
string-line d s = record { whole = refl; deep = omega arith; line = line-quoted s }

pub null-line : (d : ℕ) → IsLineData d null
null-line d = record { whole = refl; deep = omega arith; line = refl }

pub format-line : (d : ℕ) → IsLineData d (number (unsigned 1))
format-line d = record { whole = refl; deep = omega arith; line = ap is_line (decimal_digit 1 (lit< tt)) }

either-false : {a b : Bool} → a ≡ false → b ≡ false → (a || b) ≡ false
either-false {b = b} x y = ap (λ c. c || b) x ∙ y

comma-line : (later : Bool) → is_line (comma_if later) ≡ true
comma-line true = refl
comma-line false = refl

-- ---- lists

abbrev pub AreLines : ℕ → List Data → Type 0
AreLines d [] = Unit {0}
AreLines d («data» ∷ more) = IsLineData d «data» × AreLines d more

items-line : (d : ℕ) (all : List Data) (later : Bool) → AreLines d all
    → (items_have_float (items all) ≡ false) × (items_depth (items all) ≤ d) × (is_line (items_text later (items all)) ≡ true)
items-line d [] later are = (refl, omega arith, refl)
items-line d («data» ∷ all) later are =
    let rest = items-line d all true are.1 in (
      either-false are.0.whole rest.0,
      omega (arith, are.0.deep, rest.1),
      line-append (comma_if later) _ (comma-line later) (line-append (compact_text «data») _ are.0.line rest.2),
    )

pub array-line : (d : ℕ) (all : List Data) → AreLines d all → IsLineData (suc d) (array (items all))
array-line d all are = let list = items-line d all false are in record { whole = list.0; deep = omega (arith, list.1); line = list.2 }

texts-line' : (texts : List (List ℕ)) (later : Bool)
    → (items_have_float (text_items texts) ≡ false) × (items_depth (text_items texts) ≤ 0)
    × (is_line (items_text later (text_items texts)) ≡ true)
texts-line' [] later = (refl, omega arith, refl)
texts-line' (text ∷ texts) later =
    let rest = texts-line' texts true in (
      rest.0,
      omega (arith, rest.1),
      line-append (comma_if later) _ (comma-line later) (line-append (quoted text) _ (line-quoted text) rest.2),
    )

pub texts-line : (d : ℕ) (texts : List (List ℕ)) → IsLineData (suc d) (texts_data texts)
texts-line d texts = let list = texts-line' texts false in record { whole = list.0; deep = omega (arith, list.1); line = list.2 }

pub maybe-line : (d : ℕ) (texts : Option (List (List ℕ))) → IsLineData (suc d) (maybe_texts texts)
maybe-line d None = null-line (suc d)
maybe-line d (Some texts) = texts-line d texts

-- ---- objects

abbrev pub HaveLines : ℕ → List Pair → Type 0
HaveLines d [] = Unit {0}
HaveLines d (pair ∷ pairs) = IsLineData d pair.1 × HaveLines d pairs

members-line : (d : ℕ) (pairs : List Pair) (later : Bool) → HaveLines d pairs
    → (members_have_float (members pairs) ≡ false) × (members_depth (members pairs) ≤ d)
    × (is_line (members_text later (members pairs)) ≡ true)
members-line d [] later have = (refl, omega arith, refl)
members-line d (pair ∷ pairs) later have =
    let rest = members-line d pairs true have.1 in (
      either-false have.0.whole rest.0,
      omega (arith, have.0.deep, rest.1),
      line-append (comma_if later) _ (comma-line later)
          (line-append (quoted (codes pair.0)) _ (line-quoted (codes pair.0)) (line-append (compact_text pair.1) _ have.0.line rest.2)),
    )

pub object-line : (d : ℕ) (pairs : List Pair) → HaveLines d pairs → IsLineData (suc d) (object_of pairs)
object-line d pairs have =
    let list = members-line d pairs false have in record { whole = list.0; deep = omega (arith, list.1); line = list.2 }
