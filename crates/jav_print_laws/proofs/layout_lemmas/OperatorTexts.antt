-- Operators as tokens: between two spaces, before an operand, and `++` and `--`.
use Rattle.std.proofs.Common.{◌≡◌, ◌⊎◌, inl, inr, ℕ, ◌≤◌, Bool, true, false, ◌&&◌, refl, codes, List, [], ◌∷◌, Option, Some, None, nat_eq, cond, arith}
use Prim.Native.String.{String}
use Rattle.std.specs.Prelude.{not, nat_le}
use Rattle.std.specs.Str.{is_utf8, chars}
use Rattle.std.proofs.lemmas.Bool.Decides.{nat_tests}
use Rattle.std.proofs.lemmas.Option.{same_Some}
use Rattle.ucd_derived.specs.Binary.{is_xid_start}
use Rattle.ucd_derived.specs.XidStartRanges.{xid_start_ranges}
use Rattle.ucd_table.specs.Rows.{in_ranges}
use Rattle.mol_base.specs.Among.{among}
use Rattle.mol_base.specs.Operators.{binary_level, assignments, steps, prefixes, is_assignment, is_step, is_prefix, is_sign}
use Rattle.mol_base.specs.Lexical.Characters.{first_char}
use Rattle.mol_base.specs.Lexical.Names.{is_start, starts_name}
use Rattle.mol_base.specs.Lexical.Symbols.{symbol, is_symbol_2, comes_twice}
use Rattle.mol_base.specs.Lexical.Front.{front, is_clean, token_kind}
use Rattle.mol_base.specs.declared.token_kind.TokenKind.TheVariants as kind
use Rattle.jav_print_laws.specs.pieces.Pieces.{may_follow}
use Rattle.jav_tree.specs.ExpressionText.{begin_alike}
use Rattle.jav_print_laws.proofs.layout_lemmas.Bytes.{opens}
use Rattle.jav_print_laws.proofs.layout_lemmas.Each.{Each, among-each}
use Rattle.jav_print_laws.proofs.layout_lemmas.Signs.{one_may}

-- an operator with spaces on both sides
pub record IsSpaced (op : List ℕ) : Type 0 where
  pub token : token_kind op ≡ Some kind.Symbol
  pub spaced : may_follow kind.Symbol op 32 ≡ true

spaced_or : Each IsSpaced ("||" ∷ [])
unfolding may_follow token_kind is_clean is_utf8 chars front symbol starts_name first_char is_start is_xid_start in_ranges xid_start_ranges lib.Utf8.encode
spaced_or = (record { token = refl; spaced = refl }, tt)

spaced_and : Each IsSpaced ("&&" ∷ [])
unfolding may_follow token_kind is_clean is_utf8 chars front symbol starts_name first_char is_start is_xid_start in_ranges xid_start_ranges lib.Utf8.encode
spaced_and = (record { token = refl; spaced = refl }, tt)

spaced_bar : Each IsSpaced ("|" ∷ [])
unfolding may_follow token_kind is_clean is_utf8 chars front symbol starts_name first_char is_start is_xid_start in_ranges xid_start_ranges lib.Utf8.encode
spaced_bar = (record { token = refl; spaced = refl }, tt)

spaced_caret : Each IsSpaced ("^" ∷ [])
unfolding may_follow token_kind is_clean is_utf8 chars front symbol starts_name first_char is_start is_xid_start in_ranges xid_start_ranges lib.Utf8.encode
spaced_caret = (record { token = refl; spaced = refl }, tt)

spaced_ampersand : Each IsSpaced ("&" ∷ [])
unfolding may_follow token_kind is_clean is_utf8 chars front symbol starts_name first_char is_start is_xid_start in_ranges xid_start_ranges lib.Utf8.encode
spaced_ampersand = (record { token = refl; spaced = refl }, tt)

spaced_equalities : Each IsSpaced ("==" ∷ "!=" ∷ [])
unfolding may_follow token_kind is_clean is_utf8 chars front symbol starts_name first_char is_start is_xid_start in_ranges xid_start_ranges lib.Utf8.encode
spaced_equalities = (record { token = refl; spaced = refl }, (record { token = refl; spaced = refl }, tt))

spaced_orders : Each IsSpaced ("<" ∷ ">" ∷ "<=" ∷ ">=" ∷ [])
unfolding may_follow token_kind is_clean is_utf8 chars front symbol starts_name first_char is_start is_xid_start in_ranges xid_start_ranges lib.Utf8.encode
spaced_orders = (record { token = refl; spaced = refl }, (record { token = refl; spaced = refl }, (record { token = refl; spaced = refl }, (record { token = refl; spaced = refl }, tt))))

spaced_shifts : Each IsSpaced ("<<" ∷ ">>" ∷ ">>>" ∷ [])
unfolding may_follow token_kind is_clean is_utf8 chars front symbol starts_name first_char is_start is_xid_start in_ranges xid_start_ranges lib.Utf8.encode
spaced_shifts = (record { token = refl; spaced = refl }, (record { token = refl; spaced = refl }, (record { token = refl; spaced = refl }, tt)))

spaced_sums : Each IsSpaced ("+" ∷ "-" ∷ [])
unfolding may_follow token_kind is_clean is_utf8 chars front symbol starts_name first_char is_start is_xid_start in_ranges xid_start_ranges lib.Utf8.encode
spaced_sums = (record { token = refl; spaced = refl }, (record { token = refl; spaced = refl }, tt))

spaced_products : Each IsSpaced ("*" ∷ "/" ∷ "%" ∷ [])
unfolding may_follow token_kind is_clean is_utf8 chars front symbol starts_name first_char is_start is_xid_start in_ranges xid_start_ranges lib.Utf8.encode
spaced_products = (record { token = refl; spaced = refl }, (record { token = refl; spaced = refl }, (record { token = refl; spaced = refl }, tt)))

spaced_assignments : Each IsSpaced assignments
unfolding may_follow token_kind is_clean is_utf8 chars front symbol starts_name first_char is_start is_xid_start in_ranges xid_start_ranges lib.Utf8.encode
spaced_assignments = (
  record { token = refl; spaced = refl },
  (
    record { token = refl; spaced = refl },
    (
      record { token = refl; spaced = refl },
      (
        record { token = refl; spaced = refl },
        (
          record { token = refl; spaced = refl },
          (
            record { token = refl; spaced = refl },
            (
              record { token = refl; spaced = refl },
              (
                record { token = refl; spaced = refl },
                (record { token = refl; spaced = refl }, (record { token = refl; spaced = refl }, (record { token = refl; spaced = refl }, (record { token = refl; spaced = refl }, tt)))),
              ),
            ),
          ),
        ),
      ),
    ),
  ),
)

spaced_prefixes : Each IsSpaced prefixes
unfolding may_follow token_kind is_clean is_utf8 chars front symbol starts_name first_char is_start is_xid_start in_ranges xid_start_ranges lib.Utf8.encode
spaced_prefixes = (record { token = refl; spaced = refl }, (record { token = refl; spaced = refl }, (record { token = refl; spaced = refl }, (record { token = refl; spaced = refl }, tt))))

pub assignment-spaced : (op : List ℕ) → is_assignment op ≡ true → IsSpaced op
assignment-spaced op h = among-each IsSpaced assignments op spaced_assignments h

pub prefix-spaced : (op : List ℕ) → is_prefix op ≡ true → IsSpaced op
prefix-spaced op h = among-each IsSpaced prefixes op spaced_prefixes h

-- an operator of a level between two operands
pub record IsOperator (op : List ℕ) (own : ℕ) : Type 0 where
  pub signs : IsSpaced op
  pub least : 3 ≤ own
  pub greatest : own ≤ 12

next_level : (b : Bool) (op : List ℕ) (ss : List String) (n own : ℕ) (rest : Option ℕ) → among ss op ≡ b → Each IsSpaced ss → 3 ≤ n → n ≤ 12 → (rest ≡ Some own → IsOperator op own)
    → cond b (Some n) rest ≡ Some own → IsOperator op own
next_level true op ss n own rest known each low high later h = let e : n ≡ own = same_Some n own h in record { signs = among-each IsSpaced ss op each known; least = omega arith; greatest = omega arith }
next_level false op ss n own rest known each low high later h = later h

pub binary-spaced : (op : List ℕ) (own : ℕ) → binary_level op ≡ Some own → IsOperator op own
binary-spaced op own h =
    next_level _ op ("||" ∷ []) 3 own _ refl spaced_or (omega arith) (omega arith)
    (next_level _ op ("&&" ∷ []) 4 own _ refl spaced_and (omega arith) (omega arith)
    (next_level _ op ("|" ∷ []) 5 own _ refl spaced_bar (omega arith) (omega arith)
    (next_level _ op ("^" ∷ []) 6 own _ refl spaced_caret (omega arith) (omega arith)
    (next_level _ op ("&" ∷ []) 7 own _ refl spaced_ampersand (omega arith) (omega arith)
    (next_level _ op ("==" ∷ "!=" ∷ []) 8 own _ refl spaced_equalities (omega arith) (omega arith)
    (next_level _ op ("<" ∷ ">" ∷ "<=" ∷ ">=" ∷ []) 9 own _ refl spaced_orders (omega arith) (omega arith)
    (next_level _ op ("<<" ∷ ">>" ∷ ">>>" ∷ []) 10 own _ refl spaced_shifts (omega arith) (omega arith)
    (next_level _ op ("+" ∷ "-" ∷ []) 11 own _ refl spaced_sums (omega arith) (omega arith)
    (next_level _ op ("*" ∷ "/" ∷ "%" ∷ []) 12 own None refl spaced_products (omega arith) (omega arith)
    (λ none. absurd cc)))))))))) h

-- a prefix operator before an operand without a space: where the operand does not begin with the same sign
opens-parts : (b : ℕ) → opens b ≡ true → (nat_eq b 61 ≡ false) × (nat_eq b 62 ≡ false)
opens-parts b h = by (nat_eq b 61) (nat_eq b 62) h where
  by : (x y : Bool) → (not x && not y) ≡ true → (x ≡ false) × (y ≡ false)
  by false false h = (refl, refl)
  by true y h = absurd cc
  by false true h = absurd cc

not_two : (a b : ℕ) → nat_eq b 61 ≡ false → (nat_eq a b && comes_twice a) ≡ false → (nat_eq a 45 && nat_eq b 62) ≡ false → is_symbol_2 a b ≡ false
not_two a b e f g = rw (e, f, g) refl

and_no : (a : Bool) → (a && false) ≡ false
and_no true = refl
and_no false = refl

not_same : (a b : ℕ) → (nat_le a b && nat_le b a) ≡ false → nat_eq a b ≡ false
not_same a b h = grind (arith, nat_tests, h)

abbrev Before : List ℕ → Type 0
Before op = (b : ℕ) (rest : List ℕ) → opens b ≡ true → (among ("+" ∷ "-" ∷ []) op && begin_alike op (b ∷ rest)) ≡ false → may_follow kind.Symbol op b ≡ true

plus_before : Before (codes "+")
plus_before b rest h differs = let p = opens-parts b h in one_may 43 b (not_two 43 b p.0 (rw (not_same 43 b differs) refl) refl) refl refl refl

minus_before : Before (codes "-")
minus_before b rest h differs = let p = opens-parts b h in one_may 45 b (not_two 45 b p.0 (rw (not_same 45 b differs) refl) p.1) refl refl refl

not_before : Before (codes "!")
not_before b rest h differs = let p = opens-parts b h in one_may 33 b (not_two 33 b p.0 (and_no (nat_eq 33 b)) refl) refl refl refl

tilde_before : Before (codes "~")
tilde_before b rest h differs = let p = opens-parts b h in one_may 126 b (not_two 126 b p.0 (and_no (nat_eq 126 b)) refl) refl refl refl

pub prefix-before : (op : List ℕ) → is_prefix op ≡ true → Before op
prefix-before op h = among-each Before prefixes op (plus_before, (minus_before, (not_before, (tilde_before, tt)))) h

-- what a prefix operator begins with, and that it is none of `++` and `--`
pub record IsPrefixText (op : List ℕ) : Type 0 where
  pub byte : ℕ
  pub rest : List ℕ
  pub is : op ≡ byte ∷ rest
  pub opens_is : opens byte ≡ true
  pub no_step : is_step op ≡ false

pub prefix-text : (op : List ℕ) → is_prefix op ≡ true → IsPrefixText op
prefix-text op h = among-each IsPrefixText prefixes op (
  record { byte = 43; rest = []; is = refl; opens_is = refl; no_step = refl },
  (
    record { byte = 45; rest = []; is = refl; opens_is = refl; no_step = refl },
    (
      record { byte = 33; rest = []; is = refl; opens_is = refl; no_step = refl },
      (record { byte = 126; rest = []; is = refl; opens_is = refl; no_step = refl }, tt),
    ),
  ),
) h

-- `++` and `--`
pub record IsStepText (op : List ℕ) : Type 0 where
  pub token : token_kind op ≡ Some kind.Symbol
  pub may : (b : ℕ) → may_follow kind.Symbol op b ≡ true
  pub byte : ℕ
  pub rest : List ℕ
  pub is : op ≡ byte ∷ rest
  pub sign : (byte ≡ 43) ⊎ (byte ≡ 45)
  pub opens_is : opens byte ≡ true
  pub no_prefix : is_prefix op ≡ false
  pub no_gap : among ("+" ∷ "-" ∷ []) op ≡ false
  pub signed : is_sign op ≡ true

step_texts : Each IsStepText steps
unfolding may_follow token_kind is_clean is_utf8 chars front symbol starts_name first_char is_start is_xid_start in_ranges xid_start_ranges lib.Utf8.encode
step_texts = (
  record { token = refl; may = λ b. refl; byte = 43; rest = codes "+"; is = refl; sign = inl refl; opens_is = refl; no_prefix = refl; no_gap = refl; signed = refl },
  (record { token = refl; may = λ b. refl; byte = 45; rest = codes "-"; is = refl; sign = inr refl; opens_is = refl; no_prefix = refl; no_gap = refl; signed = refl }, tt),
)

pub step-text : (op : List ℕ) → is_step op ≡ true → IsStepText op
step-text op h = among-each IsStepText steps op step_texts h
