-- The bytes that stand after an expression, and those with which one begins.
use Rattle.std.proofs.Common.{◌≡◌, ◌⊎◌, inl, inr, ℕ, suc, ◌≤◌, Bool, true, false, ◌&&◌, ◌||◌, refl, codes, List, ◌∷◌, nat_eq}
use Rattle.std.specs.Prelude.{not, nat_le}
use Rattle.std.specs.List.{list_any}
use Rattle.std.proofs.lemmas.Bool.{or_cases, or_left, and_parts, eqb-true, not-true, le-leb, lt-leb}
use Rattle.ucd_derived.specs.Binary.{is_xid_start, is_xid_continue}
use Rattle.ucd_derived.specs.XidStartRanges.{xid_start_ranges}
use Rattle.ucd_derived.specs.XidContinueRanges.{xid_continue_ranges}
use Rattle.ucd_table.specs.Rows.{in_ranges}
use Rattle.mol_base.specs.Lexical.Names.{is_start, is_part}
use Rattle.jav_print_laws.specs.pieces.Pieces.{breaks}
use Rattle.jav_print_laws.proofs.layout_lemmas.Each.{EachByte, any-each}

-- what may follow any expression: nothing (0), or one of these
abbrev pub closers : List ℕ
closers = 0 ∷ codes " ),;]}"

abbrev pub closes : ℕ → Bool
closes b = list_any (λ c. nat_eq c b) closers

abbrev pub Closes : ℕ → Type 0
Closes b = closes b ≡ true

-- behind what binds tightly also a bracket, a step, and a dot where it is no number
abbrev pub may_end : ℕ → Bool → ℕ → Bool
may_end level is_number b = closes b || (nat_le 15 level && (nat_eq b 91 || nat_eq b 43 || nat_eq b 45 || (nat_eq b 46 && not is_number)))

abbrev pub Ends : ℕ → Bool → ℕ → Type 0
Ends level is_number b = may_end level is_number b ≡ true

-- a byte with which an expression may begin: a sign before it does not go on with it, unless it is that sign
abbrev pub opens : ℕ → Bool
opens b = not (nat_eq b 61) && not (nat_eq b 62)

breaking : EachByte (λ b. breaks b ≡ true) (0 ∷ codes " ),;]}.[+-(:")
unfolding breaks is_part is_start is_xid_start in_ranges xid_start_ranges is_xid_continue xid_continue_ranges
breaking = (refl, (refl, (refl, (refl, (refl, (refl, (refl, (refl, (refl, (refl, (refl, (refl, (refl, tt)))))))))))))

pub any-breaks : (b : ℕ) → list_any (λ c. nat_eq c b) (0 ∷ codes " ),;]}.[+-(:") ≡ true → breaks b ≡ true
any-breaks b h = any-each (λ x. breaks x ≡ true) (0 ∷ codes " ),;]}.[+-(:") b breaking h

pub line_breaks : breaks 10 ≡ true
unfolding breaks is_part is_start is_xid_start in_ranges xid_start_ranges is_xid_continue xid_continue_ranges
line_breaks = refl

pub space_breaks : breaks 32 ≡ true
space_breaks = breaking.1.0

pub close_breaks : breaks 41 ≡ true
close_breaks = breaking.1.1.0

pub comma_breaks : breaks 44 ≡ true
comma_breaks = breaking.1.1.1.0

pub semi_breaks : breaks 59 ≡ true
semi_breaks = breaking.1.1.1.1.0

pub dot_breaks : breaks 46 ≡ true
dot_breaks = breaking.1.1.1.1.1.1.1.0

pub bracket_breaks : breaks 91 ≡ true
bracket_breaks = breaking.1.1.1.1.1.1.1.1.0

pub open_breaks : breaks 40 ≡ true
open_breaks = breaking.1.1.1.1.1.1.1.1.1.1.1.0

closers_break : EachByte (λ b. breaks b ≡ true) closers
closers_break = (breaking.0, (breaking.1.0, (breaking.1.1.0, (breaking.1.1.1.0, (breaking.1.1.1.1.0, (breaking.1.1.1.1.1.0, (breaking.1.1.1.1.1.1.0, tt)))))))

pub closes-breaks : (b : ℕ) → Closes b → breaks b ≡ true
closes-breaks b h = any-each (λ x. breaks x ≡ true) closers b closers_break h

closers_no_dot : EachByte (λ b. nat_eq b 46 ≡ false) closers
closers_no_dot = (refl, (refl, (refl, (refl, (refl, (refl, (refl, tt)))))))

closes-no_dot : (b : ℕ) → closes b ≡ true → nat_eq b 46 ≡ false
closes-no_dot b h = any-each (λ x. nat_eq x 46 ≡ false) closers b closers_no_dot h

pub closes-ends : (level : ℕ) (number : Bool) (b : ℕ) → Closes b → Ends level number b
closes-ends level number b c = or_left (closes b) _ c

-- behind an operator only a closing byte
pub ends-closes : (level : ℕ) (number : Bool) (b : ℕ) → suc level ≤ 15 → Ends level number b → Closes b
ends-closes level number b low h = elim (or_cases (closes b) _ h) [ inl c ↦ c | inr more ↦ (let e : nat_le 15 level ≡ false = lt-leb 15 level low in let f = rw e at more in absurd cc) ]

-- behind a name or a literal
pub ends-breaks : (level : ℕ) (number : Bool) (b : ℕ) → Ends level number b → (breaks b ≡ true) × ((number && nat_eq b 46) ≡ false)
ends-breaks level number b h = elim (or_cases (closes b) _ h) [
  | inl c ↦ (closes-breaks b c, rw (closes-no_dot b c) (and_no number))
  | inr more ↦ by number (and_parts (nat_le 15 level) _ more).1
] where
  and_no : (x : Bool) → (x && false) ≡ false
  and_no true = refl
  and_no false = refl

  by : (number : Bool) → (nat_eq b 91 || nat_eq b 43 || nat_eq b 45 || (nat_eq b 46 && not number)) ≡ true → (breaks b ≡ true) × ((number && nat_eq b 46) ≡ false)
  by number h = elim (or_cases (nat_eq b 91 || nat_eq b 43 || nat_eq b 45) (nat_eq b 46 && not number) h) [
    | inl three ↦ elim (or_cases (nat_eq b 91 || nat_eq b 43) (nat_eq b 45) three) [
      | inl two ↦ elim (or_cases (nat_eq b 91) (nat_eq b 43) two) [
        | inl is ↦ (let e : b ≡ 91 = eqb-true b 91 is in (rw e bracket_breaks, rw e (and_no number)))
        | inr is ↦ (let e : b ≡ 43 = eqb-true b 43 is in (rw e (any-breaks 43 refl), rw e (and_no number)))
      ]
      | inr is ↦ (let e : b ≡ 45 = eqb-true b 45 is in (rw e (any-breaks 45 refl), rw e (and_no number)))
    ]
    | inr dot ↦ (let p = and_parts (nat_eq b 46) (not number) dot in let e : b ≡ 46 = eqb-true b 46 p.0 in (rw e dot_breaks, rw (not-true number p.1) refl))
  ]

-- a bracket and a step behind what binds tightly, and a dot where it is no number
pub bracket-ends : (level : ℕ) (number : Bool) → 15 ≤ level → Ends level number 91
bracket-ends level number high = let e : nat_le 15 level ≡ true = le-leb 15 level high in rw e refl

pub step-ends : (level : ℕ) (number : Bool) (b : ℕ) → 15 ≤ level → ((b ≡ 43) ⊎ (b ≡ 45)) → Ends level number b
step-ends level number b high (inl s) = let e : nat_le 15 level ≡ true = le-leb 15 level high in rw (s, e) refl
step-ends level number b high (inr s) = let e : nat_le 15 level ≡ true = le-leb 15 level high in rw (s, e) refl

pub dot-ends : (level : ℕ) (number : Bool) → 15 ≤ level → number ≡ false → Ends level number 46
dot-ends level number high plain = let e : nat_le 15 level ≡ true = le-leb 15 level high in rw (e, plain) refl
