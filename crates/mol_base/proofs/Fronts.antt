-- Which rule the first bytes of a source choose.
use Rattle.std.proofs.Common.{◌≡◌, inl, inr, ℕ, ◌<◌, ◌≤◌, Bool, true, false, ◌&&◌, ◌||◌, List, [], ◌∷◌, length, refl, sym, ◌∙◌, arith, nat_eq}
use Rattle.std.specs.Prelude.{not, nat_lt}
use Rattle.std.specs.Char.{is_ascii_alphabetic}
use Rattle.std.proofs.lemmas.Bool.{and_parts, or_parts, not-true, ltb-true, cases_lt, agree_below_at}
use Rattle.std.proofs.lemmas.Bool.Decides.{nat_tests}
use Rattle.unicode_ident.proofs.IdentLemmas.{is_xid_start-ascii}
use Rattle.mol_base.specs.Lexical.Characters.{is_space, is_digit, first, second, third}
use Rattle.mol_base.specs.Lexical.Names.{is_start, starts_name, name}
use Rattle.mol_base.specs.Lexical.Numbers.{number}
use Rattle.mol_base.specs.Lexical.Symbols.{symbol}
use Rattle.mol_base.specs.Lexical.Front.{front}
use Rattle.mol_base.proofs.FirstChar.{first_char-ascii}

-- letters, `_` and `$`
abbrev pub is_ascii_start : ℕ → Bool
is_ascii_start b = is_ascii_alphabetic b || nat_eq b 95 || nat_eq b 36

pub is_start-ascii : (b : ℕ) → b < 128 → is_start b ≡ is_ascii_start b
unfolding is_start
is_start-ascii b low = rw (is_xid_start-ascii b low) refl

pub starts_name-ascii : (b : ℕ) (bs : List ℕ) → b < 128 → starts_name (b ∷ bs) ≡ is_ascii_start b
unfolding starts_name
starts_name-ascii b bs low = rw (first_char-ascii b bs low) (is_start-ascii b low)

-- no rule before that of symbols is chosen
abbrev pub is_other : List ℕ → Bool
is_other bytes = let a = first bytes in let b = second bytes in
    not (is_space a) && (not (nat_eq a 47 && nat_eq b 47) && (not (nat_eq a 47 && nat_eq b 42) && (not (nat_eq a 34 || nat_eq a 39)
    && (not (is_digit a) && (not (nat_eq a 46 && is_digit b) && (nat_lt 0 (length bytes) && (nat_lt a 128 && not (is_ascii_start a))))))))

no_three : (x y z : Bool) → (x || y) ≡ false → (x && z && y) ≡ false
no_three true y z h = absurd cc
no_three false y z h = refl

no_quotes : (a : ℕ) (x y : Bool) → (nat_eq a 34 || nat_eq a 39) ≡ false → (nat_eq a 34 && x && y) ≡ false
no_quotes a x y h = rw ((or_parts (nat_eq a 34) (nat_eq a 39) h).0) refl

pub front-symbol : (r : List ℕ) → is_other r ≡ true → front r ≡ symbol r
unfolding front
front-symbol [] other = absurd cc
front-symbol (c ∷ cs) other =
    let r : List ℕ = c ∷ cs in let b = second r in
    let p1 = and_parts (not (is_space c)) _ other in
    let p2 = and_parts (not (nat_eq c 47 && nat_eq b 47)) _ p1.1 in
    let p3 = and_parts (not (nat_eq c 47 && nat_eq b 42)) _ p2.1 in
    let p4 = and_parts (not (nat_eq c 34 || nat_eq c 39)) _ p3.1 in
    let p5 = and_parts (not (is_digit c)) _ p4.1 in
    let p6 = and_parts (not (nat_eq c 46 && is_digit b)) _ p5.1 in
    let p7 = and_parts (nat_lt 0 (length r)) _ p6.1 in
    let p8 = and_parts (nat_lt c 128) (not (is_ascii_start c)) p7.1 in
    let quotes = not-true _ p4.0 in
    let starts : starts_name r ≡ false = starts_name-ascii c cs (ltb-true c 128 p8.0) ∙ not-true _ p8.1 in
    rw (not-true _ p1.0, not-true _ p2.0, not-true _ p3.0, no_quotes c (nat_eq b 34) (nat_eq (third r) 34) quotes, quotes, not-true _ p5.0, not-true _ p6.0, starts) refl

pub front-number : (r : List ℕ) → is_digit (first r) ≡ true → front r ≡ number r
unfolding front
front-number r digit =
    let a = first r in
    let space : is_space a ≡ false = grind (arith, nat_tests, digit) in
    let slash : nat_eq a 47 ≡ false = grind (arith, nat_tests, digit) in
    let double : nat_eq a 34 ≡ false = grind (arith, nat_tests, digit) in
    let single : nat_eq a 39 ≡ false = grind (arith, nat_tests, digit) in
    rw (space, slash, double, single, digit) refl

-- a byte that chooses another rule than that of names begins no name
abbrev chooses : ℕ → Bool
chooses b = is_space b || (nat_eq b 47 || (nat_eq b 34 || (nat_eq b 39 || (is_digit b || nat_eq b 46))))

chooses-high : (b : ℕ) → 128 ≤ b → chooses b ≡ false
chooses-high b high = grind (arith, nat_tests, high)

chooses-start : (b : ℕ) → b < 128 → is_ascii_start b ≡ true → chooses b ≡ false
chooses-start b low start = and_left_false (is_ascii_start b) (chooses b) start (agree_below_at (λ x. is_ascii_start x && chooses x) (λ x. false) 128 b refl low) where
  and_left_false : (x y : Bool) → x ≡ true → (x && y) ≡ false → y ≡ false
  and_left_false true y is both = both
  and_left_false false y is both = absurd cc

starts-chooses : (r : List ℕ) → starts_name r ≡ true → chooses (first r) ≡ false
unfolding starts_name
starts-chooses [] starts = refl
starts-chooses (b ∷ bs) starts = elim (cases_lt b 128) [ inl low ↦ chooses-start b low (sym (starts_name-ascii b bs low) ∙ starts) | inr high ↦ chooses-high b high ]

pub front-name : (r : List ℕ) → starts_name r ≡ true → front r ≡ name r
unfolding front
front-name r starts =
    let a = first r in
    let no1 = or_parts (is_space a) _ (starts-chooses r starts) in
    let no2 = or_parts (nat_eq a 47) _ no1.1 in
    let no3 = or_parts (nat_eq a 34) _ no2.1 in
    let no4 = or_parts (nat_eq a 39) _ no3.1 in
    let no5 = or_parts (is_digit a) (nat_eq a 46) no4.1 in
    rw (no1.0, no2.0, no3.0, no4.0, no5.0, no5.1, starts) refl
