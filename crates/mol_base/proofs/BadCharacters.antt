-- Characters with which nothing begins, as the scan finds them.
use Rattle.std.proofs.Common.{◌≡◌, ℕ, ◌<◌, ◌≤◌, Bool, true, false, ◌&&◌, ◌||◌, List, take, length, get_or, refl, sym, ◌∙◌, ap, arith, nat_eq}
use Rattle.std.specs.Prelude.{codes}
use Rattle.std.proofs.lemmas.Bool.{and_right, eqb-true, false_from_ne_true, true≢false}
use Rattle.std.proofs.lemmas.List.{get_or-take}
use Rattle.mol_base.specs.Lexical.Characters.{is_space, is_digit, first, second, third, width}
use Rattle.mol_base.specs.Lexical.Names.{starts_name, name_len, name}
use Rattle.mol_base.specs.Lexical.Symbols.{symbol, is_symbol_1, is_symbol_2, is_symbol_3, is_symbol_4, takes_equals, comes_twice}
use Rattle.mol_base.specs.Lexical.Front.{front}
use Rattle.mol_base.specs.declared.lexical.front.Front.TheVariants.{Wrong}
use Rattle.mol_base.specs.declared.lexical.front.Flaw.TheVariants.{BadChar}
use Rattle.mol_base.proofs.Fronts.{front-name}
use Rattle.mol_base.proofs.Longest.{starts_name-cut, name_len-take}
use Rattle.mol_base.proofs.Members.{all_bytes}
use Rattle.mol_base.proofs.NameFlaws.{starts-taken}

-- a byte that is no symbol begins none
differs : (a x : ℕ) → is_symbol_1 a ≡ false → is_symbol_1 x ≡ true → nat_eq a x ≡ false
differs a x fails is = false_from_ne_true _ (λ same. let e : a ≡ x = eqb-true a x same in true≢false (sym is ∙ ap is_symbol_1 (sym e) ∙ fails))

takes_equals-none : (a : ℕ) → is_symbol_1 a ≡ false → takes_equals a ≡ false
takes_equals-none a fails = false_from_ne_true _ (λ is. true≢false (sym (all_bytes is_symbol_1 (codes "=><!+-*/&|^%") a refl is) ∙ fails))

comes_twice-none : (a : ℕ) → is_symbol_1 a ≡ false → comes_twice a ≡ false
comes_twice-none a fails = false_from_ne_true _ (λ is. true≢false (sym (all_bytes is_symbol_1 (codes ":&|+-<>") a refl is) ∙ fails))

symbol_4-none : (a b c d : ℕ) → is_symbol_1 a ≡ false → is_symbol_4 a b c d ≡ false
symbol_4-none a b c d fails = rw (differs a 62 fails refl) refl

symbol_3-none : (a b c : ℕ) → is_symbol_1 a ≡ false → is_symbol_3 a b c ≡ false
symbol_3-none a b c fails = rw (differs a 46 fails refl, differs a 62 fails refl, differs a 60 fails refl) (and_right (nat_eq a b) false refl)

symbol_2-none : (a b : ℕ) → is_symbol_1 a ≡ false → is_symbol_2 a b ≡ false
symbol_2-none a b fails = rw (takes_equals-none a fails, comes_twice-none a fails, differs a 45 fails refl) (nothing (nat_eq b 61) (nat_eq a b)) where
  nothing : (x y : Bool) → ((x && false) || (y && false) || false) ≡ false
  nothing true true = refl
  nothing true false = refl
  nothing false true = refl
  nothing false false = refl

symbol-none : (r : List ℕ) → is_symbol_1 (first r) ≡ false → symbol r ≡ Wrong BadChar 0
unfolding symbol
symbol-none r fails =
    rw (symbol_4-none (first r) (second r) (third r) (get_or r 3 0) fails, symbol_3-none (first r) (second r) (third r) fails, symbol_2-none (first r) (second r) fails, fails) refl

-- bytes whose first one begins nothing
pub record BeginsNothing (r : List ℕ) : Type 0 where
  pub space : is_space (first r) ≡ false
  pub double : nat_eq (first r) 34 ≡ false
  pub single : nat_eq (first r) 39 ≡ false
  pub digit : is_digit (first r) ≡ false
  pub name : starts_name r ≡ false
  pub symbol : is_symbol_1 (first r) ≡ false

front-nothing : (r : List ℕ) → BeginsNothing r → front r ≡ Wrong BadChar 0
unfolding front
front-nothing r is =
    let slash : nat_eq (first r) 47 ≡ false = differs (first r) 47 is.symbol refl in
    let dot : nat_eq (first r) 46 ≡ false = differs (first r) 46 is.symbol refl in
    rw (is.space, slash, is.double, is.single, is.digit, dot, is.name) (symbol-none r is.symbol)

-- nor does a front of them
pub front-nothing-take : (r : List ℕ) → BeginsNothing r → (n : ℕ) → 0 < n → n ≤ length r → front (take n r) ≡ Wrong BadChar 0
front-nothing-take r is n some room =
    let here : first (take n r) ≡ first r = get_or-take n r 0 0 some in
    front-nothing (take n r) (record {
      space = rw here is.space;
      double = rw here is.double;
      single = rw here is.single;
      digit = rw here is.digit;
      name = starts_name-cut r n some room is.name;
      symbol = rw here is.symbol;
    })

name-underscore : (r : List ℕ) → name_len 0 r ≡ 1 → first r ≡ 95 → name r ≡ Wrong BadChar 0
unfolding name
name-underscore r len line = rw (len, line) refl

-- `_` alone, and each front of bytes that begin with it
pub front-underscore-take : (r : List ℕ) → starts_name r ≡ true → name_len 0 r ≡ 1 → first r ≡ 95 → (n : ℕ) → 0 < n → n ≤ length r → front (take n r) ≡ Wrong BadChar 0
front-underscore-take r starts len line n some room =
    let here : first (take n r) ≡ first r = get_or-take n r 0 0 some in
    let narrow : width (first r) ≡ 1 = ap width line in
    let starts' = starts-taken r n some room (omega arith) starts in
    let same : name_len 0 (take n r) ≡ name_len 0 r = name_len-take (length r) r n (omega arith) room (omega arith) in
    front-name (take n r) starts' ∙ name-underscore (take n r) (same ∙ len) (here ∙ line)
