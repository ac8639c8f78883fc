-- The token at the front is the longest: no longer front of the bytes is a token.
use Rattle.std.proofs.Common.{◌≡◌, ◌⊎◌, inl, inr, ℕ, zero, suc, ◌+◌, ◌-◌, ◌<◌, ◌≤◌, Bool, true, false, ◌&&◌, ◌||◌, List, [], ◌∷◌, take, drop, length, get_or, refl, sym, ◌∙◌, ap, arith, cond, nat_eq, None}
use Rattle.std.specs.Prelude.{not, nat_lt, nat_le}
use Rattle.std.specs.Option.{option_map_or}
use Rattle.std.proofs.lemmas.Bool.{and_parts, cases_Bool, cond_both, ltb-true, eqb-true, le-leb, lt-ltb}
use Rattle.std.proofs.lemmas.Bool.Decides.{nat_tests}
use Rattle.std.proofs.lemmas.List.{length-take-le, get_or-take, drop-take, length-drop}
use Rattle.mol_base.specs.Lexical.Characters.{is_space, is_line_end, is_digit, first, second, third, width, first_char, pairs_next}
use Rattle.mol_base.specs.Lexical.Comments.{line_len, before_close, opening, line_comment, block_comment}
use Rattle.mol_base.specs.Lexical.Names.{name_len, name, starts_name, goes_on, word_kind, is_start, is_part}
use Rattle.mol_base.specs.Lexical.Numbers.{run_len, is_run_byte, number, is_float, is_integer, without_suffix}
use Rattle.mol_base.specs.Lexical.Quoted.{before_quote, before_bad_escape, quoted, fits_between}
use Rattle.mol_base.specs.Lexical.Symbols.{symbol, is_symbol_2, is_symbol_3, is_symbol_4, takes_equals, comes_twice}
use Rattle.mol_base.specs.Lexical.Front.{front, IsWithin, TakesLongest}
use Rattle.mol_base.specs.declared.token_kind.TokenKind.{TokenKind}
use Rattle.mol_base.specs.declared.token_kind.TokenKind.TheVariants.{Comment, Literal, Symbol}
use Rattle.mol_base.specs.declared.lexical.front.Front.{Front}
use Rattle.mol_base.specs.declared.lexical.front.Front.TheVariants.{Space, Taken, Wrong}
use Rattle.mol_base.specs.declared.lexical.front.Flaw.TheVariants.{BadChar, OpenString, OpenComment, BadEscape, FloatLiteral, BadNumber, TextBlock, NameTooLong}
use Rattle.mol_base.proofs.Naming.{name_len-goes_on, name_len-stops}
use Rattle.mol_base.proofs.Whole.{IsToken-whole, IsWhole-token}
use Rattle.mol_base.proofs.Ends.{take-shorter, front-within, get_or-there, starts-goes_on, line_len-slash}

-- a byte of a front is that byte, or the front has ended
get_or-end : (r : List ℕ) (i : ℕ) → length r ≤ i → get_or r i 0 ≡ 0
get_or-end [] zero h = refl
get_or-end [] (suc i) h = refl
get_or-end (b ∷ bs) zero h = absurd (omega arith)
get_or-end (b ∷ bs) (suc i) h = get_or-end bs i (omega arith)

byte_lost : (r : List ℕ) (m i : ℕ) → m ≤ length r → m ≤ i → get_or (take m r) i 0 ≡ 0
byte_lost r m i room past = let len : length (take m r) ≡ m = length-take-le m r room in get_or-end (take m r) i (omega arith)

byte_of : (r : List ℕ) (m i : ℕ) → m ≤ length r → (get_or (take m r) i 0 ≡ get_or r i 0) ⊎ (get_or (take m r) i 0 ≡ 0)
byte_of r m i room = by_place (cases_Bool (nat_lt i m)) where
  by_place : ((nat_lt i m ≡ true) ⊎ (nat_lt i m ≡ false)) → (get_or (take m r) i 0 ≡ get_or r i 0) ⊎ (get_or (take m r) i 0 ≡ 0)
  by_place (inl is) = inl (get_or-take m r i 0 (ltb-true i m is))
  by_place (inr is) = inr (byte_lost r m i room (grind (arith, nat_tests, is)))

-- a test that fails at a byte and at 0 fails at the byte of a front
kept_false : (f : ℕ → Bool) (x y : ℕ) → ((y ≡ x) ⊎ (y ≡ 0)) → f 0 ≡ false → f x ≡ false → f y ≡ false
kept_false f x y (inl same) none fails = ap f same ∙ fails
kept_false f x y (inr lost) none fails = ap f lost ∙ none

and_false : (t : Bool) → (t && false) ≡ false
and_false true = refl
and_false false = refl

-- choices that go the same way, where the one gives v
cond_agree : {A : Type 0} (b c : Bool) (x y z w v : A) → (b ≡ true → x ≡ v → (c ≡ true) × (z ≡ v)) → (b ≡ false → y ≡ v → (c ≡ false) × (w ≡ v)) → cond b x y ≡ v → cond c z w ≡ v
cond_agree true c x y z w v holds otherwise h = let both = holds refl h in rw both.0 both.1
cond_agree false c x y z w v holds otherwise h = let both = otherwise refl h in rw both.0 both.1

tail_agree : (t : Bool) (x y m k : ℕ) → (x + k ≤ m → y ≡ x) → cond t 0 (1 + x) + k ≤ suc m → cond t 0 (1 + y) ≡ cond t 0 (1 + x)
tail_agree true x y m k same h = refl
tail_agree false x y m k same h = ap (λ (n : ℕ). 1 + n) (same (omega arith))

line_len-take : (r : List ℕ) (m : ℕ) → line_len r ≤ m → line_len (take m r) ≡ line_len r
line_len-take [] zero h = refl
line_len-take [] (suc m) h = refl
line_len-take (b ∷ bs) zero h = omega arith
line_len-take (b ∷ bs) (suc m) h = tail_agree (is_line_end b) (line_len bs) (line_len (take m bs)) m 0 (λ le. line_len-take bs m (omega arith)) (omega arith)

before_close-take : (r : List ℕ) (m : ℕ) → before_close r + 2 ≤ m → before_close (take m r) ≡ before_close r
before_close-take [] zero h = refl
before_close-take [] (suc m) h = refl
before_close-take (b ∷ bs) zero h = absurd (omega arith)
before_close-take (b ∷ bs) (suc m) h =
    let here : first (take m bs) ≡ first bs = get_or-take m bs 0 0 (omega arith) in
    rw here (tail_agree (nat_eq b 42 && nat_eq (first bs) 47) (before_close bs) (before_close (take m bs)) m 2 (λ le. before_close-take bs m le) h)

before_quote-take : (q : ℕ) (e : Bool) (r : List ℕ) (m : ℕ) → before_quote q e r ≤ m → before_quote q e (take m r) ≡ before_quote q e r
before_quote-take q e [] zero h = refl
before_quote-take q e [] (suc m) h = refl
before_quote-take q e (b ∷ bs) zero h = omega arith
before_quote-take q e (b ∷ bs) (suc m) h =
    tail_agree (is_line_end b || (not e && nat_eq b q)) (before_quote q (pairs_next e b) bs) (before_quote q (pairs_next e b) (take m bs)) m 0 (λ le. before_quote-take q (pairs_next e b) bs m (omega arith)) (omega arith)

run_agree : (t : Bool) (x y m : ℕ) → (x ≤ m → y ≡ x) → cond t (1 + x) 0 ≤ suc m → cond t (1 + y) 0 ≡ cond t (1 + x) 0
run_agree true x y m same h = ap (λ (n : ℕ). 1 + n) (same (omega arith))
run_agree false x y m same h = refl

run_len-take : (r : List ℕ) (m : ℕ) → run_len r ≤ m → run_len (take m r) ≡ run_len r
run_len-take [] zero h = refl
run_len-take [] (suc m) h = refl
run_len-take (b ∷ bs) zero h = omega arith
run_len-take (b ∷ bs) (suc m) h = run_agree (is_run_byte b) (run_len bs) (run_len (take m bs)) m (λ le. run_len-take bs m le) h

-- the first character of a front that has it whole, and of one that cuts it
pub first_char-take : (r : List ℕ) (m : ℕ) → 0 < m → m ≤ length r → width (first r) ≤ m → first_char (take m r) ≡ first_char r
unfolding first_char
first_char-take r m some room whole =
    let here : first (take m r) ≡ first r = get_or-take m r 0 0 some in
    let len : length (take m r) ≡ m = length-take-le m r room in
    let fits : nat_le (width (first r)) m ≡ true = le-leb _ _ whole in
    let fits' : nat_le (width (first r)) (length r) ≡ true = le-leb _ _ (omega arith) in
    rw (here, len, fits, fits', take-shorter (width (first r)) m r whole room) refl

first_char-cut : (r : List ℕ) (m : ℕ) → 0 < m → m ≤ length r → m < width (first r) → first_char (take m r) ≡ None
unfolding first_char
first_char-cut r m some room cut =
    let here : first (take m r) ≡ first r = get_or-take m r 0 0 some in
    let len : length (take m r) ≡ m = length-take-le m r room in
    let fits : nat_le (width (first r)) m ≡ false = grind (arith, nat_tests) in
    rw (here, len, fits) refl

mapped_cut : (f : ℕ → Bool) (r : List ℕ) (m : ℕ) → 0 < m → m ≤ length r → option_map_or f (first_char r) false ≡ false → option_map_or f (first_char (take m r)) false ≡ false
mapped_cut f r m some room fails = by_width (cases_Bool (nat_lt m (width (first r)))) where
  by_width : ((nat_lt m (width (first r)) ≡ true) ⊎ (nat_lt m (width (first r)) ≡ false)) → option_map_or f (first_char (take m r)) false ≡ false
  by_width (inl is) = rw (first_char-cut r m some room (ltb-true m (width (first r)) is)) refl
  by_width (inr is) = rw (first_char-take r m some room (grind (arith, nat_tests, is))) fails

goes_on-nil : goes_on [] ≡ false
unfolding goes_on first_char
goes_on-nil = refl

goes_on-cut : (r : List ℕ) (m : ℕ) → m ≤ length r → goes_on r ≡ false → goes_on (take m r) ≡ false
unfolding goes_on
goes_on-cut r zero room fails = goes_on-nil
goes_on-cut r (suc m) room fails = mapped_cut is_part r (suc m) (omega arith) room fails

goes_on-kept : (r : List ℕ) (m : ℕ) → width (first r) ≤ m → m ≤ length r → goes_on r ≡ true → goes_on (take m r) ≡ true
unfolding goes_on
goes_on-kept r m whole room goes = rw (first_char-take r m (omega arith) room whole) goes

pub name_len-take : (k : ℕ) (r : List ℕ) (m : ℕ) → length r ≤ k → m ≤ length r → name_len 0 r ≤ m → name_len 0 (take m r) ≡ name_len 0 r
name_len-take zero r m small room h = let none : m ≡ 0 = omega arith in rw none (omega arith)
name_len-take (suc k) r m small room h = by_case (goes_on r) refl (name_len-take k (drop (width (first r)) r) (m - width (first r))) where
  by_case : (t : Bool) → goes_on r ≡ t
      → (length (drop (width (first r)) r) ≤ k → m - width (first r) ≤ length (drop (width (first r)) r) → name_len 0 (drop (width (first r)) r) ≤ m - width (first r)
      → name_len 0 (take (m - width (first r)) (drop (width (first r)) r)) ≡ name_len 0 (drop (width (first r)) r))
      → name_len 0 (take m r) ≡ name_len 0 r
  by_case false is further = name_len-stops (take m r) (goes_on-cut r m room is) ∙ sym (name_len-stops r is)
  by_case true is further =
      let w = width (first r) in
      let step = name_len-goes_on r is in
      let whole : w ≤ m = omega arith in
      let len : length (drop w r) ≡ length r - w = length-drop w r in
      let here : first (take m r) ≡ first r = get_or-take m r 0 0 (omega arith) in
      let sum : w + (m - w) ≡ m = omega arith in
      let after : drop w (take m r) ≡ take (m - w) (drop w r) = ap (λ (n : ℕ). drop w (take n r)) (sym sum) ∙ drop-take w (m - w) r in
      let front = name_len-goes_on (take m r) (goes_on-kept r m whole room is) in
      let same = further (omega arith) (omega arith) (omega arith) in
      front ∙ ap (λ (b : ℕ). width b + name_len 0 (drop (width b) (take m r))) here ∙ ap (λ (xs : List ℕ). w + name_len 0 xs) after ∙ ap (λ (n : ℕ). w + n) same ∙ sym step

-- what is taken at the front is taken at each front that has it whole: first for each kind
line_comment-stable : (r : List ℕ) (m n : ℕ) (kind : TokenKind) → line_comment r ≡ Taken kind n → n ≤ m → line_comment (take m r) ≡ Taken kind n
unfolding line_comment
line_comment-stable r m n kind is le =
    let len : line_len r ≡ n = cc in
    ap (λ (x : ℕ). Taken Comment x) (line_len-take r m (omega arith)) ∙ is

after_opening : (r : List ℕ) (m : ℕ) → opening ≤ m → drop opening (take m r) ≡ take (m - opening) (drop opening r)
after_opening r m some = let sum : opening + (m - opening) ≡ m = omega arith in ap (λ (n : ℕ). drop opening (take n r)) (sym sum) ∙ drop-take opening (m - opening) r

after_one : (r : List ℕ) (m : ℕ) → 1 ≤ m → drop 1 (take m r) ≡ take (m - 1) (drop 1 r)
after_one r m some = let sum : 1 + (m - 1) ≡ m = omega arith in ap (λ (n : ℕ). drop 1 (take n r)) (sym sum) ∙ drop-take 1 (m - 1) r

block_len : (t : Bool) (k n : ℕ) (kind : TokenKind) → cond t (Taken Comment (opening + k + 2)) (Wrong OpenComment 0) ≡ Taken kind n → (t ≡ true) × (opening + k + 2 ≡ n)
block_len true k n kind is = (refl, cc)
block_len false k n kind is = absurd cc

block_comment-stable : (r : List ℕ) (m n : ℕ) (kind : TokenKind) → m ≤ length r → block_comment r ≡ Taken kind n → n ≤ m → block_comment (take m r) ≡ Taken kind n
unfolding block_comment
block_comment-stable r m n kind room is le =
    let body = drop opening r in
    let end = block_len (nat_lt (before_close body) (length body)) (before_close body) n kind is in
    let same : before_close (take (m - opening) body) ≡ before_close body = before_close-take body (m - opening) (omega (arith, end.1)) in
    let len : length body ≡ length r - opening = length-drop opening r in
    let len' : length (take (m - opening) body) ≡ m - opening = length-take-le (m - opening) body (omega arith) in
    let lt : nat_lt (before_close body) (m - opening) ≡ true = lt-ltb _ _ (omega (arith, end.1)) in
    rw (after_opening r m (omega (arith, end.1)), same, len', lt) (rw end.0 at is)

quoted_len : (t u w : Bool) (k j n : ℕ) (kind : TokenKind) → cond t (Wrong OpenString 0) (cond u (Wrong BadEscape j) (cond w (Taken Literal (k + 2)) (Wrong OpenString 0))) ≡ Taken kind n → k + 2 ≡ n
quoted_len true u w k j n kind is = absurd cc
quoted_len false true w k j n kind is = absurd cc
quoted_len false false true k j n kind is = cc
quoted_len false false false k j n kind is = absurd cc

quoted-stable : (q : ℕ) (r : List ℕ) (m n : ℕ) (kind : TokenKind) → m ≤ length r → quoted q r ≡ Taken kind n → n ≤ m → quoted q (take m r) ≡ Taken kind n
unfolding quoted
quoted-stable q r m n kind room is le =
    let rest = drop 1 r in let k = before_quote q false rest in
    let end : k + 2 ≡ n = quoted_len (not (nat_eq (get_or rest k 0) q)) (nat_lt (before_bad_escape false (take k rest)) k) (fits_between q (take k rest)) k _ n kind is in
    let len : length rest ≡ length r - 1 = length-drop 1 r in
    let same : before_quote q false (take (m - 1) rest) ≡ k = before_quote-take q false rest (m - 1) (omega arith) in
    let byte : get_or (take (m - 1) rest) k 0 ≡ get_or rest k 0 = get_or-take (m - 1) rest k 0 (omega arith) in
    let body : take k (take (m - 1) rest) ≡ take k rest = take-shorter k (m - 1) rest (omega arith) (omega arith) in
    rw (after_one r m (omega arith), same, byte, body) is

number_len : (t u : Bool) (k n : ℕ) (kind : TokenKind) → cond t (Wrong FloatLiteral 0) (cond u (Taken Literal k) (Wrong BadNumber 0)) ≡ Taken kind n → (k ≡ n) × (t ≡ false)
number_len true u k n kind is = absurd cc
number_len false true k n kind is = (cc, refl)
number_len false false k n kind is = absurd cc

or_false : (a b : Bool) → (a || b) ≡ false → b ≡ false
or_false true b h = absurd cc
or_false false b h = h

number-stable : (r : List ℕ) (m n : ℕ) (kind : TokenKind) → m ≤ length r → number r ≡ Taken kind n → n ≤ m → number (take m r) ≡ Taken kind n
unfolding number
number-stable r m n kind room is le =
    let k = run_len r in
    let end = number_len (nat_eq (get_or r k 0) 46 || is_float (take k r)) (is_integer (without_suffix (take k r))) k n kind is in
    let same : run_len (take m r) ≡ k = run_len-take r m (omega (arith, end.0)) in
    let body : take k (take m r) ≡ take k r = take-shorter k m r (omega (arith, end.0)) room in
    let test : (nat_eq (get_or (take m r) k 0) 46 || is_float (take k r)) ≡ false =
    kept_false (λ (y : ℕ). nat_eq y 46 || is_float (take k r)) (get_or r k 0) (get_or (take m r) k 0) (byte_of r m k room) (or_false (nat_eq (get_or r k 0) 46) (is_float (take k r)) end.1) end.1 in
    rw (same, body, test) (rw end.1 at is)

name_len_of : (t u : Bool) (k n : ℕ) (kind w : TokenKind) → cond t (Wrong NameTooLong 0) (cond u (Wrong BadChar 0) (Taken w k)) ≡ Taken kind n → k ≡ n
name_len_of true u k n kind w is = absurd cc
name_len_of false true k n kind w is = absurd cc
name_len_of false false k n kind w is = cc

name-stable : (r : List ℕ) (m n : ℕ) (kind : TokenKind) → 0 < m → m ≤ length r → name r ≡ Taken kind n → n ≤ m → name (take m r) ≡ Taken kind n
unfolding name
name-stable r m n kind some room is le =
    let k = name_len 0 r in
    let end : k ≡ n = name_len_of (nat_lt 255 k) (nat_eq k 1 && nat_eq (first r) 95) k n kind (word_kind (take k r)) is in
    let same : name_len 0 (take m r) ≡ k = name_len-take (length r) r m (omega arith) room (omega arith) in
    let here : first (take m r) ≡ first r = get_or-take m r 0 0 some in
    let body : take k (take m r) ≡ take k r = take-shorter k m r (omega arith) room in
    rw (same, here, body) is

-- no symbol of two or three bytes has 0 at its end
none_of_two : (a : ℕ) → is_symbol_2 a 0 ≡ false
none_of_two a = by_case (nat_eq a 0) refl (nat_eq a 45) where
  by_case : (t : Bool) → nat_eq a 0 ≡ t → (u : Bool) → ((false && takes_equals a) || (t && comes_twice a)) || (u && false) ≡ false
  by_case true is u = let zero' : a ≡ 0 = eqb-true a 0 is in rw zero' (and_false u)
  by_case false is u = and_false u

none_of_three : (a b : ℕ) → is_symbol_3 a b 0 ≡ false
none_of_three a b = by_tests (nat_eq a b) (nat_eq a 46) (nat_eq a 62) (nat_eq a 60) where
  by_tests : (t u v w : Bool) → (t && (((u && false) || (v && false)) || (w && false) || (v && false))) ≡ false
  by_tests t true true true = and_false t
  by_tests t true true false = and_false t
  by_tests t true false true = and_false t
  by_tests t true false false = and_false t
  by_tests t false true true = and_false t
  by_tests t false true false = and_false t
  by_tests t false false true = and_false t
  by_tests t false false false = and_false t

symbol_4-cut : (r : List ℕ) (m : ℕ) → 0 < m → m ≤ length r → is_symbol_4 (first r) (second r) (third r) (get_or r 3 0) ≡ false → is_symbol_4 (first (take m r)) (second (take m r)) (third (take m r)) (get_or (take m r) 3 0) ≡ false
symbol_4-cut r m some room fails = by_place (cases_Bool (nat_lt 3 m)) where
  by_place : ((nat_lt 3 m ≡ true) ⊎ (nat_lt 3 m ≡ false)) → is_symbol_4 (first (take m r)) (second (take m r)) (third (take m r)) (get_or (take m r) 3 0) ≡ false
  by_place (inl is) = let all : 3 < m = ltb-true 3 m is in
      rw (get_or-take m r 0 0 some, get_or-take m r 1 0 (omega arith), get_or-take m r 2 0 (omega arith), get_or-take m r 3 0 all) fails
  by_place (inr is) = rw (byte_lost r m 3 room (grind (arith, nat_tests, is))) (and_false _)

symbol_3-cut : (r : List ℕ) (m : ℕ) → 0 < m → m ≤ length r → is_symbol_3 (first r) (second r) (third r) ≡ false → is_symbol_3 (first (take m r)) (second (take m r)) (third (take m r)) ≡ false
symbol_3-cut r m some room fails = by_place (cases_Bool (nat_lt 2 m)) where
  by_place : ((nat_lt 2 m ≡ true) ⊎ (nat_lt 2 m ≡ false)) → is_symbol_3 (first (take m r)) (second (take m r)) (third (take m r)) ≡ false
  by_place (inl is) = let all : 2 < m = ltb-true 2 m is in rw (get_or-take m r 0 0 some, get_or-take m r 1 0 (omega arith), get_or-take m r 2 0 all) fails
  by_place (inr is) = rw (byte_lost r m 2 room (grind (arith, nat_tests, is))) (none_of_three (first (take m r)) (second (take m r)))

symbol_2-cut : (r : List ℕ) (m : ℕ) → 0 < m → m ≤ length r → is_symbol_2 (first r) (second r) ≡ false → is_symbol_2 (first (take m r)) (second (take m r)) ≡ false
symbol_2-cut r m some room fails = rw (get_or-take m r 0 0 some) (kept_false (λ (y : ℕ). is_symbol_2 (first r) y) (second r) (second (take m r)) (byte_of r m 1 room) (none_of_two (first r)) fails)

three_quotes-cut : (r : List ℕ) (m : ℕ) → 0 < m → m ≤ length r → (nat_eq (first r) 34 && nat_eq (second r) 34 && nat_eq (third r) 34) ≡ false → (nat_eq (first r) 34 && nat_eq (second (take m r)) 34 && nat_eq (third (take m r)) 34) ≡ false
three_quotes-cut r m some room fails = by_place (cases_Bool (nat_lt 2 m)) where
  by_place : ((nat_lt 2 m ≡ true) ⊎ (nat_lt 2 m ≡ false)) → (nat_eq (first r) 34 && nat_eq (second (take m r)) 34 && nat_eq (third (take m r)) 34) ≡ false
  by_place (inl is) = let all : 2 < m = ltb-true 2 m is in rw (get_or-take m r 1 0 (omega arith), get_or-take m r 2 0 all) fails
  by_place (inr is) = rw (byte_lost r m 2 room (grind (arith, nat_tests, is))) (and_false _)

pub starts_name-cut : (r : List ℕ) (m : ℕ) → 0 < m → m ≤ length r → starts_name r ≡ false → starts_name (take m r) ≡ false
unfolding starts_name
starts_name-cut r m some room fails = mapped_cut is_start r m some room fails

starts_name-kept : (r : List ℕ) (m n : ℕ) (kind : TokenKind) → 0 < m → m ≤ length r → starts_name r ≡ true → name r ≡ Taken kind n → n ≤ m → starts_name (take m r) ≡ true
unfolding starts_name name
starts_name-kept r m n kind some room starts is le =
    let k = name_len 0 r in
    let end : k ≡ n = name_len_of (nat_lt 255 k) (nat_eq k 1 && nat_eq (first r) 95) k n kind (word_kind (take k r)) is in
    let goes = name_len-goes_on r (starts-goes_on r starts) in
    rw (first_char-take r m some room (omega arith)) starts

line_len-two : (r : List ℕ) → first r ≡ 47 → second r ≡ 47 → 2 ≤ line_len r
line_len-two [] one two = absurd (omega arith)
line_len-two (b ∷ bs) one two =
    cond_both (is_line_end b) 0 (1 + line_len bs) (λ x. 2 ≤ x) (λ is. absurd (grind (arith, nat_tests, is, one)))
    (λ _. omega (arith, line_len-slash bs (get_or-there bs 0 (omega arith)) two))

line_comment-two : (r : List ℕ) (n : ℕ) (kind : TokenKind) → (nat_eq (first r) 47 && nat_eq (second r) 47) ≡ true → line_comment r ≡ Taken kind n → 2 ≤ n
unfolding line_comment
line_comment-two r n kind slashes is =
    let both = and_parts (nat_eq (first r) 47) (nat_eq (second r) 47) slashes in
    let len : line_len r ≡ n = cc in
    omega (arith, line_len-two r (eqb-true (first r) 47 both.0) (eqb-true (second r) 47 both.1))

block_comment-two : (r : List ℕ) (n : ℕ) (kind : TokenKind) → block_comment r ≡ Taken kind n → 2 ≤ n
unfolding block_comment
block_comment-two r n kind is = omega (arith, (block_len (nat_lt (before_close (drop opening r)) (length (drop opening r))) (before_close (drop opening r)) n kind is).1)

symbol-stable : (r : List ℕ) (m n : ℕ) (kind : TokenKind) → 0 < m → m ≤ length r → symbol r ≡ Taken kind n → n ≤ m → symbol (take m r) ≡ Taken kind n
unfolding symbol
symbol-stable r m n kind some room is le =
    let p = take m r in
    let a = first r in let b = second r in let c = third r in let d = get_or r 3 0 in
    let here : first p ≡ a = get_or-take m r 0 0 some in
    let kept = λ (i : ℕ) (more : i < m). get_or-take m r i 0 more in
    cond_agree (is_symbol_4 a b c d) (is_symbol_4 (first p) (second p) (third p) (get_or p 3 0)) (Taken Symbol 4) _ (Taken Symbol 4) _ (Taken kind n)
    (λ holds taken. let len : 4 ≡ n = cc in (rw (here, kept 1 (omega arith), kept 2 (omega arith), kept 3 (omega arith)) holds, taken))
    (λ fails4 more4. (
      symbol_4-cut r m some room fails4,
      cond_agree (is_symbol_3 a b c) (is_symbol_3 (first p) (second p) (third p)) (Taken Symbol 3) _ (Taken Symbol 3) _ (Taken kind n)
          (λ holds taken. let len : 3 ≡ n = cc in (rw (here, kept 1 (omega arith), kept 2 (omega arith)) holds, taken))
          (λ fails3 more3. (
            symbol_3-cut r m some room fails3,
            cond_agree (is_symbol_2 a b) (is_symbol_2 (first p) (second p)) (Taken Symbol 2) _ (Taken Symbol 2) _ (Taken kind n)
                (λ holds taken. let len : 2 ≡ n = cc in (rw (here, kept 1 (omega arith)) holds, taken))
                (λ fails2 more2. (symbol_2-cut r m some room fails2, rw here more2)) more3,
          )) more4,
    )) is

pub front-stable : (r : List ℕ) (m n : ℕ) (kind : TokenKind) → 0 < n → m ≤ length r → front r ≡ Taken kind n → n ≤ m → front (take m r) ≡ Taken kind n
unfolding front
front-stable r m n kind high room is le =
    let p = take m r in
    let some : 0 < m = omega arith in
    let a = first r in let b = second r in
    let here : first p ≡ a = get_or-take m r 0 0 some in
    rw here (cond_agree (is_space a) (is_space a) Space _ Space _ (Taken kind n) (λ holds taken. absurd cc)
    (λ no1 more. (
      no1,
      cond_agree (nat_eq a 47 && nat_eq b 47) (nat_eq a 47 && nat_eq (second p) 47) (line_comment r) _ (line_comment p) _ (Taken kind n)
          (λ holds taken. let two = line_comment-two r n kind holds taken in (rw (get_or-take m r 1 0 (omega arith)) holds, line_comment-stable r m n kind taken le))
          (λ no2 more2. (
            kept_false (λ (y : ℕ). nat_eq a 47 && nat_eq y 47) b (second p) (byte_of r m 1 room) (and_false (nat_eq a 47)) no2,
            cond_agree (nat_eq a 47 && nat_eq b 42) (nat_eq a 47 && nat_eq (second p) 42) (block_comment r) _ (block_comment p) _ (Taken kind n)
                (λ holds taken. let two : 2 ≤ n = block_comment-two r n kind taken in (rw (get_or-take m r 1 0 (omega arith)) holds, block_comment-stable r m n kind room taken le))
                (λ no3 more3. (
                  kept_false (λ (y : ℕ). nat_eq a 47 && nat_eq y 42) b (second p) (byte_of r m 1 room) (and_false (nat_eq a 47)) no3,
                  cond_agree (nat_eq a 34 && nat_eq b 34 && nat_eq (third r) 34) (nat_eq a 34 && nat_eq (second p) 34 && nat_eq (third p) 34) (Wrong TextBlock 0) _ (Wrong TextBlock 0) _ (Taken kind n)
                      (λ holds taken. absurd cc)
                      (λ no4 more4. (
                        three_quotes-cut r m some room no4,
                        cond_agree (nat_eq a 34 || nat_eq a 39) (nat_eq a 34 || nat_eq a 39) (quoted a r) _ (quoted a p) _ (Taken kind n)
                            (λ holds taken. (holds, quoted-stable a r m n kind room taken le))
                            (λ no5 more5. (
                              no5,
                              cond_agree (is_digit a) (is_digit a) (number r) _ (number p) _ (Taken kind n)
                                  (λ holds taken. (holds, number-stable r m n kind room taken le))
                                  (λ no6 more6. (
                                    no6,
                                    cond_agree (nat_eq a 46 && is_digit b) (nat_eq a 46 && is_digit (second p)) (Wrong FloatLiteral 0) _ (Wrong FloatLiteral 0) _ (Taken kind n)
                                        (λ holds taken. absurd cc)
                                        (λ no7 more7. (
                                          kept_false (λ (y : ℕ). nat_eq a 46 && is_digit y) b (second p) (byte_of r m 1 room) (and_false (nat_eq a 46)) no7,
                                          cond_agree (starts_name r) (starts_name p) (name r) (symbol r) (name p) (symbol p) (Taken kind n)
                                              (λ holds taken. (starts_name-kept r m n kind some room holds taken le, name-stable r m n kind some room taken le))
                                              (λ no8 taken. (starts_name-cut r m some room no8, symbol-stable r m n kind some room taken le)) more7,
                                        )) more6,
                                  )) more5,
                            )) more4,
                      )) more3,
                )) more2,
          )) more,
    )) is)

-- the law
pub front-longest : (r : List ℕ) → 0 < length r → TakesLongest r (front r)
front-longest r some = by_front (front r) refl (front-within r some) where
  by_front : (f : Front) → front r ≡ f → IsWithin r f → TakesLongest r f
  by_front Space is within = tt
  by_front (Wrong flaw at) is within = tt
  by_front (Taken kind n) is within =
      let len : length (take n r) ≡ n = length-take-le n r within.1 in
      record {
        token = IsToken-whole kind (take n r) (front-stable r n n kind within.0 within.1 is (omega arith) ∙ ap (λ (x : ℕ). Taken kind x) (sym len));
        no_longer = λ m other more room token.
            let len' : length (take m r) ≡ m = length-take-le m r room in
            let whole : front (take m r) ≡ Taken other (length (take m r)) = IsWhole-token other (take m r) token in
            let shorter : front (take m r) ≡ Taken kind n = front-stable r m n kind within.0 room is (omega arith) in
            let same : n ≡ length (take m r) = cc in
            omega arith;
      }
