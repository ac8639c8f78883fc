-- Where tokens end.
use Rattle.std.proofs.Common.{◌≡◌, ◌⊎◌, inl, inr, ℕ, zero, suc, ◌+◌, ◌-◌, ◌<◌, ◌≤◌, Bool, true, false, ◌&&◌, ◌||◌, List, [], ◌∷◌, take, drop, length, get_or, refl, sym, ◌∙◌, arith, subst, nat_eq, Option, None, Some}
use Rattle.std.specs.Prelude.{not, nat_lt, codes}
use Rattle.std.specs.List.{list_any, list_all}
use Rattle.std.specs.Option.{option_map_or}
use Rattle.unicode_ident.specs.Ident.{is_xid_continue}
use Rattle.std.specs.Str.{IsUtf8}
use Rattle.std.proofs.lemmas.Bool.{and_parts, or_cases, cases_Bool, cond_both, ltb-true, eqb-true, not-false, or_left}
use Rattle.std.proofs.lemmas.Bool.Decides.{nat_tests}
use Rattle.std.proofs.lemmas.Grind.{common_steps, get_or_after_one}
use Rattle.std.proofs.lemmas.List.{length-take-le, get_or-take, get_or-drop, length-drop}
use Rattle.std.proofs.Math.Seq.{take-add, take-append_seam}
use Rattle.std.proofs.lemmas.Str.{IsUtf8-take, IsUtf8-append, IsUtf8-nil, IsCharBoundary-after_ascii, IsCharBoundary-before_ascii}
use Rattle.mol_base.specs.Lexical.Characters.{is_space, is_line_end, is_digit, first, second, third, width, first_char, pairs_next}
use Rattle.mol_base.specs.Lexical.Comments.{line_len, before_close, opening, line_comment, block_comment}
use Rattle.mol_base.specs.Lexical.Names.{name_len, name, starts_name, goes_on, is_start, is_part}
use Rattle.mol_base.specs.Lexical.Numbers.{run_len, is_run_byte, number, is_float, is_integer, without_suffix}
use Rattle.mol_base.specs.Lexical.Quoted.{before_quote, before_bad_escape, quoted, fits_between}
use Rattle.mol_base.specs.Lexical.Symbols.{symbol, is_symbol_1, is_symbol_2, is_symbol_3, is_symbol_4, takes_equals, comes_twice}
use Rattle.mol_base.specs.Lexical.Front.{front, IsWithin, EndsText}
use Rattle.mol_base.specs.declared.token_kind.TokenKind.TheVariants.{Comment, Literal, Symbol}
use Rattle.mol_base.specs.declared.lexical.front.Front.TheVariants.{Space, Taken, Wrong}
use Rattle.mol_base.specs.declared.lexical.front.Flaw.TheVariants.{BadChar, OpenString, OpenComment, BadEscape, FloatLiteral, BadNumber, TextBlock, NameTooLong}
use Rattle.mol_base.proofs.Naming.{goes_on-whole, name_len-goes_on, name_len-stops}

-- a front of a front
pub take-shorter : (n m : ℕ) (r : List ℕ) → n ≤ m → m ≤ length r → take n (take m r) ≡ take n r
take-shorter n m r le room =
    let sum : m ≡ n + (m - n) = omega arith in
    let len : length (take n r) ≡ n = length-take-le n r (omega arith) in
    let front = take-append_seam (take n r) (take (m - n) (drop n r)) in
    rw (sum, take-add n (m - n) r) (rw len at front)

-- bytes whose last one is ASCII end where a character ends
pub EndsText-ascii : (r : List ℕ) (k : ℕ) → k < length r → get_or r k 0 < 128 → EndsText r (k + 1)
EndsText-ascii r k inside ascii m le room text =
    let len : length (take m r) ≡ m = length-take-le m r room in
    let here : get_or (take m r) k 0 ≡ get_or r k 0 = get_or-take m r k 0 (omega arith) in
    let boundary = IsCharBoundary-after_ascii (take m r) k text (omega arith) (omega arith) in
    rw (take-shorter (k + 1) m r le room) at (IsUtf8-take (take m r) (k + 1) text boundary)

-- so do bytes that an ASCII byte follows, and all of the bytes
pub EndsText-before_ascii : (r : List ℕ) (n : ℕ) → n ≤ length r → (n < length r → get_or r n 0 < 128) → EndsText r n
EndsText-before_ascii r n room ascii m le inside text = by_case (cases_Bool (nat_lt n m)) where
  by_case : ((nat_lt n m ≡ true) ⊎ (nat_lt n m ≡ false)) → IsUtf8 (take n r)
  by_case (inl lt) =
      let less : n < m = ltb-true n m lt in
      let len : length (take m r) ≡ m = length-take-le m r inside in
      let here : get_or (take m r) n 0 ≡ get_or r n 0 = get_or-take m r n 0 less in
      let low : get_or r n 0 < 128 = ascii (omega arith) in
      let boundary = IsCharBoundary-before_ascii (take m r) n (omega arith) (omega arith) in
      rw (take-shorter n m r le inside) at (IsUtf8-take (take m r) n text boundary)
  by_case (inr ge) =
      let same : m ≡ n = grind (arith, nat_tests, ge) in
      let P : ℕ → Type 0 = λ x. IsUtf8 (take x r) in
      subst P same text

line_len-le : (r : List ℕ) → line_len r ≤ length r
line_len-le [] = omega arith
line_len-le (b ∷ bs) = cond_both (is_line_end b) 0 (1 + line_len bs) (λ x. x ≤ length (b ∷ bs)) (λ _. omega arith) (λ _. omega (arith, line_len-le bs))

pub get_or-past : (b : ℕ) (bs : List ℕ) (n : ℕ) → get_or (b ∷ bs) (1 + n) 0 ≡ get_or bs n 0
get_or-past b bs n = let e : 1 + n ≡ suc n = omega arith in rw e

line_len-at : (r : List ℕ) → line_len r < length r → is_line_end (get_or r (line_len r) 0) ≡ true
line_len-at [] h = absurd (omega arith)
line_len-at (b ∷ bs) h =
    cond_both (is_line_end b) 0 (1 + line_len bs) (λ x. x < length (b ∷ bs) → is_line_end (get_or (b ∷ bs) x 0) ≡ true) (λ is _. is)
    (λ _ inside. rw (get_or-past b bs (line_len bs)) (line_len-at bs (omega arith))) h

line_end-low : (b : ℕ) → is_line_end b ≡ true → b < 128
line_end-low b h = grind (arith, nat_tests, h)

pub line_len-slash : (r : List ℕ) → 0 < length r → first r ≡ 47 → 0 < line_len r
line_len-slash [] some slash = absurd (omega arith)
line_len-slash (b ∷ bs) some slash = cond_both (is_line_end b) 0 (1 + line_len bs) (λ x. 0 < x) (λ is. absurd (grind (arith, nat_tests, is, slash))) (λ _. omega arith)

line_comment-within : (r : List ℕ) → 0 < length r → first r ≡ 47 → IsWithin r (line_comment r)
unfolding line_comment
line_comment-within r some slash =
    (line_len-slash r some slash, line_len-le r, EndsText-before_ascii r (line_len r) (line_len-le r) (λ inside. line_end-low _ (line_len-at r inside)))

first-there : (bs : List ℕ) → 0 < first bs → 0 < length bs
first-there [] h = absurd (omega arith)
first-there (b ∷ bs) h = omega arith

pub before_close-at : (r : List ℕ) → before_close r < length r → (get_or r (1 + before_close r) 0 ≡ 47) × (1 + before_close r < length r)
before_close-at [] h = absurd (omega arith)
before_close-at (b ∷ bs) h =
    cond_both (nat_eq b 42 && nat_eq (first bs) 47) 0 (1 + before_close bs) (λ x. x < length (b ∷ bs) → (get_or (b ∷ bs) (1 + x) 0 ≡ 47) × (1 + x < length (b ∷ bs)))
    (λ is _. let slash : first bs ≡ 47 = eqb-true (first bs) 47 (and_parts (nat_eq b 42) (nat_eq (first bs) 47) is).1 in
    let there : 0 < length bs = first-there bs (omega arith) in (rw (get_or-past b bs 0) slash, omega arith))
    (λ _ inside. let rest = before_close-at bs (omega arith) in (rw (get_or-past b bs (1 + before_close bs)) rest.0, omega (arith, rest.1))) h

get_or-opening : (r : List ℕ) (n : ℕ) → get_or (drop opening r) n 0 ≡ get_or r (opening + n) 0
get_or-opening r n = get_or-drop opening r n 0

block_comment-within : (r : List ℕ) → 0 < length r → IsWithin r (block_comment r)
unfolding block_comment
block_comment-within r some =
    let body = drop opening r in
    let len : length body ≡ length r - opening = length-drop opening r in
    cond_both (nat_lt (before_close body) (length body)) (Taken Comment (opening + before_close body + 2)) (Wrong OpenComment 0) (IsWithin r)
    (λ is. let inside = before_close-at body (ltb-true _ _ is) in
    let at : opening + before_close body + 1 ≡ opening + (1 + before_close body) = omega arith in
    let end : opening + before_close body + 2 ≡ opening + before_close body + 1 + 1 = omega arith in
    let slash : get_or r (opening + before_close body + 1) 0 ≡ 47 = rw (at, ← get_or-opening r (1 + before_close body)) inside.0 in
    (omega arith, omega (arith, inside.1), let P : ℕ → Type 0 = EndsText r in subst P (sym end) (EndsText-ascii r (opening + before_close body + 1) (omega (arith, inside.1)) (omega arith))))
    (λ _. omega arith)

before_quote-le : (q : ℕ) (e : Bool) (r : List ℕ) → before_quote q e r ≤ length r
before_quote-le q e [] = omega arith
before_quote-le q e (b ∷ bs) = cond_both (is_line_end b || (not e && nat_eq b q)) 0 (1 + before_quote q (pairs_next e b) bs) (λ x. x ≤ length (b ∷ bs)) (λ _. omega arith)
    (λ _. omega (arith, before_quote-le q (pairs_next e b) bs))

pub get_or-there : (r : List ℕ) (n : ℕ) → 0 < get_or r n 0 → n < length r
get_or-there [] n h = absurd (grind (arith, common_steps))
get_or-there (b ∷ bs) zero h = omega arith
get_or-there (b ∷ bs) (suc n) h = omega (arith, get_or-there bs n h)

quoted-within : (q : ℕ) (r : List ℕ) → 0 < length r → 0 < q → q < 128 → IsWithin r (quoted q r)
unfolding quoted
quoted-within q r some high low =
    let rest = drop 1 r in let n = before_quote q false rest in let body = take n rest in let k = before_bad_escape false body in
    let len : length rest + 1 ≡ length r = grind (arith, common_steps) in
    cond_both (not (nat_eq (get_or rest n 0) q)) (Wrong OpenString 0) _ (IsWithin r) (λ _. some)
    (λ closed.
    let quote : get_or rest n 0 ≡ q = eqb-true _ _ (not-false _ closed) in
    let inside : n < length rest = get_or-there rest n (omega arith) in
    cond_both (nat_lt k n) (Wrong BadEscape (1 + k)) _ (IsWithin r) (λ is. omega (arith, ltb-true k n is))
    (λ _. cond_both (fits_between q body) (Taken Literal (n + 2)) (Wrong OpenString 0) (IsWithin r)
    (λ _. let end : n + 2 ≡ 1 + n + 1 = omega arith in
    let last : get_or r (1 + n) 0 ≡ q = sym (get_or_after_one r n 0) ∙ quote in
    (omega arith, omega arith, let P : ℕ → Type 0 = EndsText r in subst P (sym end) (EndsText-ascii r (1 + n) (omega arith) (omega arith))))
    (λ _. some)))

run_len-le : (r : List ℕ) → run_len r ≤ length r
run_len-le [] = omega arith
run_len-le (b ∷ bs) = cond_both (is_run_byte b) (1 + run_len bs) 0 (λ x. x ≤ length (b ∷ bs)) (λ _. omega (arith, run_len-le bs)) (λ _. omega arith)

-- each byte of a run
run_len-each : (r : List ℕ) (k : ℕ) → k < run_len r → is_run_byte (get_or r k 0) ≡ true
run_len-each [] k h = absurd (omega arith)
run_len-each (b ∷ bs) zero h = cond_both (is_run_byte b) (1 + run_len bs) 0 (λ x. 0 < x → is_run_byte b ≡ true) (λ is _. is) (λ _ never. absurd (omega arith)) h
run_len-each (b ∷ bs) (suc k) h = cond_both (is_run_byte b) (1 + run_len bs) 0 (λ x. suc k < x → is_run_byte (get_or bs k 0) ≡ true) (λ is more. run_len-each bs k (omega arith)) (λ _ never. absurd (omega arith)) h

run_byte-low : (b : ℕ) → is_run_byte b ≡ true → b < 128
run_byte-low b h = grind (arith, nat_tests, h)

run_len-some : (r : List ℕ) → 0 < length r → is_digit (first r) ≡ true → 0 < run_len r
run_len-some [] some digit = absurd (omega arith)
run_len-some (b ∷ bs) some digit = cond_both (is_run_byte b) (1 + run_len bs) 0 (λ x. 0 < x) (λ _. omega arith) (λ not. absurd (grind (arith, nat_tests, not, digit)))

number-within : (r : List ℕ) → 0 < length r → is_digit (first r) ≡ true → IsWithin r (number r)
unfolding number
number-within r some digit =
    let n = run_len r in
    let high : 0 < n = run_len-some r some digit in
    let end : n ≡ n - 1 + 1 = omega arith in
    cond_both (nat_eq (get_or r n 0) 46 || is_float (take n r)) (Wrong FloatLiteral 0) _ (IsWithin r) (λ _. some)
    (λ _. cond_both (is_integer (without_suffix (take n r))) (Taken Literal n) (Wrong BadNumber 0) (IsWithin r)
    (λ _. (high, run_len-le r, let P : ℕ → Type 0 = EndsText r in subst P (sym end) (EndsText-ascii r (n - 1) (omega (arith, run_len-le r)) (run_byte-low _ (run_len-each r (n - 1) (omega arith))))))
    (λ _. some))

list_any-below : (a n : ℕ) (xs : List ℕ) → list_all (λ x. nat_lt x n) xs ≡ true → list_any (λ x. nat_eq x a) xs ≡ true → a < n
list_any-below a n [] low here = absurd cc
list_any-below a n (x ∷ xs) low here =
    let parts = and_parts (nat_lt x n) (list_all (λ y. nat_lt y n) xs) low in
    elim (or_cases (nat_eq x a) (list_any (λ y. nat_eq y a) xs) here) [ inl is ↦ omega (arith, ltb-true x n parts.0, eqb-true x a is) | inr more ↦ list_any-below a n xs parts.1 more ]

list_any-above : (a n : ℕ) (xs : List ℕ) → list_all (λ x. nat_lt n x) xs ≡ true → list_any (λ x. nat_eq x a) xs ≡ true → n < a
list_any-above a n [] high here = absurd cc
list_any-above a n (x ∷ xs) high here =
    let parts = and_parts (nat_lt n x) (list_all (λ y. nat_lt n y) xs) high in
    elim (or_cases (nat_eq x a) (list_any (λ y. nat_eq y a) xs) here) [ inl is ↦ omega (arith, ltb-true n x parts.0, eqb-true x a is) | inr more ↦ list_any-above a n xs parts.1 more ]

symbol_1-low : (a : ℕ) → is_symbol_1 a ≡ true → a < 128
symbol_1-low a h = list_any-below a 128 (codes "(){}[];,.@=><!~?:+-*/&|^%") refl h

symbol_2-low : (a b : ℕ) → is_symbol_2 a b ≡ true → (0 < b) × (b < 128)
symbol_2-low a b h =
    elim (or_cases ((nat_eq b 61 && takes_equals a) || (nat_eq a b && comes_twice a)) (nat_eq a 45 && nat_eq b 62) h) [
      | inl either ↦ elim (or_cases (nat_eq b 61 && takes_equals a) (nat_eq a b && comes_twice a) either) [
        | inl equals ↦ grind (arith, nat_tests, (and_parts (nat_eq b 61) (takes_equals a) equals).0)
        | inr twice ↦
            let parts = and_parts (nat_eq a b) (comes_twice a) twice in
            let same : a ≡ b = eqb-true a b parts.0 in
            let low : a < 128 = list_any-below a 128 (codes ":&|+-<>") refl parts.1 in
            let high : 0 < a = list_any-above a 0 (codes ":&|+-<>") refl parts.1 in
            (omega arith, omega arith)
      ]
      | inr arrow ↦ grind (arith, nat_tests, (and_parts (nat_eq a 45) (nat_eq b 62) arrow).1)
    ]

symbol_3-low : (a b c : ℕ) → is_symbol_3 a b c ≡ true → (0 < c) × (c < 128)
symbol_3-low a b c h = grind (arith, nat_tests, h)

symbol_4-low : (a b c d : ℕ) → is_symbol_4 a b c d ≡ true → (0 < d) × (d < 128)
symbol_4-low a b c d h = grind (arith, nat_tests, h)

-- a symbol that ends with this byte
symbol_to : (r : List ℕ) (k : ℕ) → (0 < get_or r k 0) × (get_or r k 0 < 128) → IsWithin r (Taken Symbol (k + 1))
symbol_to r k byte = let inside : k < length r = get_or-there r k byte.0 in (omega arith, omega arith, EndsText-ascii r k inside byte.1)

symbol-within : (r : List ℕ) → 0 < length r → IsWithin r (symbol r)
unfolding symbol
symbol-within r some =
    let a = first r in let b = second r in let c = third r in let d = get_or r 3 0 in
    cond_both (is_symbol_4 a b c d) (Taken Symbol 4) _ (IsWithin r) (λ is. symbol_to r 3 (symbol_4-low a b c d is))
    (λ _. cond_both (is_symbol_3 a b c) (Taken Symbol 3) _ (IsWithin r) (λ is. symbol_to r 2 (symbol_3-low a b c is))
    (λ _. cond_both (is_symbol_2 a b) (Taken Symbol 2) _ (IsWithin r) (λ is. symbol_to r 1 (symbol_2-low a b is))
    (λ _. cond_both (is_symbol_1 a) (Taken Symbol 1) (Wrong BadChar 0) (IsWithin r) (λ is. (omega arith, some, EndsText-ascii r 0 some (symbol_1-low a is)))
    (λ _. some))))

-- the characters of a name are whole: its bytes are UTF-8, however many there are at most
pub name_len-text : (k : ℕ) (r : List ℕ) → length r ≤ k → (name_len 0 r ≤ length r) × IsUtf8 (take (name_len 0 r) r)
name_len-text zero [] room = (omega arith, IsUtf8-nil)
name_len-text zero (b ∷ bs) room = absurd (omega arith)
name_len-text (suc k) r room = by_case (goes_on r) refl (λ less. name_len-text k (drop (width (first r)) r) less) where
  by_case : (t : Bool) → goes_on r ≡ t → (length (drop (width (first r)) r) ≤ k → (name_len 0 (drop (width (first r)) r) ≤ length (drop (width (first r)) r)) × IsUtf8 (take (name_len 0 (drop (width (first r)) r)) (drop (width (first r)) r)))
      → (name_len 0 r ≤ length r) × IsUtf8 (take (name_len 0 r) r)
  by_case false is further = rw (name_len-stops r is) (omega arith, IsUtf8-nil)
  by_case true is further =
      let w = width (first r) in
      let whole = goes_on-whole r is in
      let len : length (drop w r) ≡ length r - w = length-drop w r in
      let rest = further (omega arith) in
      rw (name_len-goes_on r is) (omega (arith, whole.0, rest.0), rw (take-add w (name_len 0 (drop w r)) r) (IsUtf8-append _ _ whole.1 rest.1))

pub starts-goes_on : (r : List ℕ) → starts_name r ≡ true → goes_on r ≡ true
unfolding starts_name goes_on is_part
starts-goes_on r h = by_char (first_char r) h where
  by_char : (o : Option ℕ) → option_map_or is_start o false ≡ true → option_map_or is_part o false ≡ true
  by_char None h' = cc
  by_char (Some c) h' = or_left (is_start c) (is_xid_continue c) h'

name-within : (r : List ℕ) → 0 < length r → starts_name r ≡ true → IsWithin r (name r)
unfolding name
name-within r some starts =
    let n = name_len 0 r in
    let text = name_len-text (length r) r (omega arith) in
    cond_both (nat_lt 255 n) (Wrong NameTooLong 0) _ (IsWithin r) (λ _. some)
    (λ _. cond_both (nat_eq n 1 && nat_eq (first r) 95) (Wrong BadChar 0) _ (IsWithin r) (λ _. some)
    (λ _. (omega (arith, name_len-goes_on r (starts-goes_on r starts)), text.0, λ m le room held. text.1)))

pub front-within : (r : List ℕ) → 0 < length r → IsWithin r (front r)
unfolding front
front-within r some =
    let a = first r in let b = second r in
    cond_both (is_space a) Space _ (IsWithin r) (λ is. is)
    (λ _. cond_both (nat_eq a 47 && nat_eq b 47) (line_comment r) _ (IsWithin r) (λ is. line_comment-within r some (eqb-true a 47 (and_parts (nat_eq a 47) (nat_eq b 47) is).0))
    (λ _. cond_both (nat_eq a 47 && nat_eq b 42) (block_comment r) _ (IsWithin r)
    (λ _. block_comment-within r some)
    (λ _. cond_both (nat_eq a 34 && nat_eq b 34 && nat_eq (third r) 34) (Wrong TextBlock 0) _ (IsWithin r) (λ _. some)
    (λ _. cond_both (nat_eq a 34 || nat_eq a 39) (quoted a r) _ (IsWithin r) (λ is. quoted-within a r some (grind (arith, nat_tests, is)) (grind (arith, nat_tests, is)))
    (λ _. cond_both (is_digit a) (number r) _ (IsWithin r) (λ is. number-within r some is)
    (λ _. cond_both (nat_eq a 46 && is_digit b) (Wrong FloatLiteral 0) _ (IsWithin r) (λ _. some)
    (λ _. cond_both (starts_name r) (name r) (symbol r) (IsWithin r) (λ is. name-within r some is) (λ _. symbol-within r some))))))))
