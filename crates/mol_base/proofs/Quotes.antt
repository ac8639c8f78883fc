-- Strings and characters by their form, and the scan for the closing quote.
use Rattle.std.proofs.Common.{◌≡◌, ◌⊎◌, inl, inr, ℕ, suc, ◌+◌, ◌<◌, ◌≤◌, Bool, true, false, ◌&&◌, ◌||◌, List, [], ◌∷◌, ◌++◌, take, drop, length, get_or, Option, refl, sym, ◌∙◌, ap, subst, arith, cond, nat_eq, length-append, add-zero}
use Rattle.std.specs.Prelude.{All, is_some, not, nat_lt, nat_le, codes, Contains}
use Rattle.std.specs.List.{list_any, concat}
use Rattle.std.specs.Int.{is_in_range}
use Rattle.std.specs.Str.{IsUtf8, chars}
use lib.Utf8.{encode, encodes, scalar, scalars}
use Rattle.std.proofs.Math.Seq.{take-append_seam, get_or-append_seam}
use Rattle.std.proofs.lemmas.Bool.{true≢false, and_parts, and_from, or_parts, or_cases, or_left, or_right, cond_both, eqb-true, eq-eqb, ltb-false, le-ltb, le-leb, leb-true, cases_lt, cases_Bool, not-true, not-false, agree_below_at}
use Rattle.std.proofs.lemmas.Bool.Decides.{nat_tests}
use Rattle.std.proofs.lemmas.List.{append-nil, length-take-le, length-drop, get_or-drop, take-append-drop}
use Rattle.std.proofs.lemmas.List.Elements.{All-nil, All-cons, All-head, All-tail}
use Rattle.std.proofs.lemmas.List.Folds.{list_any_at}
use Rattle.std.proofs.lemmas.Str.{IsUtf8-from_ascii, chars-IsAscii, IsUtf8-encode, encodes-chars, scalars-chars}
use Rattle.std.proofs.lemmas.Str.Ascii.{IsAscii-cons, IsAscii-nil}
use Rattle.mol_base.specs.Lexical.Characters.{is_line_end, first, second, third, width, first_char, pairs_next}
use Rattle.mol_base.specs.Lexical.Numbers.{is_octal}
use Rattle.mol_base.specs.Lexical.Quoted.{before_quote, is_escape, before_bad_escape, is_one_char, is_one_escape, fits_between, quoted}
use Rattle.mol_base.specs.Lexical.Forms.Quoted.{IsEscape, letter, octal_1, octal_2, octal_3, is_plain, IsPiece, byte, escape, IsString, IsOneCharacter, character, ill_formed, escape as character_escape, IsCharacter}
use Rattle.mol_base.specs.Lexical.Front.{front, IsWhole}
use Rattle.mol_base.specs.declared.token_kind.TokenKind.{TokenKind}
use Rattle.mol_base.specs.declared.token_kind.TokenKind.TheVariants.{Literal}
use Rattle.mol_base.specs.declared.lexical.front.Front.TheVariants.{Taken, Wrong}
use Rattle.mol_base.specs.declared.lexical.front.Flaw.TheVariants.{OpenString, BadEscape}
use Rattle.mol_base.proofs.Encoded.{Shape, of1, of2, of3, of4, shape, chars-encode, width-encode, first_char-encode, first_char-spelled}
use Rattle.mol_base.proofs.Members.{all_bytes, Contains-byte, bytes_1, bytes_2, bytes_3, bytes_4}

-- what stands between quotes: plain bytes, and backslashes each with a byte that may follow it
data Body (quote : ℕ) : List ℕ → Type 0 where
  end : Body quote []
  single : (b : ℕ) (rest : List ℕ) → is_plain quote b ≡ true → Body quote rest → Body quote (b ∷ rest)
  pair : (c : ℕ) (rest : List ℕ) → is_escape c ≡ true → Body quote rest → Body quote (92 ∷ c ∷ rest)

-- a quote is no backslash, no line end and no octal digit
record IsQuote (quote : ℕ) : Type 0 where
  no_backslash : nat_eq 92 quote ≡ false
  octal : (b : ℕ) → is_octal b ≡ true → is_plain quote b ≡ true

IsQuote-double : IsQuote 34
IsQuote-double = record { no_backslash = refl; octal = λ b h. grind (arith, nat_tests, h) }

IsQuote-single : IsQuote 39
IsQuote-single = record { no_backslash = refl; octal = λ b h. grind (arith, nat_tests, h) }

-- the parts of a plain byte
plain_parts : (quote b : ℕ) → is_plain quote b ≡ true → (nat_eq b quote ≡ false) × (nat_eq b 92 ≡ false) × (is_line_end b ≡ false)
plain_parts quote b h =
    let p1 = or_parts (nat_eq b quote || nat_eq b 92) (is_line_end b) (not-true _ h) in
    let p2 = or_parts (nat_eq b quote) (nat_eq b 92) p1.0 in
    (p2.0, p2.1, p1.1)

plain_from : (quote b : ℕ) → nat_eq b quote ≡ false → nat_eq b 92 ≡ false → is_line_end b ≡ false → is_plain quote b ≡ true
plain_from quote b one two three = rw (one, two, three) refl

escape-line_end : (c : ℕ) → is_escape c ≡ true → is_line_end c ≡ false
escape-line_end c h = not-true _ (all_bytes (λ x. not (is_line_end x)) (codes "btnfr\"'\\01234567") c refl h)

-- one step of each scan
before_quote-plain : (quote b : ℕ) (r : List ℕ) → is_plain quote b ≡ true → before_quote quote false (b ∷ r) ≡ suc (before_quote quote false r)
before_quote-plain quote b r h = let parts = plain_parts quote b h in rw (parts.2, parts.0, parts.1) (omega arith)

before_quote-pair : (quote c : ℕ) (r : List ℕ) → IsQuote quote → is_line_end c ≡ false → before_quote quote false (92 ∷ c ∷ r) ≡ suc (suc (before_quote quote false r))
before_quote-pair quote c r is h = rw (is.no_backslash, h) (omega arith)

before_bad_escape-plain : (b : ℕ) (r : List ℕ) → nat_eq b 92 ≡ false → before_bad_escape false (b ∷ r) ≡ suc (before_bad_escape false r)
before_bad_escape-plain b r h = rw h (omega arith)

before_bad_escape-pair : (c : ℕ) (r : List ℕ) → is_escape c ≡ true → before_bad_escape false (92 ∷ c ∷ r) ≡ suc (suc (before_bad_escape false r))
before_bad_escape-pair c r h = rw h (omega arith)

-- both scans go over such bytes to the quote after them
before_quote-end : (quote : ℕ) → before_quote quote false (quote ∷ []) ≡ 0
before_quote-end quote = rw (or_right (is_line_end quote) (nat_eq quote quote) (eq-eqb quote quote refl)) refl

before_quote-Body : (quote : ℕ) {r : List ℕ} → IsQuote quote → Body quote r → before_quote quote false (r ++ quote ∷ []) ≡ length r
before_quote-Body quote is end = before_quote-end quote
before_quote-Body quote is (single b rest h body) = before_quote-plain quote b (rest ++ quote ∷ []) h ∙ ap suc (before_quote-Body quote is body)
before_quote-Body quote is (pair c rest h body) = before_quote-pair quote c (rest ++ quote ∷ []) is (escape-line_end c h) ∙ ap (λ (n : ℕ). suc (suc n)) (before_quote-Body quote is body)

before_bad_escape-Body : (quote : ℕ) {r : List ℕ} → Body quote r → before_bad_escape false r ≡ length r
before_bad_escape-Body quote end = refl
before_bad_escape-Body quote (single b rest h body) = before_bad_escape-plain b rest (plain_parts quote b h).1 ∙ ap suc (before_bad_escape-Body quote body)
before_bad_escape-Body quote (pair c rest h body) = before_bad_escape-pair c rest h ∙ ap (λ (n : ℕ). suc (suc n)) (before_bad_escape-Body quote body)

-- an octal digit may follow a backslash, and so may each of the letters
escape-octal : (c : ℕ) → is_octal c ≡ true → is_escape c ≡ true
escape-octal c h = by_table (is_octal c) (is_escape c) h (agree_below_at (λ x. is_octal x && not (is_escape x)) (λ x. false) 56 c refl (below c h)) where
  below : (x : ℕ) → is_octal x ≡ true → x < 56
  below x h' = grind (arith, nat_tests, h')

  by_table : (x y : Bool) → x ≡ true → (x && not y) ≡ false → y ≡ true
  by_table true true is both = refl
  by_table true false is both = absurd cc
  by_table false y is both = absurd cc

escape-letter : (c : ℕ) → Contains (codes "btnfr\"'\\") c → is_escape c ≡ true
escape-letter c is =
    all_bytes is_escape (codes "btnfr\"'\\") c refl (list_any_at (λ x. nat_eq x c) (codes "btnfr\"'\\") is.0 c is.1 (eq-eqb (get_or (codes "btnfr\"'\\") is.0 c) c is.2))

octal-high : (c : ℕ) → is_in_range 48 51 c ≡ true → is_octal c ≡ true
octal-high c h = grind (arith, nat_tests, h)

-- an escape, and what follows it
Body-escape : (quote : ℕ) (e r : List ℕ) → IsQuote quote → IsEscape e → Body quote r → Body quote (e ++ r)
Body-escape quote e r is (letter c spelled among) body = let P : List ℕ → Type 0 = λ xs. Body quote (xs ++ r) in subst P (sym spelled) (pair c r (escape-letter c among) body)
Body-escape quote e r is (octal_1 a spelled one) body = let P : List ℕ → Type 0 = λ xs. Body quote (xs ++ r) in subst P (sym spelled) (pair a r (escape-octal a one) body)
Body-escape quote e r is (octal_2 a b spelled one two) body =
    let P : List ℕ → Type 0 = λ xs. Body quote (xs ++ r) in subst P (sym spelled) (pair a (b ∷ r) (escape-octal a one) (single b r (is.octal b two) body))
Body-escape quote e r is (octal_3 a b c spelled one two three) body =
    let P : List ℕ → Type 0 = λ xs. Body quote (xs ++ r) in
    subst P (sym spelled) (pair a (b ∷ c ∷ r) (escape-octal a (octal-high a one)) (single b (c ∷ r) (is.octal b two) (single c r (is.octal c three) body)))

Body-pieces : (pieces : List (List ℕ)) → All IsPiece pieces → Body 34 (concat pieces)
Body-pieces [] all = end
Body-pieces (p ∷ ps) all = by_piece (All-head IsPiece p ps all) (Body-pieces ps (All-tail IsPiece p ps all)) where
  by_piece : IsPiece p → Body 34 (concat ps) → Body 34 (p ++ concat ps)
  by_piece (byte b spelled is) body = let P : List ℕ → Type 0 = λ xs. Body 34 (xs ++ concat ps) in subst P (sym spelled) (single b (concat ps) is body)
  by_piece (escape is) body = Body-escape 34 p (concat ps) IsQuote-double is body

-- a backslash and a byte that may follow it
IsEscape-pair : (c : ℕ) → is_escape c ≡ true → IsEscape (92 ∷ c ∷ [])
IsEscape-pair c h =
    elim (or_cases (list_any (λ x. nat_eq x c) (codes "btnfr\"'\\")) (is_octal c)
    (all_bytes (λ y. list_any (λ x. nat_eq x y) (codes "btnfr\"'\\") || is_octal y) (codes "btnfr\"'\\01234567") c refl h)) [
      | inl among ↦ letter c refl (Contains-byte (codes "btnfr\"'\\") c among)
      | inr digit ↦ octal_1 c refl digit
    ]

-- such bytes in pieces
record InPieces (bytes : List ℕ) : Type 0 where
  pieces : List (List ℕ)
  spelled : concat pieces ≡ bytes
  each : All IsPiece pieces

pieces-Body : {r : List ℕ} → Body 34 r → InPieces r
pieces-Body end = record { pieces = []; spelled = refl; each = All-nil IsPiece }
pieces-Body (single b rest h body) =
    let parts = pieces-Body body in
    record { pieces = (b ∷ []) ∷ parts.pieces; spelled = ap (λ (xs : List ℕ). b ∷ xs) parts.spelled; each = All-cons IsPiece (b ∷ []) parts.pieces (byte b refl h) parts.each }
pieces-Body (pair c rest h body) =
    let parts = pieces-Body body in
    record {
      pieces = (92 ∷ c ∷ []) ∷ parts.pieces;
      spelled = ap (λ (xs : List ℕ). 92 ∷ c ∷ xs) parts.spelled;
      each = All-cons IsPiece (92 ∷ c ∷ []) parts.pieces (escape (IsEscape-pair c h)) parts.each;
    }

-- bytes that both scans go over to the quote after them
plain_here : (quote b : ℕ) (r : List ℕ) → nat_eq b 92 ≡ false → 0 < before_quote quote false (b ∷ r) → is_plain quote b ≡ true
plain_here quote b r other =
    cond_both (is_line_end b || nat_eq b quote) 0 (1 + before_quote quote (nat_eq b 92) r) (λ x. 0 < x → is_plain quote b ≡ true) (λ _ none. absurd (omega arith))
    (λ no _. let parts = or_parts (is_line_end b) (nat_eq b quote) no in plain_from quote b parts.1 other parts.0)

pair_here : (quote c : ℕ) (r : List ℕ) → IsQuote quote → (before_quote quote false (r ++ quote ∷ []) ≡ length r → before_bad_escape false r ≡ length r → Body quote r)
    → before_quote quote false (92 ∷ c ∷ (r ++ quote ∷ [])) ≡ suc (suc (length r)) → before_bad_escape false (92 ∷ c ∷ r) ≡ suc (suc (length r)) → Body quote (92 ∷ c ∷ r)
pair_here quote c r is after closed good = by_escape (cases_Bool (is_escape c)) where
  by_escape : ((is_escape c ≡ true) ⊎ (is_escape c ≡ false)) → Body quote (92 ∷ c ∷ r)
  by_escape (inl h) = pair c r h (after (omega (arith, before_quote-pair quote c (r ++ quote ∷ []) is (escape-line_end c h))) (omega (arith, before_bad_escape-pair c r h)))
  by_escape (inr h) = let none : 0 ≡ suc (suc (length r)) = rw h at good in absurd (omega arith)

Body-scans : (quote : ℕ) (r : List ℕ) → IsQuote quote → before_quote quote false (r ++ quote ∷ []) ≡ length r → before_bad_escape false r ≡ length r → Body quote r
Body-scans quote [] is closed good = end
Body-scans quote (b ∷ []) is closed good = by_backslash (cases_Bool (nat_eq b 92)) where
  by_backslash : ((nat_eq b 92 ≡ true) ⊎ (nat_eq b 92 ≡ false)) → Body quote (b ∷ [])
  by_backslash (inl slash) = let none : 0 ≡ length (b ∷ []) = rw slash at good in absurd cc
  by_backslash (inr other) =
      let one : before_quote quote false (b ∷ quote ∷ []) ≡ 1 = closed in
      let some : 0 < before_quote quote false (b ∷ quote ∷ []) = rw one (omega arith) in
      single b [] (plain_here quote b (quote ∷ []) other some) end
Body-scans quote (b ∷ c ∷ r) is closed good = by_backslash (cases_Bool (nat_eq b 92)) (Body-scans quote (c ∷ r) is) (Body-scans quote r is) where
  by_backslash : ((nat_eq b 92 ≡ true) ⊎ (nat_eq b 92 ≡ false))
      → (before_quote quote false (c ∷ (r ++ quote ∷ [])) ≡ suc (length r) → before_bad_escape false (c ∷ r) ≡ suc (length r) → Body quote (c ∷ r))
      → (before_quote quote false (r ++ quote ∷ []) ≡ length r → before_bad_escape false r ≡ length r → Body quote r) → Body quote (b ∷ c ∷ r)
  by_backslash (inr other) next after =
      let plain = plain_here quote b (c ∷ (r ++ quote ∷ [])) other (omega arith) in
      let step1 = before_quote-plain quote b (c ∷ (r ++ quote ∷ [])) plain in
      let step2 = before_bad_escape-plain b (c ∷ r) other in
      single b (c ∷ r) plain (next (omega arith) (omega arith))
  by_backslash (inl slash) next after =
      let same : b ≡ 92 = eqb-true b 92 slash in
      let P : ℕ → Type 0 = λ x. before_quote quote false (x ∷ c ∷ (r ++ quote ∷ [])) ≡ suc (suc (length r)) → before_bad_escape false (x ∷ c ∷ r) ≡ suc (suc (length r)) → Body quote (x ∷ c ∷ r) in
      subst P (sym same) (pair_here quote c r is after) closed good

-- a literal is the whole of what is taken
quoted-whole : (quote : ℕ) (body : List ℕ) → IsQuote quote → Body quote body → fits_between quote body ≡ true
    → quoted quote (quote ∷ (body ++ quote ∷ [])) ≡ Taken Literal (length (quote ∷ (body ++ quote ∷ [])))
unfolding quoted
quoted-whole quote body is between fits =
    let closed = before_quote-Body quote is between in
    let at : get_or (body ++ quote ∷ []) (length body) 0 ≡ quote = get_or-append_seam body quote [] 0 in
    let same : nat_eq quote quote ≡ true = eq-eqb quote quote refl in
    let front' : take (length body) (body ++ quote ∷ []) ≡ body = take-append_seam body (quote ∷ []) in
    let good = before_bad_escape-Body quote between in
    let none : nat_lt (length body) (length body) ≡ false = le-ltb (length body) (length body) (omega arith) in
    let len : length body + 2 ≡ suc (length (body ++ quote ∷ [])) = omega (arith, length-append body (quote ∷ [])) in
    rw (closed, at, same, front', good, none, fits) (ap (λ (n : ℕ). Taken Literal n) len)

no_text_block : {body : List ℕ} → Body 34 body → (nat_eq (first (body ++ 34 ∷ [])) 34 && nat_eq (second (body ++ 34 ∷ [])) 34) ≡ false
no_text_block end = refl
no_text_block (single b rest h body) = rw ((plain_parts 34 b h).0) refl
no_text_block (pair c rest h body) = refl

front-string : (body : List ℕ) → Body 34 body → front (34 ∷ (body ++ 34 ∷ [])) ≡ quoted 34 (34 ∷ (body ++ 34 ∷ []))
unfolding front
front-string body between = rw (no_text_block between) refl

front-character : (rest : List ℕ) → front (39 ∷ rest) ≡ quoted 39 (39 ∷ rest)
unfolding front
front-character rest = refl

fits_between-string : (body : List ℕ) → fits_between 34 body ≡ true
unfolding fits_between
fits_between-string body = refl

pub IsWhole-string : (bytes : List ℕ) → IsString bytes → IsWhole Literal bytes
IsWhole-string bytes is =
    let body : List ℕ = concat is.pieces in
    let between = Body-pieces is.pieces is.each in
    let P : List ℕ → Type 0 = IsWhole Literal in
    subst P (sym is.spelled) (front-string body between ∙ quoted-whole 34 body IsQuote-double between (fits_between-string body))

-- what a character literal may have between its quotes
high_plain : (quote b : ℕ) → quote < 128 → 128 ≤ b → is_plain quote b ≡ true
high_plain quote b low high = grind (arith, nat_tests)

fits_between-one : (body : List ℕ) → is_one_char body ≡ true → fits_between 39 body ≡ true
unfolding fits_between
fits_between-one body h = or_left (is_one_char body) (is_one_escape body) h

fits_between-escape : (body : List ℕ) → is_one_escape body ≡ true → fits_between 39 body ≡ true
unfolding fits_between
fits_between-escape body h = or_right (is_one_char body) (is_one_escape body) h

is_one_char-byte : (b : ℕ) → is_one_char (b ∷ []) ≡ true
unfolding is_one_char
is_one_char-byte b = refl

is_one_char-encode : (c : ℕ) → scalar c ≡ true → length (encode c) ≤ 3 → is_one_char (encode c ++ []) ≡ true
unfolding is_one_char
is_one_char-encode c is few =
    let t : List ℕ = encode c ++ [] in
    let len : length t ≡ length (encode c) = ap (λ (xs : List ℕ). length xs) (append-nil (encode c)) in
    let wide : width (first t) ≡ length (encode c) = width-encode c [] is in
    let some : is_some (first_char t) ≡ true = ap (λ (o : Option ℕ). is_some o) (first_char-encode c [] is) in
    or_right (nat_eq (length t) 1) _
    (and_from (nat_le (length t) 3 && nat_eq (length t) (width (first t))) (is_some (first_char t))
    (and_from (nat_le (length t) 3) (nat_eq (length t) (width (first t))) (le-leb (length t) 3 (omega arith)) (eq-eqb _ _ (len ∙ sym wide))) some)

-- a character that is plain, by its bytes
Body-character : (c : ℕ) → c ≤ 65535 → is_plain 39 c ≡ true → Shape c → Body 39 (encode c ++ []) × (length (encode c) ≤ 3)
Body-character c small plain (of1 low e) =
    let P : List ℕ → Type 0 = λ xs. Body 39 (xs ++ []) × (length xs ≤ 3) in subst P (sym e) (single c [] plain end, omega arith)
Body-character c small plain (of2 a b _ _ two _ more e) =
    let P : List ℕ → Type 0 = λ xs. Body 39 (xs ++ []) × (length xs ≤ 3) in
    subst P (sym e) (single a (b ∷ []) (high_plain 39 a (omega arith) (omega arith)) (single b [] (high_plain 39 b (omega arith) more) end), omega arith)
Body-character c small plain (of3 a b d _ _ three _ more last e) =
    let P : List ℕ → Type 0 = λ xs. Body 39 (xs ++ []) × (length xs ≤ 3) in
    subst P (sym e)
    (single a (b ∷ d ∷ []) (high_plain 39 a (omega arith) (omega arith)) (single b (d ∷ []) (high_plain 39 b (omega arith) more) (single d [] (high_plain 39 d (omega arith) last) end)), omega arith)
Body-character c small plain (of4 a b d x great _ e) = absurd (omega arith)

is_one_escape-IsEscape : (body : List ℕ) → IsEscape body → is_one_escape body ≡ true
unfolding is_one_escape
is_one_escape-IsEscape body (letter c e among) = let P : List ℕ → Type 0 = λ xs. is_one_escape xs ≡ true in subst P (sym e) refl
is_one_escape-IsEscape body (octal_1 a e one) = let P : List ℕ → Type 0 = λ xs. is_one_escape xs ≡ true in subst P (sym e) refl
is_one_escape-IsEscape body (octal_2 a b e one two) = let P : List ℕ → Type 0 = λ xs. is_one_escape xs ≡ true in subst P (sym e) (rw (one, two) refl)
is_one_escape-IsEscape body (octal_3 a b c e one two three) = let P : List ℕ → Type 0 = λ xs. is_one_escape xs ≡ true in subst P (sym e) (rw (one, two, three) refl)

fits-character : (body : List ℕ) → IsOneCharacter body → Body 39 body × (fits_between 39 body ≡ true)
fits-character body (character c text is small plain) =
    let scalars' : scalars (c ∷ []) ≡ true = ap scalars (sym is) ∙ scalars-chars body text in
    let one : scalar c ≡ true = (and_parts (scalar c) true scalars').0 in
    let spelled : encode c ++ [] ≡ body = ap encodes (sym is) ∙ encodes-chars body text in
    let parts = Body-character c small plain (shape c) in
    let P : List ℕ → Type 0 = λ xs. Body 39 xs × (fits_between 39 xs ≡ true) in
    subst P spelled (parts.0, fits_between-one (encode c ++ []) (is_one_char-encode c one parts.1))
fits-character body (ill_formed b e high) =
    let P : List ℕ → Type 0 = λ xs. Body 39 xs × (fits_between 39 xs ≡ true) in
    subst P (sym e) (single b [] (high_plain 39 b (omega arith) high) end, fits_between-one (b ∷ []) (is_one_char-byte b))
fits-character body (character_escape is) =
    let between : Body 39 (body ++ []) = Body-escape 39 body [] IsQuote-single is end in
    (subst (Body 39) (append-nil body) between, fits_between-escape body (is_one_escape-IsEscape body is))

pub IsWhole-character : (bytes : List ℕ) → IsCharacter bytes → IsWhole Literal bytes
IsWhole-character bytes is =
    let fits = fits-character is.body is.form in
    let P : List ℕ → Type 0 = IsWhole Literal in
    subst P (sym is.spelled) (front-character (is.body ++ 39 ∷ []) ∙ quoted-whole 39 is.body IsQuote-single fits.0 fits.1)

-- and what is taken as one, as a whole, is one
quoted_taken : (t u w : Bool) (k j n : ℕ) (kind : TokenKind) → cond t (Wrong OpenString 0) (cond u (Wrong BadEscape j) (cond w (Taken Literal (k + 2)) (Wrong OpenString 0))) ≡ Taken kind n
    → (t ≡ false) × (u ≡ false) × (w ≡ true) × (k + 2 ≡ n) × (kind ≡ Literal)
quoted_taken true u w k j n kind is = absurd cc
quoted_taken false true w k j n kind is = absurd cc
quoted_taken false false true k j n kind is = (refl, refl, refl, cc, cc)
quoted_taken false false false k j n kind is = absurd cc

before_bad_escape-le : (e : Bool) (r : List ℕ) → before_bad_escape e r ≤ length r
before_bad_escape-le e [] = omega arith
before_bad_escape-le e (b ∷ bs) =
    cond_both (pairs_next e b && not (is_escape (first bs))) 0 (1 + before_bad_escape (pairs_next e b) bs) (λ x. x ≤ suc (length bs)) (λ _. omega arith)
    (λ _. omega (arith, before_bad_escape-le (pairs_next e b) bs))

record Between (quote : ℕ) (bytes : List ℕ) : Type 0 where
  body : List ℕ
  spelled : bytes ≡ quote ∷ (body ++ quote ∷ [])
  between : Body quote body
  fits : fits_between quote body ≡ true

quoted-between : (quote : ℕ) (r : List ℕ) (kind : TokenKind) → IsQuote quote → first r ≡ quote → quoted quote r ≡ Taken kind (length r) → (kind ≡ Literal) × Between quote r
unfolding quoted
quoted-between quote r kind is begins taken =
    let rest : List ℕ = drop 1 r in
    let n : ℕ = before_quote quote false rest in
    let body : List ℕ = take n rest in
    let got = quoted_taken (not (nat_eq (get_or rest n 0) quote)) (nat_lt (before_bad_escape false body) n) (fits_between quote body) n _ (length r) kind taken in
    (got.4, closing r begins (eqb-true _ _ (not-false _ got.0)) got.3 (ltb-false (before_bad_escape false body) n got.1) got.2)
  where
    closing : (r : List ℕ) → first r ≡ quote → get_or (drop 1 r) (before_quote quote false (drop 1 r)) 0 ≡ quote → before_quote quote false (drop 1 r) + 2 ≡ length r
        → before_quote quote false (drop 1 r) ≤ before_bad_escape false (take (before_quote quote false (drop 1 r)) (drop 1 r))
        → fits_between quote (take (before_quote quote false (drop 1 r)) (drop 1 r)) ≡ true → Between quote r
    closing [] begins' closed len good fits = absurd (omega arith)
    closing (a ∷ rest) begins' closed len good fits =
        let n : ℕ = before_quote quote false rest in
        let body : List ℕ = take n rest in
        let size : length body ≡ n = length-take-le n rest (omega arith) in
        let one : 1 ≡ length (drop n rest) = omega (arith, length-drop n rest) in
        let last : drop n rest ≡ quote ∷ [] = bytes_1 (drop n rest) one ∙ ap (λ (x : ℕ). x ∷ []) (get_or-drop n rest 0 0 ∙ ap (λ (i : ℕ). get_or rest i 0) (add-zero n) ∙ closed) in
        let spelled : rest ≡ body ++ quote ∷ [] = sym (take-append-drop n rest) ∙ ap (λ (xs : List ℕ). body ++ xs) last in
        let scan : before_quote quote false (body ++ quote ∷ []) ≡ length body = ap (λ (xs : List ℕ). before_quote quote false xs) (sym spelled) ∙ sym size in
        let all : before_bad_escape false body ≡ length body = omega (arith, before_bad_escape-le false body) in
        record { body = body; spelled = ap (λ (x : ℕ). x ∷ rest) begins' ∙ ap (λ (xs : List ℕ). quote ∷ xs) spelled; between = Body-scans quote body is scan all; fits = fits }

pub IsString-quoted : (r : List ℕ) (kind : TokenKind) → first r ≡ 34 → quoted 34 r ≡ Taken kind (length r) → (kind ≡ Literal) × IsString r
IsString-quoted r kind begins taken =
    let is = quoted-between 34 r kind IsQuote-double begins taken in
    let parts = pieces-Body is.1.between in
    (is.0, record { pieces = parts.pieces; spelled = is.1.spelled ∙ ap (λ (xs : List ℕ). 34 ∷ (xs ++ 34 ∷ [])) (sym parts.spelled); each = parts.each })

Body-single : (b : ℕ) → Body 39 (b ∷ []) → is_plain 39 b ≡ true
Body-single b (single b' rest h body) = h

Body-pair : (x c : ℕ) (r : List ℕ) → x ≡ 92 → Body 39 (x ∷ c ∷ r) → is_escape c ≡ true
Body-pair x c r is (single b' rest h body) = let no : is_plain 39 x ≡ false = rw is refl in absurd (true≢false (sym h ∙ no))
Body-pair x c r is (pair c' rest h body) = h

one_byte : (b : ℕ) → is_plain 39 b ≡ true → IsOneCharacter (b ∷ [])
one_byte b plain = elim (cases_lt b 128) [ inl low ↦ ascii low | inr high ↦ ill_formed b refl high ] where
  ascii : b < 128 → IsOneCharacter (b ∷ [])
  ascii low = let is = IsAscii-cons b [] low IsAscii-nil in character b (IsUtf8-from_ascii (b ∷ []) is) (chars-IsAscii (b ∷ []) is) (omega arith) plain

drop-all : (r : List ℕ) → drop (length r) r ≡ []
drop-all [] = refl
drop-all (b ∷ bs) = drop-all bs

wide_character : (body : List ℕ) → Body 39 body → length body ≤ 3 → length body ≡ width (first body) → is_some (first_char body) ≡ true → IsOneCharacter body
wide_character body between few wide some =
    let is = first_char-spelled body some in
    let c : ℕ = is.0 in
    let rest : drop (width (first body)) body ≡ [] = ap (λ (n : ℕ). drop n body) (sym wide) ∙ drop-all body in
    let spelled : body ≡ encode c = is.2 ∙ ap (λ (xs : List ℕ). encode c ++ xs) rest ∙ append-nil (encode c) in
    let text : IsUtf8 body = subst IsUtf8 (sym spelled) (IsUtf8-encode c is.1) in
    let one : chars body ≡ c ∷ [] = ap chars spelled ∙ chars-encode c is.1 in
    by_shape c text one spelled (shape c)
  where
    by_shape : (c : ℕ) → IsUtf8 body → chars body ≡ c ∷ [] → body ≡ encode c → Shape c → IsOneCharacter body
    by_shape c text one spelled (of1 low e) =
        let P : List ℕ → Type 0 = λ xs. Body 39 xs in
        character c text one (omega arith) (Body-single c (subst P (spelled ∙ e) between))
    by_shape c text one spelled (of2 a b high low _ _ _ e) = character c text one (omega arith) (high_plain 39 c (omega arith) high)
    by_shape c text one spelled (of3 a b d high low _ _ _ _ e) = character c text one (omega arith) (high_plain 39 c (omega arith) high)
    by_shape c text one spelled (of4 a b d x great _ e) = let len : length body ≡ 4 = ap (λ (xs : List ℕ). length xs) (spelled ∙ e) in absurd (omega arith)

character-char : (body : List ℕ) → Body 39 body → is_one_char body ≡ true → IsOneCharacter body
unfolding is_one_char
character-char body between h =
    elim (or_cases (nat_eq (length body) 1) (nat_le (length body) 3 && nat_eq (length body) (width (first body)) && is_some (first_char body)) h) [
      | inl one ↦ let e : body ≡ get_or body 0 0 ∷ [] = bytes_1 body (sym (eqb-true _ _ one)) in subst IsOneCharacter (sym e) (one_byte (get_or body 0 0) (Body-single (get_or body 0 0) (subst (Body 39) e between)))
      | inr more ↦
          let p1 = and_parts (nat_le (length body) 3 && nat_eq (length body) (width (first body))) (is_some (first_char body)) more in
          let p2 = and_parts (nat_le (length body) 3) (nat_eq (length body) (width (first body))) p1.0 in
          wide_character body between (leb-true _ _ p2.0) (eqb-true _ _ p2.1) p1.1
    ]

character-escape : (body : List ℕ) → Body 39 body → is_one_escape body ≡ true → IsOneCharacter body
unfolding is_one_escape
character-escape body between h =
    let two : Bool = nat_eq (length body) 2 in
    let three : Bool = nat_eq (length body) 3 && is_octal (second body) && is_octal (third body) in
    let four : Bool = nat_eq (length body) 4 && is_in_range 48 51 (second body) && is_octal (third body) && is_octal (get_or body 3 0) in
    let parts = and_parts (nat_eq (first body) 92) (two || three || four) h in
    let slash : first body ≡ 92 = eqb-true _ _ parts.0 in
    character_escape (elim (or_cases (two || three) four parts.1) [
      | inl either ↦ elim (or_cases two three either) [
        | inl is ↦
            let e : body ≡ first body ∷ second body ∷ [] = bytes_2 body (sym (eqb-true _ _ is)) in
            let escape' : is_escape (second body) ≡ true = Body-pair (first body) (second body) [] slash (subst (Body 39) e between) in
            subst IsEscape (sym (e ∙ ap (λ (x : ℕ). x ∷ second body ∷ []) slash)) (IsEscape-pair (second body) escape')
        | inr is ↦
            let p1 = and_parts (nat_eq (length body) 3 && is_octal (second body)) (is_octal (third body)) is in
            let p2 = and_parts (nat_eq (length body) 3) (is_octal (second body)) p1.0 in
            let e : body ≡ first body ∷ second body ∷ third body ∷ [] = bytes_3 body (sym (eqb-true _ _ p2.0)) in
            octal_2 (second body) (third body) (e ∙ ap (λ (x : ℕ). x ∷ second body ∷ third body ∷ []) slash) p2.1 p1.1
      ]
      | inr is ↦
          let p1 = and_parts (nat_eq (length body) 4 && is_in_range 48 51 (second body) && is_octal (third body)) (is_octal (get_or body 3 0)) is in
          let p2 = and_parts (nat_eq (length body) 4 && is_in_range 48 51 (second body)) (is_octal (third body)) p1.0 in
          let p3 = and_parts (nat_eq (length body) 4) (is_in_range 48 51 (second body)) p2.0 in
          let e : body ≡ first body ∷ second body ∷ third body ∷ get_or body 3 0 ∷ [] = bytes_4 body (sym (eqb-true _ _ p3.0)) in
          octal_3 (second body) (third body) (get_or body 3 0) (e ∙ ap (λ (x : ℕ). x ∷ second body ∷ third body ∷ get_or body 3 0 ∷ []) slash) p3.1 p2.1 p1.1
    ])

fits_parts : (body : List ℕ) → fits_between 39 body ≡ true → (is_one_char body ≡ true) ⊎ (is_one_escape body ≡ true)
unfolding fits_between
fits_parts body h = or_cases (is_one_char body) (is_one_escape body) h

pub IsCharacter-quoted : (r : List ℕ) (kind : TokenKind) → first r ≡ 39 → quoted 39 r ≡ Taken kind (length r) → (kind ≡ Literal) × IsCharacter r
IsCharacter-quoted r kind begins taken =
    let is = quoted-between 39 r kind IsQuote-single begins taken in (
      is.0,
      record {
        body = is.1.body;
        spelled = is.1.spelled;
        form = elim (fits_parts is.1.body is.1.fits) [ inl one ↦ character-char is.1.body is.1.between one | inr esc ↦ character-escape is.1.body is.1.between esc ];
      },
    )
