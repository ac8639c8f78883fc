-- Identifiers by their form, and the run of characters that is taken as one.
use Rattle.std.proofs.Common.{◌≡◌, ◌⊎◌, inl, inr, ℕ, zero, suc, ◌-◌, ◌<◌, ◌≤◌, Bool, true, false, ◌&&◌, List, [], ◌∷◌, ◌++◌, take, drop, length, Option, Some, None, refl, sym, ◌∙◌, ap, subst, arith, cond, nat_eq, length-append}
use Rattle.std.specs.Prelude.{All, IsTrue, is_some, not, nat_lt, codes, Contains}
use Rattle.std.specs.List.{list_all}
use Rattle.std.specs.Option.{option_map_or}
use Rattle.std.specs.Str.{IsUtf8, chars}
use lib.Utf8.{encode, encodes, scalar, scalars}
use Rattle.std.proofs.Math.Seq.{drop-append_seam}
use Rattle.std.proofs.lemmas.Bool.{and_parts, or_left, eqb-true, ltb-false, cases_Bool, not-true, true≢false, false_from_ne_true, le-ltb, ltb-true}
use Rattle.std.proofs.lemmas.Bool.Decides.{nat_tests}
use Rattle.std.proofs.lemmas.List.{length-drop}
use Rattle.std.proofs.lemmas.List.Elements.{All-nil, All-cons, All-head, All-tail}
use Rattle.std.proofs.lemmas.Str.{IsUtf8-nil, IsUtf8-append, IsUtf8-encode, chars_past_char, chars-nil, encodes-chars, scalars-chars, IsUtf8-from_ascii, chars-IsAscii}
use Rattle.std.proofs.lemmas.Str.Ascii.{IsAscii-from_all}
use Rattle.mol_base.specs.Lexical.Characters.{first, width, first_char}
use Rattle.mol_base.specs.Lexical.Names.{is_start, is_part, starts_name, goes_on, name_len, name, word_kind, is_keyword, is_word_literal, keywords, word_literals}
use Rattle.mol_base.specs.Lexical.Forms.Name.{IsName, IsIdentifier, IsWord}
use Rattle.mol_base.specs.Lexical.Tokens.{IsToken, word}
use Rattle.mol_base.specs.Lexical.Front.{front, IsWhole}
use Rattle.mol_base.specs.declared.token_kind.TokenKind.{TokenKind}
use Rattle.mol_base.specs.declared.token_kind.TokenKind.TheVariants.{Word, Keyword, Literal}
use Rattle.mol_base.specs.declared.lexical.front.Front.TheVariants.{Taken, Wrong}
use Rattle.mol_base.specs.declared.lexical.front.Flaw.TheVariants.{NameTooLong, BadChar}
use Rattle.mol_base.proofs.Encoded.{first_char-encode, first_char-spelled, width-encode}
use Rattle.mol_base.proofs.Ends.{starts-goes_on}
use Rattle.mol_base.proofs.Fronts.{is_ascii_start, is_start-ascii, front-name}
use Rattle.mol_base.proofs.Members.{is_among, is_among-Contains, Contains-is_among, all_among}
use Rattle.mol_base.proofs.Naming.{goes_on-whole, name_len-goes_on, name_len-stops}
use Rattle.mol_base.proofs.Numerals.{take_all}

abbrev Part : ℕ → Type 0
Part c = IsTrue (is_part c)

pub goes_on-encode : (c : ℕ) (rest : List ℕ) → scalar c ≡ true → is_part c ≡ true → goes_on (encode c ++ rest) ≡ true
unfolding goes_on
goes_on-encode c rest is part = rw (first_char-encode c rest is) part

-- all characters of a text go on
name_len-encodes : (cs : List ℕ) → scalars cs ≡ true → All (λ c. IsTrue (is_part c)) cs → name_len 0 (encodes cs) ≡ length (encodes cs)
name_len-encodes [] are all = refl
name_len-encodes (c ∷ cs) are all =
    let both = and_parts (scalar c) (scalars cs) are in
    let r : List ℕ = encode c ++ encodes cs in
    let step = name_len-goes_on r (goes_on-encode c (encodes cs) both.0 (All-head Part c cs all)) in
    let wide : width (first r) ≡ length (encode c) = width-encode c (encodes cs) both.0 in
    let rest : drop (width (first r)) r ≡ encodes cs = ap (λ (n : ℕ). drop n r) wide ∙ drop-append_seam (encode c) (encodes cs) in
    let further : name_len 0 (drop (width (first r)) r) ≡ length (encodes cs) = ap (λ (xs : List ℕ). name_len 0 xs) rest ∙ name_len-encodes cs both.1 (All-tail Part c cs all) in
    omega (arith, length-append (encode c) (encodes cs))

mapped : (f : ℕ → Bool) (o : Option ℕ) → option_map_or f o false ≡ true → is_some o ≡ true
mapped f None h = absurd cc
mapped f (Some c) h = refl

-- the character that bytes begin with, where it passes a test
mapped-spelled : (f : ℕ → Bool) (r : List ℕ) → option_map_or f (first_char r) false ≡ true → (c : ℕ) × (scalar c ≡ true) × (r ≡ encode c ++ drop (width (first r)) r) × (f c ≡ true)
mapped-spelled f r h =
    let is = first_char-spelled r (mapped f (first_char r) h) in
    (is.0, is.1, is.2, ap (λ (o : Option ℕ). option_map_or f o false) (sym is.3) ∙ h)

goes_on-spelled : (r : List ℕ) → goes_on r ≡ true → (c : ℕ) × (scalar c ≡ true) × (r ≡ encode c ++ drop (width (first r)) r) × (is_part c ≡ true)
unfolding goes_on
goes_on-spelled r h = mapped-spelled is_part r h

starts_name-spelled : (r : List ℕ) → starts_name r ≡ true → (c : ℕ) × (scalar c ≡ true) × (r ≡ encode c ++ drop (width (first r)) r) × (is_start c ≡ true)
unfolding starts_name
starts_name-spelled r h = mapped-spelled is_start r h

past_char : (c : ℕ) (r rest : List ℕ) → scalar c ≡ true → r ≡ encode c ++ rest → IsUtf8 rest → IsUtf8 r × (chars r ≡ c ∷ chars rest)
past_char c r rest is e text =
    let whole : IsUtf8 r = subst IsUtf8 (sym e) (IsUtf8-append (encode c) rest (IsUtf8-encode c is) text) in
    (whole, chars_past_char r rest c whole e)

-- bytes that are one run of such characters are a text of them
name_len-all : (k : ℕ) (r : List ℕ) → length r ≤ k → name_len 0 r ≡ length r → IsUtf8 r × All (λ c. IsTrue (is_part c)) (chars r)
name_len-all k [] room h = let P : List ℕ → Type 0 = λ xs. All (λ c. IsTrue (is_part c)) xs in (IsUtf8-nil, subst P (sym chars-nil) (All-nil Part))
name_len-all zero (b ∷ bs) room h = absurd (omega arith)
name_len-all (suc k) (b ∷ bs) room h = by_case (cases_Bool (goes_on (b ∷ bs))) (λ less same. name_len-all k (drop (width b) (b ∷ bs)) less same) where
  by_case : ((goes_on (b ∷ bs) ≡ true) ⊎ (goes_on (b ∷ bs) ≡ false))
      → (length (drop (width b) (b ∷ bs)) ≤ k → name_len 0 (drop (width b) (b ∷ bs)) ≡ length (drop (width b) (b ∷ bs)) → IsUtf8 (drop (width b) (b ∷ bs)) × All (λ c. IsTrue (is_part c)) (chars (drop (width b) (b ∷ bs))))
      → IsUtf8 (b ∷ bs) × All (λ c. IsTrue (is_part c)) (chars (b ∷ bs))
  by_case (inr stops) further = absurd (omega (arith, name_len-stops (b ∷ bs) stops))
  by_case (inl goes) further =
      let whole = goes_on-whole (b ∷ bs) goes in
      let step = name_len-goes_on (b ∷ bs) goes in
      let len : length (drop (width b) (b ∷ bs)) ≡ length (b ∷ bs) - width b = length-drop (width b) (b ∷ bs) in
      let rest = further (omega (arith, whole.0)) (omega (arith, whole.0)) in
      let is = goes_on-spelled (b ∷ bs) goes in
      let past = past_char is.0 (b ∷ bs) (drop (width b) (b ∷ bs)) is.1 is.2 rest.0 in
      let P : List ℕ → Type 0 = λ xs. All (λ c. IsTrue (is_part c)) xs in
      (past.0, subst P (sym past.1) (All-cons Part is.0 (chars (drop (width b) (b ∷ bs))) is.3 rest.1))

pub is_part-start : (c : ℕ) → is_start c ≡ true → is_part c ≡ true
unfolding is_part
is_part-start c h = or_left (is_start c) _ h

-- what an identifier is taken as
pub starts_name-encode : (c : ℕ) (rest : List ℕ) → scalar c ≡ true → is_start c ≡ true → starts_name (encode c ++ rest) ≡ true
unfolding starts_name
starts_name-encode c rest is start = rw (first_char-encode c rest is) start

no_underscore-test : (bytes : List ℕ) → (bytes ≡ codes "_" → ⊥) → (nat_eq (length bytes) 1 && nat_eq (first bytes) 95) ≡ false
no_underscore-test bytes never = false_from_ne_true _ (λ both. let parts = and_parts (nat_eq (length bytes) 1) (nat_eq (first bytes) 95) both in alone bytes (eqb-true _ _ parts.0) (eqb-true _ _ parts.1) never) where
  alone : (xs : List ℕ) → length xs ≡ 1 → first xs ≡ 95 → (xs ≡ codes "_" → ⊥) → ⊥
  alone [] len line never' = absurd (omega arith)
  alone (x ∷ []) len line never' = never' (ap (λ (y : ℕ). y ∷ []) line)
  alone (x ∷ y ∷ xs) len line never' = absurd (omega arith)

name-whole : (r : List ℕ) → name_len 0 r ≡ length r → length r ≤ 255 → (nat_eq (length r) 1 && nat_eq (first r) 95) ≡ false → name r ≡ Taken (word_kind r) (length r)
unfolding name
name-whole r len short no_line = let fits : nat_lt 255 (length r) ≡ false = le-ltb 255 (length r) short in rw (len, fits, no_line, take_all r) refl

pub front-identifier : (bytes : List ℕ) → IsIdentifier bytes → front bytes ≡ Taken (word_kind bytes) (length bytes)
front-identifier bytes is =
    let are : scalars (is.name.first ∷ is.name.others) ≡ true = ap scalars (sym is.name.characters) ∙ scalars-chars bytes is.name.utf8 in
    let both = and_parts (scalar is.name.first) (scalars is.name.others) are in
    let spelled : encodes (is.name.first ∷ is.name.others) ≡ bytes = ap encodes (sym is.name.characters) ∙ encodes-chars bytes is.name.utf8 in
    let starts : starts_name bytes ≡ true = ap starts_name (sym spelled) ∙ starts_name-encode is.name.first (encodes is.name.others) both.0 is.name.starts in
    let len : name_len 0 bytes ≡ length bytes =
    ap (λ (xs : List ℕ). name_len 0 xs) (sym spelled) ∙ name_len-encodes (is.name.first ∷ is.name.others) are (All-cons Part is.name.first is.name.others (is_part-start is.name.first is.name.starts) is.name.goes_on)
    ∙ ap (λ (xs : List ℕ). length xs) spelled in
    front-name bytes starts ∙ name-whole bytes len is.short (no_underscore-test bytes is.no_underscore)

-- which kind it has
word_kind-word : (bytes : List ℕ) → ¬ (Contains keywords bytes) → ¬ (Contains word_literals bytes) → word_kind bytes ≡ Word
unfolding word_kind is_keyword is_word_literal
word_kind-word bytes one two =
    let no1 : is_among keywords bytes ≡ false = false_from_ne_true _ (λ is. one (Contains-is_among keywords bytes is)) in
    let no2 : is_among word_literals bytes ≡ false = false_from_ne_true _ (λ is. two (Contains-is_among word_literals bytes is)) in
    rw (no1, no2) refl

pub IsWhole-word : (bytes : List ℕ) → IsWord bytes → IsWhole Word bytes
IsWhole-word bytes is = front-identifier bytes is.identifier ∙ ap (λ (kind : TokenKind). Taken kind (length bytes)) (word_kind-word bytes is.no_keyword is.no_literal)

-- the keywords and the words that are literals: small letters alone, two of them or more
abbrev is_small : List ℕ → Bool
is_small text = nat_lt 1 (length text) && (nat_lt (length text) 256 && list_all (λ b. nat_lt 96 b && nat_lt b 123) text)

small_start : (b : ℕ) → (nat_lt 96 b && nat_lt b 123) ≡ true → is_start b ≡ true
small_start b h =
    let low : b < 128 = grind (arith, nat_tests, h) in
    is_start-ascii b low ∙ letter where
      letter : is_ascii_start b ≡ true
      letter = grind (arith, nat_tests, h)

small_all : (text : List ℕ) → list_all (λ b. nat_lt 96 b && nat_lt b 123) text ≡ true → All (λ b. b < 128) text × All (λ c. IsTrue (is_part c)) text
small_all [] h = (All-nil (λ b. b < 128), All-nil Part)
small_all (b ∷ bs) h =
    let both = and_parts (nat_lt 96 b && nat_lt b 123) (list_all (λ x. nat_lt 96 x && nat_lt x 123) bs) h in
    let rest = small_all bs both.1 in
    let low : b < 128 = below b both.0 in
    (All-cons (λ x. x < 128) b bs low rest.0, All-cons Part b bs (is_part-start b (small_start b both.0)) rest.1)
  where
    below : (x : ℕ) → (nat_lt 96 x && nat_lt x 123) ≡ true → x < 128
    below x h' = grind (arith, nat_tests, h')

IsIdentifier-small : (bytes : List ℕ) → is_small bytes ≡ true → IsIdentifier bytes
IsIdentifier-small [] h = absurd cc
IsIdentifier-small (b ∷ bs) h =
    let text : List ℕ = b ∷ bs in
    let p1 = and_parts (nat_lt 1 (length text)) (nat_lt (length text) 256 && list_all (λ x. nat_lt 96 x && nat_lt x 123) text) h in
    let p2 = and_parts (nat_lt (length text) 256) (list_all (λ x. nat_lt 96 x && nat_lt x 123) text) p1.1 in
    let p3 = and_parts (nat_lt 96 b && nat_lt b 123) (list_all (λ x. nat_lt 96 x && nat_lt x 123) bs) p2.1 in
    let all = small_all text p2.1 in
    let ascii = IsAscii-from_all text all.0 in
    let more : 1 < length text = ltb-true 1 (length text) p1.0 in
    let few : length text < 256 = ltb-true (length text) 256 p2.0 in
    let name_of : IsName (b ∷ bs) = record {
      utf8 = IsUtf8-from_ascii text ascii;
      first = b;
      others = bs;
      characters = chars-IsAscii text ascii;
      starts = small_start b p3.0;
      goes_on = All-tail Part b bs all.1;
    } in
    record {
      name = name_of;
      short = omega arith;
      no_underscore = λ same. let one : length text ≡ 1 = ap (λ (xs : List ℕ). length xs) same in omega arith;
    }

keywords-small : list_all is_small keywords ≡ true
unfolding keywords
keywords-small = refl

literals-small : list_all (λ text. is_small text && not (is_among keywords text)) word_literals ≡ true
unfolding keywords word_literals
literals-small = refl

word_kind-keyword : (bytes : List ℕ) → is_among keywords bytes ≡ true → word_kind bytes ≡ Keyword
unfolding word_kind is_keyword
word_kind-keyword bytes is = rw is refl

word_kind-literal : (bytes : List ℕ) → is_among keywords bytes ≡ false → is_among word_literals bytes ≡ true → word_kind bytes ≡ Literal
unfolding word_kind is_keyword is_word_literal
word_kind-literal bytes no1 is = rw (no1, is) refl

pub IsWhole-keyword : (bytes : List ℕ) → Contains keywords bytes → IsWhole Keyword bytes
IsWhole-keyword bytes is =
    let among = is_among-Contains keywords bytes is in
    let small = all_among is_small keywords bytes keywords-small among in
    front-identifier bytes (IsIdentifier-small bytes small) ∙ ap (λ (kind : TokenKind). Taken kind (length bytes)) (word_kind-keyword bytes among)

pub IsWhole-word_literal : (bytes : List ℕ) → Contains word_literals bytes → IsWhole Literal bytes
IsWhole-word_literal bytes is =
    let among = is_among-Contains word_literals bytes is in
    let both = and_parts (is_small bytes) (not (is_among keywords bytes)) (all_among (λ text. is_small text && not (is_among keywords text)) word_literals bytes literals-small among) in
    front-identifier bytes (IsIdentifier-small bytes both.0) ∙ ap (λ (kind : TokenKind). Taken kind (length bytes)) (word_kind-literal bytes (not-true _ both.1) among)

-- and what is taken as a word, as a whole, is one of its kind
name_taken : (t u : Bool) (k n : ℕ) (kind w : TokenKind) → cond t (Wrong NameTooLong 0) (cond u (Wrong BadChar 0) (Taken w k)) ≡ Taken kind n → (t ≡ false) × (u ≡ false) × (k ≡ n) × (w ≡ kind)
name_taken true u k n kind w is = absurd cc
name_taken false true k n kind w is = absurd cc
name_taken false false k n kind w is = (refl, refl, cc, cc)

pub IsName-starts : (r : List ℕ) → starts_name r ≡ true → name_len 0 r ≡ length r → IsName r
IsName-starts r starts len =
    let is = starts_name-spelled r starts in
    let goes : goes_on r ≡ true = starts-goes_on r starts in
    let rest : List ℕ = drop (width (first r)) r in
    let whole = goes_on-whole r goes in
    let step = name_len-goes_on r goes in
    let len' : length rest ≡ length r - width (first r) = length-drop (width (first r)) r in
    let others = name_len-all (length rest) rest (omega arith) (omega (arith, whole.0)) in
    let past = past_char is.0 r rest is.1 is.2 others.0 in
    record { utf8 = past.0; first = is.0; others = chars rest; characters = past.1; starts = is.3; goes_on = others.1 }

IsIdentifier-starts : (r : List ℕ) → starts_name r ≡ true → name_len 0 r ≡ length r → length r ≤ 255 → (r ≡ codes "_" → ⊥) → IsIdentifier r
IsIdentifier-starts r starts len short no_line = record { name = IsName-starts r starts len; short = short; no_underscore = no_line }

token_of_kind : (bytes : List ℕ) → IsIdentifier bytes → (t u : Bool) → is_among keywords bytes ≡ t → is_among word_literals bytes ≡ u → (kind : TokenKind) → cond t Keyword (cond u Literal Word) ≡ kind → IsToken kind bytes
token_of_kind bytes is true u key lit kind e = let P : TokenKind → Type 0 = λ k. IsToken k bytes in subst P e (Contains-is_among keywords bytes key)
token_of_kind bytes is false true key lit kind e = let P : TokenKind → Type 0 = λ k. IsToken k bytes in subst P e (word (Contains-is_among word_literals bytes lit))
token_of_kind bytes is false false key lit kind e =
    let P : TokenKind → Type 0 = λ k. IsToken k bytes in
    subst P e (record { identifier = is; no_keyword = λ c. true≢false (sym (is_among-Contains keywords bytes c) ∙ key); no_literal = λ c. true≢false (sym (is_among-Contains word_literals bytes c) ∙ lit) })

pub IsToken-name : (r : List ℕ) (kind : TokenKind) → starts_name r ≡ true → name r ≡ Taken kind (length r) → IsToken kind r
unfolding name word_kind is_keyword is_word_literal
IsToken-name r kind starts taken =
    let is = name_taken (nat_lt 255 (name_len 0 r)) (nat_eq (name_len 0 r) 1 && nat_eq (first r) 95) (name_len 0 r) (length r) kind (word_kind (take (name_len 0 r) r)) taken in
    let len : name_len 0 r ≡ length r = is.2 in
    let all : take (name_len 0 r) r ≡ r = ap (λ (n : ℕ). take n r) len ∙ take_all r in
    let no_line : (r ≡ codes "_" → ⊥) = λ same.
    let one : length r ≡ 1 = ap (λ (xs : List ℕ). length xs) same in
    let line : first r ≡ 95 = ap (λ (xs : List ℕ). first xs) same in
    let alone : (nat_eq (name_len 0 r) 1 && nat_eq (first r) 95) ≡ true = rw (len, one, line) refl in
    true≢false (sym alone ∙ is.1) in
    let short : length r ≤ 255 = omega (arith, ltb-false 255 (name_len 0 r) is.0) in
    token_of_kind r (IsIdentifier-starts r starts len short no_line) (is_among keywords r) (is_among word_literals r) refl refl kind
    (ap word_kind (sym all) ∙ is.3)
