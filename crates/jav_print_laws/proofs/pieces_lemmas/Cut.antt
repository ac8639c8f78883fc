-- The longest token at the front of a token's text and what may follow it is that text.
use Rattle.std.proofs.Common.{◌≡◌, ℕ, zero, suc, ◌<◌, ◌≤◌, Bool, true, false, ◌&&◌, ◌||◌, List, [], ◌∷◌, ◌++◌, take, length, get_or, refl, ◌∙◌, arith, cond, nat_eq, None, Some, Option}
use Rattle.std.specs.Prelude.{not, nat_lt, is_some}
use Rattle.std.specs.Option.{option_map_or}
use Rattle.std.specs.Str.{IsAscii}
use Rattle.std.proofs.lemmas.Str.{chars-IsAscii, IsUtf8-from_ascii}
use Rattle.std.proofs.lemmas.Bool.{and_parts, ltb-true, eqb-true, not-true, lt-ltb}
use Rattle.std.proofs.lemmas.Bool.Decides.{nat_tests}
use Rattle.mol_base.specs.Lexical.Characters.{is_space, is_digit, is_line_end, first, second, third, width, first_char}
use Rattle.mol_base.specs.Lexical.Comments.{line_comment, block_comment}
use Rattle.mol_base.specs.Lexical.Names.{name, starts_name, goes_on, word_kind, is_keyword, is_word_literal, is_start, is_part}
use Rattle.mol_base.specs.Lexical.Numbers.{number, is_run_byte}
use Rattle.mol_base.specs.Lexical.Quoted.{quoted, fits_between}
use Rattle.mol_base.specs.Lexical.Symbols.{symbol}
use Rattle.mol_base.specs.Lexical.Front.{front}
use Rattle.mol_base.specs.declared.token_kind.TokenKind.{TokenKind}
use Rattle.mol_base.specs.declared.token_kind.TokenKind.TheVariants.{Word, Keyword, Comment, Literal, Symbol}
use Rattle.mol_base.specs.declared.lexical.front.Front.TheVariants.{Space, Taken, Wrong}
use Rattle.mol_base.specs.declared.lexical.front.Flaw.TheVariants.{TextBlock, FloatLiteral}
use Rattle.mol_base.proofs.FirstChar.{first_char-some, first_char-is}
use Rattle.jav_print_laws.specs.pieces.Pieces.{breaks, ends_symbol, may_follow}
use Rattle.jav_print_laws.proofs.pieces_lemmas.Bytes.{slash_starts_none, dot_starts_none}
use Rattle.jav_print_laws.proofs.pieces_lemmas.Followed.{line_comment-followed, block_comment-followed, quoted-followed, number-followed, number-literal, starts_name-followed, name-followed, name-kind}
use Rattle.jav_print_laws.proofs.pieces_lemmas.Signs.{symbol-followed, symbol-kind, symbol-low, one_sign}

-- what `breaks` says of a byte
record Breaks (b : ℕ) : Type 0 where
  low : b < 128
  no_part : is_part b ≡ false
  no_run : is_run_byte b ≡ false
  no_quote : nat_eq b 34 ≡ false

pub four_parts : (w x y z : Bool) → (w && not x && not y && not z) ≡ true → (w ≡ true) × (x ≡ false) × (y ≡ false) × (z ≡ false)
four_parts true false false false h = (refl, refl, refl, refl)
four_parts false x y z h = absurd cc
four_parts true true y z h = absurd cc
four_parts true false true z h = absurd cc
four_parts true false false true h = absurd cc

breaks-parts : (b : ℕ) → breaks b ≡ true → Breaks b
unfolding breaks
breaks-parts b h = let p = four_parts (nat_lt b 128) (is_part b) (is_run_byte b) (nat_eq b 34) h in
    record { low = ltb-true b 128 p.0; no_part = p.1; no_run = p.2; no_quote = p.3 }

-- a byte that is no part of a name goes on with none
pub ascii_one : (b : ℕ) → b < 128 → IsAscii (b ∷ [])
ascii_one b low zero = low
ascii_one b low (suc i) = omega (arith, past i) where
  past : (k : ℕ) → get_or {A = ℕ} [] k 0 ≡ 0
  past k = refl

goes_on-nil : goes_on [] ≡ false
unfolding goes_on first_char
goes_on-nil = refl

pub ascii_char : (b : ℕ) (bs : List ℕ) → b < 128 → first_char (b ∷ bs) ≡ Some b
ascii_char b bs low =
    let is : nat_lt b 128 ≡ true = lt-ltb b 128 low in
    let text : take (width b) (b ∷ bs) ≡ b ∷ [] = rw is refl in
    let room : width b ≤ length (b ∷ bs) = rw is (omega arith) in
    let ascii = ascii_one b low in
    first_char-is (b ∷ bs) room (rw text (IsUtf8-from_ascii (b ∷ []) ascii)) ∙ rw (text, chars-IsAscii (b ∷ []) ascii) refl

goes_on-not : (r : List ℕ) → breaks (first r) ≡ true → goes_on r ≡ false
unfolding goes_on
goes_on-not [] h = goes_on-nil
goes_on-not (b ∷ bs) h = let p = breaks-parts b h in rw (ascii_char b bs p.low) p.no_part

-- what kind says of the neighbour
kind_literal : (t : List ℕ) (kind : TokenKind) (b : ℕ) → Literal ≡ kind → may_follow kind t b ≡ true → (breaks b ≡ true) × ((is_digit (first t) && nat_eq b 46) ≡ false)
unfolding may_follow
kind_literal t kind b is h = let p = and_parts (breaks b) _ (rw (← is) at h) in (p.0, not-true _ p.1)

kind_symbol : (t : List ℕ) (kind : TokenKind) (b : ℕ) → Symbol ≡ kind → may_follow kind t b ≡ true → ends_symbol t b ≡ true
unfolding may_follow
kind_symbol t kind b is h = (and_parts (ends_symbol t b) _ (rw (← is) at h)).0

kind_comment : (t : List ℕ) (kind : TokenKind) (b : ℕ) → Comment ≡ kind → may_follow kind t b ≡ true → is_line_end b ≡ true
unfolding may_follow
kind_comment t kind b is h = rw (← is) at h

kind_word : (t : List ℕ) (kind : TokenKind) (b : ℕ) → word_kind t ≡ kind → may_follow kind t b ≡ true → breaks b ≡ true
unfolding may_follow word_kind
kind_word t kind b is h = by_kind (is_keyword t) (is_word_literal t) (rw (← is) at h) where
  by_kind : (x y : Bool) → may_follow (cond x Keyword (cond y Literal Word)) t b ≡ true → breaks b ≡ true
  by_kind true y h = h
  by_kind false true h = (and_parts (breaks b) _ h).0
  by_kind false false h = h

-- The tests of the first bytes come out on the text with what follows as they do on the text alone.
record Alike (t s : List ℕ) : Type 0 where
  slashes : (nat_eq (first t) 47 && nat_eq (second s) 47) ≡ (nat_eq (first t) 47 && nat_eq (second t) 47)
  starred : (nat_eq (first t) 47 && nat_eq (second s) 42) ≡ (nat_eq (first t) 47 && nat_eq (second t) 42)
  quotes : (nat_eq (first t) 34 && nat_eq (second s) 34 && nat_eq (third s) 34) ≡ (nat_eq (first t) 34 && nat_eq (second t) 34 && nat_eq (third t) 34)
  dotted : (nat_eq (first t) 46 && is_digit (second s)) ≡ (nat_eq (first t) 46 && is_digit (second t))

if_first : (p x y : Bool) → (p ≡ true → x ≡ y) → (p && x) ≡ (p && y)
if_first true x y same = same refl
if_first false x y same = refl

if_both : (p q x y : Bool) → (p ≡ true → q ≡ true → x ≡ y) → (p && q && x) ≡ (p && q && y)
if_both true true x y same = same refl refl
if_both true false x y same = refl
if_both false q x y same = refl

if_never : (p x y z w : Bool) → (p ≡ true → ⊥) → (p && x && y) ≡ (p && z && w)
if_never true x y z w never = absurd (never refl)
if_never false x y z w never = refl

abbrev IsWhole : List ℕ → TokenKind → Type 0
IsWhole t kind = front t ≡ Taken kind (length t)

slash_is : front (47 ∷ []) ≡ Taken Symbol 1
unfolding front symbol starts_name
slash_is = rw (ascii_char 47 [] (omega arith), slash_starts_none) refl

slash_alone : (kind : TokenKind) → IsWhole (47 ∷ []) kind → Symbol ≡ kind
slash_alone kind is = let e = slash_is in cc

dot_is : front (46 ∷ []) ≡ Taken Symbol 1
unfolding front symbol starts_name
dot_is = rw (ascii_char 46 [] (omega arith), dot_starts_none) refl

dot_alone : (kind : TokenKind) → IsWhole (46 ∷ []) kind → Symbol ≡ kind
dot_alone kind is = let e = dot_is in cc

quote_alone : (kind : TokenKind) → IsWhole (34 ∷ []) kind → ⊥
unfolding front quoted
quote_alone kind is = cc

two_quotes : (kind : TokenKind) → IsWhole (34 ∷ 34 ∷ []) kind → Literal ≡ kind
unfolding front quoted fits_between
two_quotes kind is = cc

or_parts : (x y : Bool) → (x || y) ≡ false → (x ≡ false) × (y ≡ false)
or_parts true y h = absurd cc
or_parts false y h = (refl, h)

alike : (t r : List ℕ) (kind : TokenKind) → 0 < length t → IsWhole t kind → may_follow kind t (first r) ≡ true → Alike t (t ++ r)
alike [] r kind some is ends = absurd (omega arith)
alike (a ∷ c ∷ d ∷ u) r kind some is ends = record { slashes = refl; starred = refl; quotes = refl; dotted = refl }
alike (a ∷ c ∷ []) r kind some is ends = record {
  slashes = refl;
  starred = refl;
  dotted = refl;
  quotes = if_both (nat_eq a 34) (nat_eq c 34) (nat_eq (first r) 34) false (λ x y.
      let a' : a ≡ 34 = eqb-true a 34 x in let c' : c ≡ 34 = eqb-true c 34 y in
      let lit = two_quotes kind (rw (a', c') at is) in
      (breaks-parts (first r) (kind_literal _ kind (first r) lit ends).0).no_quote);
}
alike (a ∷ []) r kind some is ends = record {
  slashes = if_first (nat_eq a 47) (nat_eq (first r) 47) false (λ x. (or_parts _ _ (slash x)).0);
  starred = if_first (nat_eq a 47) (nat_eq (first r) 42) false (λ x. (or_parts _ _ (slash x)).1);
  quotes = if_never (nat_eq a 34) (nat_eq (first r) 34) (nat_eq (second r) 34) false false (λ x. let a' : a ≡ 34 = eqb-true a 34 x in quote_alone kind (rw a' at is));
  dotted = if_first (nat_eq a 46) (is_digit (first r)) false (λ x. (or_parts _ _ (dot x)).1);
}
  where
    slash : nat_eq a 47 ≡ true → (nat_eq (first r) 47 || nat_eq (first r) 42) ≡ false
    slash x =
        let a' : a ≡ 47 = eqb-true a 47 x in
        let sign = one_sign a (first r) (kind_symbol _ kind (first r) (slash_alone kind (rw a' at is)) ends) in
        rw x at sign.2

    dot : nat_eq a 46 ≡ true → (nat_eq (first r) 46 || is_digit (first r)) ≡ false
    dot x =
        let a' : a ≡ 46 = eqb-true a 46 x in
        let sign = one_sign a (first r) (kind_symbol _ kind (first r) (dot_alone kind (rw a' at is)) ends) in
        rw x at sign.1

-- one test, and what each of its branches gives
branch : {A : Type 0} (b c : Bool) (x y z w v : A) → c ≡ b → (b ≡ true → x ≡ v → z ≡ v) → (b ≡ false → y ≡ v → w ≡ v) → cond b x y ≡ v → cond c z w ≡ v
branch true c x y z w v same holds otherwise h = rw same (holds refl h)
branch false c x y z w v same holds otherwise h = rw same (otherwise refl h)

starts_name-whole : (t : List ℕ) → starts_name t ≡ true → width (first t) ≤ length t
unfolding starts_name
starts_name-whole t h = (first_char-some t (by_char (first_char t) h)).0 where
  by_char : (o : Option ℕ) → option_map_or is_start o false ≡ true → is_some o ≡ true
  by_char None h' = cc
  by_char (Some c) h' = refl

low_whole : (t : List ℕ) → 0 < length t → first t < 128 → width (first t) ≤ length t
low_whole t some low = let e = lt-ltb (first t) 128 low in rw e (omega arith)

starts_alike : (t r : List ℕ) (kind : TokenKind) → 0 < length t → cond (starts_name t) (name t) (symbol t) ≡ Taken kind (length t) → starts_name (t ++ r) ≡ starts_name t
starts_alike t r kind some is = starts_name-followed t r some (by_test (starts_name t) refl is) where
  by_test : (b : Bool) → starts_name t ≡ b → cond b (name t) (symbol t) ≡ Taken kind (length t) → width (first t) ≤ length t
  by_test true starts _ = starts_name-whole t starts
  by_test false _ sign = low_whole t some (symbol-low t kind (length t) sign)

line_kind : (t : List ℕ) (kind : TokenKind) (n : ℕ) → line_comment t ≡ Taken kind n → Comment ≡ kind
unfolding line_comment
line_kind t kind n is = cc

-- the law
pub front-followed : (t r : List ℕ) (kind : TokenKind) → 0 < length t → IsWhole t kind → may_follow kind t (first r) ≡ true → front (t ++ r) ≡ Taken kind (length t)
unfolding front
front-followed [] r kind some is ends = absurd (omega arith)
front-followed (a ∷ u) r kind some is ends =
    let t = a ∷ u in let s = t ++ r in let b = first r in let v = Taken kind (length t) in
    let same = alike t r kind some is ends in
    branch (is_space a) (is_space a) Space _ Space _ v refl (λ _ h. absurd cc)
    (λ _. branch (nat_eq a 47 && nat_eq (second t) 47) _ (line_comment t) _ (line_comment s) _ v same.slashes
    (λ _ h. line_comment-followed t r kind h (kind_comment t kind b (line_kind t kind _ h) ends))
    (λ _. branch (nat_eq a 47 && nat_eq (second t) 42) _ (block_comment t) _ (block_comment s) _ v same.starred
    (λ star h. block u star h)
    (λ _. branch (nat_eq a 34 && nat_eq (second t) 34 && nat_eq (third t) 34) _ (Wrong TextBlock 0) _ (Wrong TextBlock 0) _ v same.quotes (λ _ h. absurd cc)
    (λ _. branch (nat_eq a 34 || nat_eq a 39) _ (quoted a t) _ (quoted a s) _ v refl
    (λ _ h. quoted-followed a a u r kind h)
    (λ _. branch (is_digit a) _ (number t) _ (number s) _ v refl
    (λ digit h.
    let lit = kind_literal t kind b (number-literal t _ kind h) ends in
    number-followed t r kind h (breaks-parts b lit.0).no_run (rw digit at lit.1))
    (λ _. branch (nat_eq a 46 && is_digit (second t)) _ (Wrong FloatLiteral 0) _ (Wrong FloatLiteral 0) _ v same.dotted (λ _ h. absurd cc)
    (λ _ last. branch (starts_name t) _ (name t) (symbol t) (name s) (symbol s) v (starts_alike t r kind some last)
    (λ _ h. name-followed t r kind some h (goes_on-not r (kind_word t kind b (name-kind t kind h) ends)))
    (λ _ h. symbol-followed t r kind h (kind_symbol t kind b (symbol-kind t kind _ h) ends)) last))))))) is
  where
    block : (u' : List ℕ) → (nat_eq a 47 && nat_eq (first u') 42) ≡ true → block_comment (a ∷ u') ≡ Taken kind (length (a ∷ u')) → block_comment (a ∷ u' ++ r) ≡ Taken kind (length (a ∷ u'))
    block [] star h = absurd (grind (arith, nat_tests, (and_parts (nat_eq a 47) _ star).1))
    block (c ∷ u') star h = block_comment-followed a c u' r kind h
