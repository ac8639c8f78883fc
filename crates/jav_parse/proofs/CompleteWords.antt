-- Modifiers of the grammar are read.
use Rattle.std.proofs.Common.{◌≡◌, ℕ, zero, suc, ◌+◌, ◌<◌, ◌≤◌, ◌||◌, Bool, true, false, cond, List, [], ◌∷◌, ◌++◌, map, codes, length, Some, Ok, refl, sym, ap, ◌∙◌, subst, append_assoc, append-nil, arith}
use Rattle.std.proofs.lemmas.List.Sums.{sum_by-append}
use Rattle.std.proofs.lemmas.List.Folds.{list_any-append}
use Rattle.std.proofs.lemmas.Slice.Eq.{bytes_eq-Decides}
use Rattle.std.specs.List.{list_any}
use Rattle.std.specs.Str.{bytes_eq}
use Prim.Native.String.{String}
use Rattle.mol_base.specs.Among.{among}
use Rattle.mol_base.specs.Modifiers.{times}
use Rattle.mol_base.specs.Token.{Token}
use Rattle.mol_base.specs.declared.token_kind.TokenKind.TheVariants as kind
use Rattle.jav_tree.specs.Tokens.{IsSymbol, IsName, IsKeyword}
use Rattle.jav_tree.specs.Words as tree
use Rattle.jav_tree.specs.Words.{Words}
use Rattle.jav_parse_cursor.specs.declared.sort.Sort.{Sort}
use Rattle.jav_parse_cursor.specs.declared.sort.Sort.TheVariants as sort
use Rattle.jav_parse_unit.specs.declared.words.Words.{Words as Modifiers}
use Rattle.jav_parse_cursor.specs.Reading.{take_token, sort as next, expect_override}
use Rattle.jav_parse_cursor.specs.Sorts.{sort_of, same_sort}
use Rattle.jav_parse_unit.specs.WordRules as rules
use Rattle.jav_parse.proofs.Modifiers.{Marked, Within, bits, bit, nine, has_marks, nth_number}
use Rattle.jav_parse.proofs.SortsOfTokens.{name_sort, keyword_sort, symbol_sort}
use Rattle.jav_parse.proofs.SoundWords as step

-- which of nine stand in a list
abbrev pub marks_of : List (List ℕ) → List Bool
marks_of words = map (λ w. list_any (bytes_eq w) words) nine

-- ---- one modifier

keyword_goes : (fit : Modifiers → Bool) (n : ℕ) (w more : Modifiers) (t : Token) (rest : List Token) (s : Sort) → sort_of t ≡ s → rules.is_word s ≡ true → same_sort s sort.At ≡ false
    → rules.and_word w s ≡ Some more → fit more ≡ true → rules.words fit (suc n) w (t ∷ rest) ≡ rules.words fit n more rest
unfolding rules.words rules.take_word next take_token
keyword_goes fit n w more t rest s h word at e f = rw (h, word, e, f, h, at) refl

override_taken : (sign t : Token) (rest : List Token) → sort_of sign ≡ sort.At → sort_of t ≡ sort.Name → t.text ≡ codes "Override" → rules.take_word (sign ∷ t ∷ rest) ≡ Ok (t, rest)
unfolding rules.take_word expect_override next take_token same_sort
override_taken sign t rest h k e = rw (h, k, e) refl

override_goes : (fit : Modifiers → Bool) (n : ℕ) (w : Modifiers) (sign t : Token) (rest : List Token) → sort_of sign ≡ sort.At → sort_of t ≡ sort.Name → t.text ≡ codes "Override"
    → w.overrides ≡ false → fit (record w { overrides = true }) ≡ true → rules.words fit (suc n) w (sign ∷ t ∷ rest) ≡ rules.words fit n (record w { overrides = true }) rest
unfolding rules.words next
override_goes fit n w sign t rest h k e o f = rw (h, o, f, override_taken sign t rest h k e) refl

words_end : (fit : Modifiers → Bool) (n : ℕ) (w : Modifiers) (rest : List Token) → rules.is_word (next rest) ≡ false → rules.words fit (suc n) w rest ≡ Ok (w, rest)
unfolding rules.words
words_end fit n w rest h = rw h refl

-- ---- what may be read

or_left : (a b : Bool) → a ≡ true → (a || b) ≡ true
or_left true b h = refl
or_left false b h = absurd (cc)

within_more : (done rest : List (List ℕ)) (ws : List (List ℕ)) → Within (map (λ w. list_any (bytes_eq w) done) ws) (map (λ w. list_any (bytes_eq w) (done ++ rest)) ws)
within_more done rest [] = tt
within_more done rest (w ∷ ws) = ((λ h. list_any-append (bytes_eq w) done rest ∙ or_left (list_any (bytes_eq w) done) (list_any (bytes_eq w) rest) h), within_more done rest ws)

-- the marks of a part of a list
pub within_total : (w : Modifiers) (done rest : List (List ℕ)) → Marked w done → Within (bits w) (marks_of (done ++ rest))
within_total w done rest m = subst (λ bs. Within bs (marks_of (done ++ rest))) (has_marks done nine (bits w) m.0) (within_more done rest nine)

bit_none : (b : Bool) → bit b ≡ 0 → b ≡ false
bit_none true h = absurd (omega arith)
bit_none false h = refl

times_all : (done rest : List (List ℕ)) (x w : List ℕ) → times (done ++ x ∷ rest) w ≡ times done w + (0 + cond (bytes_eq w x) 1 0 + times rest w)
times_all done rest x w = sum_by-append (λ t. cond (bytes_eq w t) 1 0) done (x ∷ rest) ∙ ap (λ r. times done w + r) (sum_by-append (λ t. cond (bytes_eq w t) 1 0) (x ∷ []) rest)

-- what stands in a list once is not yet marked before it
free : (done rest : List (List ℕ)) (x : List ℕ) (b : Bool) → bytes_eq x x ≡ true → times done x ≡ bit b → times (done ++ x ∷ rest) x ≤ 1 → b ≡ false
free done rest x b same e few =
    let t : times (done ++ x ∷ rest) x ≡ times done x + (0 + 1 + times rest x) = times_all done rest x x ∙ ap (λ c. times done x + (0 + cond c 1 0 + times rest x)) same in
    bit_none b (omega arith)

-- What holds of a list of modifiers that may be read: none stands twice, at most one access word, and each part fits.
pub record MayBeRead (fit : Modifiers → Bool) (words : List (List ℕ)) : Type 0 where
  pub once : (x : String) → times words (codes x) ≤ 1
  pub access : times words (codes "public") + times words (codes "protected") + times words (codes "private") ≤ 1
  pub fits : (w : Modifiers) → Within (bits w) (marks_of words) → fit w ≡ true

no_access_by : (a b c : Bool) → bit a + bit b + bit c ≡ 0 → rules.has_access (record rules.no_words { is_public = a; is_protected = b; is_private = c }) ≡ false
no_access_by true b c h = absurd (omega arith)
no_access_by false true c h = absurd (omega arith)
no_access_by false false true h = absurd (omega arith)
no_access_by false false false h = refl

no_access : (w : Modifiers) (done rest : List (List ℕ)) (x : List ℕ) → Marked w done → times (done ++ x ∷ rest) (codes "public") + times (done ++ x ∷ rest) (codes "protected") + times (done ++ x ∷ rest) (codes "private") ≤ 1
    → 1 ≤ cond (bytes_eq (codes "public") x) 1 0 + cond (bytes_eq (codes "protected") x) 1 0 + cond (bytes_eq (codes "private") x) 1 0 → rules.has_access w ≡ false
no_access w done rest x m few one =
    let a : times done (codes "public") ≡ bit w.is_public = ap (nth_number 1) m.0 in
    let b : times done (codes "protected") ≡ bit w.is_protected = ap (nth_number 2) m.0 in
    let c : times done (codes "private") ≡ bit w.is_private = ap (nth_number 3) m.0 in
    let d = times_all done rest x (codes "public") in
    let e = times_all done rest x (codes "protected") in
    let f = times_all done rest x (codes "private") in
    no_access_by w.is_public w.is_protected w.is_private (omega arith)

-- ---- one after another

-- from these marks on, these tokens are read to the marks of all
record Reaches (fit : Modifiers → Bool) (total : List (List ℕ)) (w : Modifiers) (us : List Token) : Type 0 where
  last : Modifiers
  marks : Marked last total
  read : (n : ℕ) (rest : List Token) → length us < n → rules.is_word (next rest) ≡ false → rules.words fit n w (us ++ rest) ≡ Ok (last, rest)

end_by : (fit : Modifiers → Bool) (w : Modifiers) (n : ℕ) (rest : List Token) → 0 < n → rules.is_word (next rest) ≡ false → rules.words fit n w rest ≡ Ok (w, rest)
end_by fit w zero rest p h = absurd (omega arith)
end_by fit w (suc n) rest p h = words_end fit n w rest h

by_turns : (n : ℕ) (P : ℕ → Type 0) → 0 < n → ((m : ℕ) → n ≡ suc m → P (suc m)) → P n
by_turns zero P p f = absurd (omega arith)
by_turns (suc n) P p f = f n refl

or_elim : {C : Type 0} (a b : Bool) → (a || b) ≡ true → (a ≡ true → C) → (b ≡ true → C) → C
or_elim true b h f g = f refl
or_elim false b h f g = g h

module _ (fit : Modifiers → Bool) (total : List (List ℕ)) (may : MayBeRead fit total) where
  keyword_reaches : (w more : Modifiers) (t : Token) (ts : List Token) (s : Sort) → sort_of t ≡ s → rules.is_word s ≡ true → same_sort s sort.At ≡ false
      → rules.and_word w s ≡ Some more → fit more ≡ true → Reaches fit total more ts → Reaches fit total w (t ∷ ts)
  keyword_reaches w more t ts s h word at e f r = record {
    last = r.last;
    marks = r.marks;
    read = λ n rest few q. by_turns n (λ m. rules.words fit m w (t ∷ ts ++ rest) ≡ Ok (r.last, rest)) (omega arith) (λ m less. keyword_goes fit m w more t (ts ++ rest) s h word at e f ∙ r.read m rest (omega arith) q);
  }

  -- one keyword, and those after it
  one_keyword : (w more : Modifiers) (done words : List (List ℕ)) (t : Token) (ts : List Token) (x : String) (s : Sort) → Marked more (done ++ codes x ∷ []) → t.text ≡ codes x → total ≡ done ++ t.text ∷ words
      → sort_of t ≡ s → rules.is_word s ≡ true → same_sort s sort.At ≡ false → rules.and_word w s ≡ Some more
      → (Marked more (done ++ codes x ∷ []) → total ≡ (done ++ codes x ∷ []) ++ words → Reaches fit total more ts) → Reaches fit total w (t ∷ ts)
  one_keyword w more done words t ts x s m e all h word at k go =
      let next_all : total ≡ (done ++ codes x ∷ []) ++ words = all ∙ ap (λ r. done ++ r ∷ words) e ∙ sym (append_assoc done (codes x ∷ []) words) in
      keyword_reaches w more t ts s h word at k (may.fits more (subst (λ r. Within (bits more) (marks_of r)) (sym next_all) (within_total more (done ++ codes x ∷ []) words m))) (go m next_all)

  -- the list up to here, with the text of this token
  split_at : (done words : List (List ℕ)) (t : Token) (x : String) → total ≡ done ++ t.text ∷ words → t.text ≡ codes x → total ≡ done ++ codes x ∷ words
  split_at done words t x all e = all ∙ ap (λ r. done ++ r ∷ words) e

  unmarked : (done words : List (List ℕ)) (x : String) (b : Bool) → bytes_eq (codes x) (codes x) ≡ true → times done (codes x) ≡ bit b → total ≡ done ++ codes x ∷ words → b ≡ false
  unmarked done words x b same k all = free done words (codes x) b same k (subst (λ r. times r (codes x) ≤ 1) all (may.once x))

  no_access_yet : (w : Modifiers) (done words : List (List ℕ)) (x : String) → Marked w done → total ≡ done ++ codes x ∷ words
      → 1 ≤ cond (bytes_eq (codes "public") (codes x)) 1 0 + cond (bytes_eq (codes "protected") (codes x)) 1 0 + cond (bytes_eq (codes "private") (codes x)) 1 0 → rules.has_access w ≡ false
  no_access_yet w done words x m all one = no_access w done words (codes x) m (subst (λ r. times r (codes "public") + times r (codes "protected") + times r (codes "private") ≤ 1) all may.access) one

  abbrev GoesOn : List (List ℕ) → List Token → Type 0
  GoesOn words ts = (w : Modifiers) (done : List (List ℕ)) → Marked w done → total ≡ done ++ words → Reaches fit total w ts

  public_reaches : (t : Token) (words : List (List ℕ)) (ts : List Token) → GoesOn words ts → IsKeyword "public" t → GoesOn (t.text ∷ words) (t ∷ ts)
  unfolding same_sort
  public_reaches t words ts go k w done m e =
      let all = split_at done words t "public" e k.written in
      let no = no_access_yet w done words "public" m all (omega arith) in
      one_keyword w (record w { is_public = true }) done words t ts "public" sort.Public (step.public_more w done no m) k.written e (keyword_sort "public" t k) refl refl (rw no refl) (λ m1 e1. go (record w { is_public = true }) (done ++ codes "public" ∷ []) m1 e1)

  protected_reaches : (t : Token) (words : List (List ℕ)) (ts : List Token) → GoesOn words ts → IsKeyword "protected" t → GoesOn (t.text ∷ words) (t ∷ ts)
  unfolding same_sort
  protected_reaches t words ts go k w done m e =
      let all = split_at done words t "protected" e k.written in
      let no = no_access_yet w done words "protected" m all (omega arith) in
      one_keyword w (record w { is_protected = true }) done words t ts "protected" sort.Protected (step.protected_more w done no m) k.written e (keyword_sort "protected" t k) refl refl (rw no refl) (λ m1 e1. go (record w { is_protected = true }) (done ++ codes "protected" ∷ []) m1 e1)

  private_reaches : (t : Token) (words : List (List ℕ)) (ts : List Token) → GoesOn words ts → IsKeyword "private" t → GoesOn (t.text ∷ words) (t ∷ ts)
  unfolding same_sort
  private_reaches t words ts go k w done m e =
      let all = split_at done words t "private" e k.written in
      let no = no_access_yet w done words "private" m all (omega arith) in
      one_keyword w (record w { is_private = true }) done words t ts "private" sort.Private (step.private_more w done no m) k.written e (keyword_sort "private" t k) refl refl (rw no refl) (λ m1 e1. go (record w { is_private = true }) (done ++ codes "private" ∷ []) m1 e1)

  abstract_reaches : (t : Token) (words : List (List ℕ)) (ts : List Token) → GoesOn words ts → IsKeyword "abstract" t → GoesOn (t.text ∷ words) (t ∷ ts)
  unfolding same_sort
  abstract_reaches t words ts go k w done m e =
      let all = split_at done words t "abstract" e k.written in
      let no = unmarked done words "abstract" w.is_abstract refl (ap (nth_number 4) m.0) all in
      one_keyword w (record w { is_abstract = true }) done words t ts "abstract" sort.Abstract (step.abstract_more w done no m) k.written e (keyword_sort "abstract" t k) refl refl (rw no refl) (λ m1 e1. go (record w { is_abstract = true }) (done ++ codes "abstract" ∷ []) m1 e1)

  static_reaches : (t : Token) (words : List (List ℕ)) (ts : List Token) → GoesOn words ts → IsKeyword "static" t → GoesOn (t.text ∷ words) (t ∷ ts)
  unfolding same_sort
  static_reaches t words ts go k w done m e =
      let all = split_at done words t "static" e k.written in
      let no = unmarked done words "static" w.is_static refl (ap (nth_number 5) m.0) all in
      one_keyword w (record w { is_static = true }) done words t ts "static" sort.Static (step.static_more w done no m) k.written e (keyword_sort "static" t k) refl refl (rw no refl) (λ m1 e1. go (record w { is_static = true }) (done ++ codes "static" ∷ []) m1 e1)

  final_reaches : (t : Token) (words : List (List ℕ)) (ts : List Token) → GoesOn words ts → IsKeyword "final" t → GoesOn (t.text ∷ words) (t ∷ ts)
  unfolding same_sort
  final_reaches t words ts go k w done m e =
      let all = split_at done words t "final" e k.written in
      let no = unmarked done words "final" w.is_final refl (ap (nth_number 6) m.0) all in
      one_keyword w (record w { is_final = true }) done words t ts "final" sort.Final (step.final_more w done no m) k.written e (keyword_sort "final" t k) refl refl (rw no refl) (λ m1 e1. go (record w { is_final = true }) (done ++ codes "final" ∷ []) m1 e1)

  transient_reaches : (t : Token) (words : List (List ℕ)) (ts : List Token) → GoesOn words ts → IsKeyword "transient" t → GoesOn (t.text ∷ words) (t ∷ ts)
  unfolding same_sort
  transient_reaches t words ts go k w done m e =
      let all = split_at done words t "transient" e k.written in
      let no = unmarked done words "transient" w.is_transient refl (ap (nth_number 7) m.0) all in
      one_keyword w (record w { is_transient = true }) done words t ts "transient" sort.Transient (step.transient_more w done no m) k.written e (keyword_sort "transient" t k) refl refl (rw no refl) (λ m1 e1. go (record w { is_transient = true }) (done ++ codes "transient" ∷ []) m1 e1)

  volatile_reaches : (t : Token) (words : List (List ℕ)) (ts : List Token) → GoesOn words ts → IsKeyword "volatile" t → GoesOn (t.text ∷ words) (t ∷ ts)
  unfolding same_sort
  volatile_reaches t words ts go k w done m e =
      let all = split_at done words t "volatile" e k.written in
      let no = unmarked done words "volatile" w.is_volatile refl (ap (nth_number 8) m.0) all in
      one_keyword w (record w { is_volatile = true }) done words t ts "volatile" sort.Volatile (step.volatile_more w done no m) k.written e (keyword_sort "volatile" t k) refl refl (rw no refl) (λ m1 e1. go (record w { is_volatile = true }) (done ++ codes "volatile" ∷ []) m1 e1)

  keyword_by : (t : Token) (words : List (List ℕ)) (ts : List Token) → GoesOn words ts → t.kind ≡ kind.Keyword
      → among ("public" ∷ "protected" ∷ "private" ∷ "abstract" ∷ "static" ∷ "final" ∷ "transient" ∷ "volatile" ∷ []) t.text ≡ true → GoesOn (t.text ∷ words) (t ∷ ts)
  keyword_by t words ts go k a =
      or_elim (bytes_eq t.text (codes "public")) (among ("protected" ∷ "private" ∷ "abstract" ∷ "static" ∷ "final" ∷ "transient" ∷ "volatile" ∷ []) t.text) a (λ b. public_reaches t words ts go (record { keyword = k; written = (bytes_eq-Decides t.text (codes "public")).0 b })) (λ a1.
      or_elim (bytes_eq t.text (codes "protected")) (among ("private" ∷ "abstract" ∷ "static" ∷ "final" ∷ "transient" ∷ "volatile" ∷ []) t.text) a1 (λ b. protected_reaches t words ts go (record { keyword = k; written = (bytes_eq-Decides t.text (codes "protected")).0 b })) (λ a2.
      or_elim (bytes_eq t.text (codes "private")) (among ("abstract" ∷ "static" ∷ "final" ∷ "transient" ∷ "volatile" ∷ []) t.text) a2 (λ b. private_reaches t words ts go (record { keyword = k; written = (bytes_eq-Decides t.text (codes "private")).0 b })) (λ a3.
      or_elim (bytes_eq t.text (codes "abstract")) (among ("static" ∷ "final" ∷ "transient" ∷ "volatile" ∷ []) t.text) a3 (λ b. abstract_reaches t words ts go (record { keyword = k; written = (bytes_eq-Decides t.text (codes "abstract")).0 b })) (λ a4.
      or_elim (bytes_eq t.text (codes "static")) (among ("final" ∷ "transient" ∷ "volatile" ∷ []) t.text) a4 (λ b. static_reaches t words ts go (record { keyword = k; written = (bytes_eq-Decides t.text (codes "static")).0 b })) (λ a5.
      or_elim (bytes_eq t.text (codes "final")) (among ("transient" ∷ "volatile" ∷ []) t.text) a5 (λ b. final_reaches t words ts go (record { keyword = k; written = (bytes_eq-Decides t.text (codes "final")).0 b })) (λ a6.
      or_elim (bytes_eq t.text (codes "transient")) (among ("volatile" ∷ []) t.text) a6 (λ b. transient_reaches t words ts go (record { keyword = k; written = (bytes_eq-Decides t.text (codes "transient")).0 b })) (λ a7.
      or_elim (bytes_eq t.text (codes "volatile")) (among ([]) t.text) a7 (λ b. volatile_reaches t words ts go (record { keyword = k; written = (bytes_eq-Decides t.text (codes "volatile")).0 b })) (λ a8.
      absurd (cc)))))))))

  override_reaches : (sign t : Token) (words : List (List ℕ)) (ts : List Token) → GoesOn words ts → IsSymbol "@" sign → IsName t → t.text ≡ codes "Override" → GoesOn (codes "@Override" ∷ words) (sign ∷ t ∷ ts)
  override_reaches sign t words ts go hs hn ht w done m e =
      let no = unmarked done words "@Override" w.overrides refl (ap (nth_number 0) m.0) e in
      let more = step.override_marks w done no m in
      let all : total ≡ (done ++ codes "@Override" ∷ []) ++ words = e ∙ sym (append_assoc done (codes "@Override" ∷ []) words) in
      let f = may.fits (record w { overrides = true }) (subst (λ r. Within (bits (record w { overrides = true })) (marks_of r)) (sym all) (within_total (record w { overrides = true }) (done ++ codes "@Override" ∷ []) words more)) in
      let r = go (record w { overrides = true }) (done ++ codes "@Override" ∷ []) more all in
      record {
        last = r.last;
        marks = r.marks;
        read = λ n rest few q. by_turns n (λ k. rules.words fit k w (sign ∷ t ∷ ts ++ rest) ≡ Ok (r.last, rest)) (omega arith)
            (λ k less. override_goes fit k w sign t (ts ++ rest) (symbol_sort "@" sign hs) (name_sort hn) ht no f ∙ r.read k rest (omega arith) q);
      }

  words_reach : {words : List (List ℕ)} {us : List Token} → Words words us → GoesOn words us
  words_reach tree.none w done m e = record { last = w; marks = subst (Marked w) (sym (e ∙ append-nil done)) m; read = λ n rest few q. end_by fit w n rest (omega arith) q }
  words_reach (tree.keyword {t = t} {words = words} {ts = ts} k a c) w done m e = keyword_by t words ts (λ v d m1 e1. words_reach c v d m1 e1) k a w done m e
  words_reach (tree.override {sign = sign} {t = t} {words = words} {ts = ts} s n h c) w done m e = override_reaches sign t words ts (λ v d m1 e1. words_reach c v d m1 e1) s n h w done m e

-- Modifiers that may be read are read, to their marks.
pub record WordsRead (fit : Modifiers → Bool) (words : List (List ℕ)) (us : List Token) : Type 0 where
  pub last : Modifiers
  pub marks : Marked last words
  pub read : (n : ℕ) (rest : List Token) → length us < n → rules.is_word (next rest) ≡ false → rules.words fit n rules.no_words (us ++ rest) ≡ Ok (last, rest)

pub words_read : (fit : Modifiers → Bool) {words : List (List ℕ)} {us : List Token} → MayBeRead fit words → Words words us → WordsRead fit words us
words_read fit {words} {us} may c =
    let r = words_reach fit words may c rules.no_words [] (refl, refl, omega arith) refl in
    record { last = r.last; marks = r.marks; read = r.read }
