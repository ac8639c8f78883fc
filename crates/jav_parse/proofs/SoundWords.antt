-- Modifiers that are read.
use Rattle.std.proofs.Common.{◌≡◌, ℕ, zero, suc, ◌&&◌, ◌||◌, ◌⊎◌, inl, inr, Bool, true, false, if◌then◌else◌, List, [], ◌∷◌, ◌++◌, codes, Some, None, Ok, Err, refl, sym, ap, ◌∙◌, subst, append_assoc, arith}
use Rattle.std.proofs.lemmas.List.{append-nil}
use Rattle.std.specs.Str.{bytes_eq}
use Rattle.std.proofs.lemmas.Slice.Eq.{bytes_eq-Decides}
use Prim.Native.String.{String}
use Rattle.mol_base.specs.Among.{among}
use Rattle.mol_base.specs.Token.{Token}
use Rattle.mol_base.specs.declared.token_kind.TokenKind.TheVariants as kind
use Rattle.jav_tree.specs.Tokens.{IsSymbol, IsKeyword, IsName}
use Rattle.jav_tree.specs.Words as tree
use Rattle.jav_tree.specs.Words.{Words}
use Rattle.jav_parse_cursor.specs.declared.sort.Sort.{Sort}
use Rattle.jav_parse_cursor.specs.declared.sort.Sort.TheVariants as sort
use Rattle.jav_parse_unit.specs.declared.words.Words.{Words as Modifiers}
use Rattle.jav_parse_cursor.specs.Reading.{Parser, ◌>>=◌, ◌>>◌, pure, refuse, peek, take_token, when_next, expect_override}
use Rattle.jav_parse_cursor.specs.Reading as reading
use Rattle.jav_parse_cursor.specs.Sorts.{sort_of, same_sort}
use Rattle.jav_parse_unit.specs.WordRules as rules
use Rattle.jav_parse.proofs.Meets.{Meets, Spelling, Some_of, ReadsAt, Reads, reads_pure, reads_refuse, reads_map, reads_if, reads_bind, reads_token, reads_peek}
use Rattle.jav_parse.proofs.Modifiers.{Marked, marked_at}
use Rattle.jav_parse.proofs.TokenSorts as token
use Rattle.jav_parse.proofs.Written.{keyword_of, is_same}

-- ---- tokens

only : {A : Type 0} → A ⊎ ⊥ → A
only (inl a) = a
only (inr n) = absurd n

public_is : (t : Token) → sort_of t ≡ sort.Public → IsKeyword "public" t
unfolding same_sort
public_is t h = let k = keyword_of t sort.Public (refl, refl, refl, refl) (λ w n. n) h in record { keyword = k.0; written = only k.1 }

protected_is : (t : Token) → sort_of t ≡ sort.Protected → IsKeyword "protected" t
unfolding same_sort
protected_is t h = let k = keyword_of t sort.Protected (refl, refl, refl, refl) (λ w n. n) h in record { keyword = k.0; written = only k.1 }

private_is : (t : Token) → sort_of t ≡ sort.Private → IsKeyword "private" t
unfolding same_sort
private_is t h = let k = keyword_of t sort.Private (refl, refl, refl, refl) (λ w n. n) h in record { keyword = k.0; written = only k.1 }

abstract_is : (t : Token) → sort_of t ≡ sort.Abstract → IsKeyword "abstract" t
unfolding same_sort
abstract_is t h = let k = keyword_of t sort.Abstract (refl, refl, refl, refl) (λ w n. n) h in record { keyword = k.0; written = only k.1 }

static_is : (t : Token) → sort_of t ≡ sort.Static → IsKeyword "static" t
unfolding same_sort
static_is t h = let k = keyword_of t sort.Static (refl, refl, refl, refl) (λ w n. n) h in record { keyword = k.0; written = only k.1 }

transient_is : (t : Token) → sort_of t ≡ sort.Transient → IsKeyword "transient" t
unfolding same_sort
transient_is t h = let k = keyword_of t sort.Transient (refl, refl, refl, refl) (λ w n. n) h in record { keyword = k.0; written = only k.1 }

volatile_is : (t : Token) → sort_of t ≡ sort.Volatile → IsKeyword "volatile" t
unfolding same_sort
volatile_is t h = let k = keyword_of t sort.Volatile (refl, refl, refl, refl) (λ w n. n) h in record { keyword = k.0; written = only k.1 }

-- ---- one modifier more

more_words : {words : List (List ℕ)} {ts : List Token} (t : Token) → Words words ts → t.kind ≡ kind.Keyword
    → among ("public" ∷ "protected" ∷ "private" ∷ "abstract" ∷ "static" ∷ "final" ∷ "transient" ∷ "volatile" ∷ []) t.text ≡ true → Words (words ++ t.text ∷ []) (ts ++ t ∷ [])
more_words t tree.none k a = tree.keyword k a tree.none
more_words t (tree.keyword k0 a0 rest) k a = tree.keyword k0 a0 (more_words t rest k a)
more_words t (tree.override s0 n0 e0 rest) k a = tree.override s0 n0 e0 (more_words t rest k a)

overriding : {words : List (List ℕ)} {ts : List Token} {sign t : Token} → Words words ts → IsSymbol "@" sign → IsName t → t.text ≡ codes "Override"
    → Words (words ++ codes "@Override" ∷ []) (ts ++ sign ∷ t ∷ [])
overriding tree.none s n e = tree.override s n e tree.none
overriding (tree.keyword k0 a0 rest) s n e = tree.keyword k0 a0 (overriding rest s n e)
overriding (tree.override s0 n0 e0 rest) s n e = tree.override s0 n0 e0 (overriding rest s n e)

-- modifiers that fit, as marks
pub record AreModifiers (fit : Modifiers → Bool) (w : Modifiers) (ts : List Token) : Type 0 where
  pub list : List (List ℕ)
  pub are : Words list ts
  pub marks : Marked w list
  pub fits : fit w ≡ true

pub no_modifiers : (fit : Modifiers → Bool) → fit rules.no_words ≡ true → AreModifiers fit rules.no_words []
no_modifiers fit h = record { list = []; are = tree.none; marks = (refl, refl, omega arith); fits = h }

-- a keyword more
keyword_more : (fit : Modifiers → Bool) (w more : Modifiers) (ts : List Token) (word : String) (t : Token) → AreModifiers fit w ts → IsKeyword word t
    → among ("public" ∷ "protected" ∷ "private" ∷ "abstract" ∷ "static" ∷ "final" ∷ "transient" ∷ "volatile" ∷ []) (codes word) ≡ true
    → ((list : List (List ℕ)) → Marked w list → Marked more (list ++ codes word ∷ [])) → fit more ≡ true → AreModifiers fit more (ts ++ t ∷ [])
keyword_more fit w more ts word t m k a step f = record {
  list = m.list ++ codes word ∷ [];
  are = rw (sym k.written) (more_words t m.are k.keyword (rw (k.written) a));
  marks = step m.list m.marks;
  fits = f;
}

none_of : (a b c : Bool) → (a || (b || c)) ≡ false → (a ≡ false) × (b ≡ false) × (c ≡ false)
none_of true b c h = absurd (cc)
none_of false true c h = absurd (cc)
none_of false false true h = absurd (cc)
none_of false false false h = (refl, refl, refl)

pub public_more : (w : Modifiers) (list : List (List ℕ)) → rules.has_access w ≡ false → Marked w list → Marked (record w { is_public = true }) (list ++ codes "public" ∷ [])
public_more w list h m =
    let a = none_of w.is_public w.is_protected w.is_private h in
    marked_at 1 w (record w { is_public = true }) list (codes "public") (omega arith) m refl (rw (a.0) refl) refl (rw (a.1, a.2) (omega arith))

pub protected_more : (w : Modifiers) (list : List (List ℕ)) → rules.has_access w ≡ false → Marked w list → Marked (record w { is_protected = true }) (list ++ codes "protected" ∷ [])
protected_more w list h m =
    let a = none_of w.is_public w.is_protected w.is_private h in
    marked_at 2 w (record w { is_protected = true }) list (codes "protected") (omega arith) m refl (rw (a.1) refl) refl (rw (a.0, a.2) (omega arith))

pub private_more : (w : Modifiers) (list : List (List ℕ)) → rules.has_access w ≡ false → Marked w list → Marked (record w { is_private = true }) (list ++ codes "private" ∷ [])
private_more w list h m =
    let a = none_of w.is_public w.is_protected w.is_private h in
    marked_at 3 w (record w { is_private = true }) list (codes "private") (omega arith) m refl (rw (a.2) refl) refl (rw (a.0, a.1) (omega arith))

pub override_marks : (w : Modifiers) (list : List (List ℕ)) → w.overrides ≡ false → Marked w list → Marked (record w { overrides = true }) (list ++ codes "@Override" ∷ [])
override_marks w list h m = marked_at 0 w (record w { overrides = true }) list (codes "@Override") (omega arith) m refl (rw h refl) refl m.2

pub abstract_more : (w : Modifiers) (list : List (List ℕ)) → w.is_abstract ≡ false → Marked w list → Marked (record w { is_abstract = true }) (list ++ codes "abstract" ∷ [])
abstract_more w list h m = marked_at 4 w (record w { is_abstract = true }) list (codes "abstract") (omega arith) m refl (rw h refl) refl m.2

pub static_more : (w : Modifiers) (list : List (List ℕ)) → w.is_static ≡ false → Marked w list → Marked (record w { is_static = true }) (list ++ codes "static" ∷ [])
static_more w list h m = marked_at 5 w (record w { is_static = true }) list (codes "static") (omega arith) m refl (rw h refl) refl m.2

pub final_more : (w : Modifiers) (list : List (List ℕ)) → w.is_final ≡ false → Marked w list → Marked (record w { is_final = true }) (list ++ codes "final" ∷ [])
final_more w list h m = marked_at 6 w (record w { is_final = true }) list (codes "final") (omega arith) m refl (rw h refl) refl m.2

pub transient_more : (w : Modifiers) (list : List (List ℕ)) → w.is_transient ≡ false → Marked w list → Marked (record w { is_transient = true }) (list ++ codes "transient" ∷ [])
transient_more w list h m = marked_at 7 w (record w { is_transient = true }) list (codes "transient") (omega arith) m refl (rw h refl) refl m.2

pub volatile_more : (w : Modifiers) (list : List (List ℕ)) → w.is_volatile ≡ false → Marked w list → Marked (record w { is_volatile = true }) (list ++ codes "volatile" ∷ [])
volatile_more w list h m = marked_at 8 w (record w { is_volatile = true }) list (codes "volatile") (omega arith) m refl (rw h refl) refl m.2

-- ---- reading

like : {A : Type 0} {S : Spelling A} {P : Sort → Type 0} (p q : Parser A) → ReadsAt S P p → ((ts : List Token) → P (reading.sort ts) → q ts ≡ p ts) → ReadsAt S P q
like {A} {S} p q h e = record { at = λ ts s. subst (Meets S ts) (sym (e ts s)) (h.at ts s) }

word_by : (ts : List Token) (s : Sort) → reading.sort ts ≡ s → same_sort s sort.At ≡ false → rules.take_word ts ≡ take_token ts
unfolding rules.take_word
word_by ts s e n = rw (e, n) refl

override_by : (ts : List Token) → reading.sort ts ≡ sort.At → rules.take_word ts ≡ reading.and_then (take_token ts) (λ x. expect_override)
unfolding rules.take_word same_sort
override_by ts e = rw e refl

keyword_then : {B : Type 0} {S : Spelling B} (k : Parser B) (s : Sort) → (sort.End ≡ s → ⊥) → same_sort s sort.At ≡ false
    → ((t : Token) → sort_of t ≡ s → Reads (λ y vs. S y (t ∷ vs)) k) → ReadsAt S (λ u. u ≡ s) (rules.take_word >> k)
keyword_then k s n e h = like (take_token >> k) (rules.take_word >> k) (reads_token n h) (λ ts q. ap (λ o. reading.and_then o (λ x. k)) (word_by ts s q e))

IsOverride : Token → List Token → Type 0
IsOverride t us = (us ≡ t ∷ []) × IsName t × (t.text ≡ codes "Override")

an_override : Token
an_override = record { kind = kind.Word; text = codes "Override"; start = 0; end = 0 }

an_override_is : IsOverride an_override (an_override ∷ [])
unfolding IsOverride an_override
an_override_is = (refl, record { word = refl }, refl)

named_override : (a b : Bool) (t : Token) (ts : List Token) → (a ≡ true → IsName t) → (b ≡ true → t.text ≡ codes "Override") → Meets IsOverride (t ∷ ts) ((if a && b then Ok (t, ts) else Err (t ∷ ts)))
unfolding IsOverride
named_override true true t ts f g = (t ∷ [], refl, (refl, f refl, g refl))
named_override true false t ts f g = ([], refl, an_override ∷ [], an_override, an_override_is)
named_override false b t ts f g = ([], refl, an_override ∷ [], an_override, an_override_is)

override_meets : (ts : List Token) → Meets IsOverride ts (expect_override ts)
unfolding expect_override
override_meets [] = ([], refl, an_override ∷ [], an_override, an_override_is)
override_meets (t ∷ ts) = named_override (same_sort (sort_of t) sort.Name) (bytes_eq t.text (codes "Override")) t ts (λ e. token.name_is t (is_same (sort_of t) sort.Name e)) (λ e. (bytes_eq-Decides t.text (codes "Override")).0 e)

bind_twice : {A B C : Type 0} (o : reading.Outcome A) (f : A → Parser B) (g : B → Parser C) → reading.and_then (reading.and_then o f) g ≡ reading.and_then o (λ x. f x >>= g)
bind_twice (Ok x) f g = refl
bind_twice (Err bad) f g = refl

override_then : {B : Type 0} {S : Spelling B} (k : Parser B) → ((sign t : Token) → IsSymbol "@" sign → IsName t → t.text ≡ codes "Override" → Reads (λ y vs. S y (sign ∷ t ∷ vs)) k)
    → ReadsAt S (λ u. u ≡ sort.At) (rules.take_word >> k)
unfolding IsOverride
override_then k h = like (take_token >> (expect_override >> k)) (rules.take_word >> k)
    (reads_token (λ z. cc) (λ sign hs. reads_bind (record { at = λ ts q. override_meets ts }) (λ t us e. reads_map (h sign t (token.at_is sign hs) e.1 e.2) (λ y vs r. rw (e.0) r))))
    (λ ts q. ap (λ o. reading.and_then o (λ x. k)) (override_by ts q) ∙ bind_twice (take_token ts) (λ x. expect_override) (λ x. k))

-- one more where it is not there yet
once_then : {A : Type 0} {S : Spelling A} {P : Sort → Type 0} (b : Bool) (more : Modifiers) (f : Modifiers → Parser A) → Some_of S → (b ≡ false → ReadsAt S P (f more))
    → ReadsAt S P (elim (rules.once b more) [ Some m ↦ f m | None ↦ refuse ])
once_then true more f w h = reads_refuse w
once_then false more f w h = h refl

module _ (fit : Modifiers → Bool) where
  abbrev GoesOn : ℕ → Type 0
  GoesOn n = (w : Modifiers) (ts : List Token) → AreModifiers fit w ts → Reads (λ y vs. AreModifiers fit y (ts ++ vs)) (rules.words fit n w)

  abbrev next : ℕ → Modifiers → Parser Modifiers
  next n more = if fit more then rules.take_word >> rules.words fit n more else refuse

  here : (w : Modifiers) (ts : List Token) → AreModifiers fit w ts → Some_of (λ y vs. AreModifiers fit y (ts ++ vs))
  here w ts m = (w, [], rw append-nil m)

  -- a keyword that is not there yet
  reads_keyword : (n : ℕ) → GoesOn n → (w more : Modifiers) (ts : List Token) → AreModifiers fit w ts → (s : Sort) (word : String) → (sort.End ≡ s → ⊥) → same_sort s sort.At ≡ false
      → ((t : Token) → sort_of t ≡ s → IsKeyword word t)
      → among ("public" ∷ "protected" ∷ "private" ∷ "abstract" ∷ "static" ∷ "final" ∷ "transient" ∷ "volatile" ∷ []) (codes word) ≡ true
      → ((list : List (List ℕ)) → Marked w list → Marked more (list ++ codes word ∷ []))
      → ReadsAt (λ y vs. AreModifiers fit y (ts ++ vs)) (λ u. u ≡ s) (next n more)
  reads_keyword n go w more ts m s word e a is known step = reads_if (fit more)
      (λ f. keyword_then (rules.words fit n more) s e a (λ t ht. reads_map (go more (ts ++ t ∷ []) (keyword_more fit w more ts word t m (is t ht) known step f)) (λ y vs k. rw append_assoc at k)))
      (λ f. reads_refuse (here w ts m))

  overridden : (w : Modifiers) (ts : List Token) → AreModifiers fit w ts → w.overrides ≡ false → fit (record w { overrides = true }) ≡ true → (sign t : Token) → IsSymbol "@" sign → IsName t
      → t.text ≡ codes "Override" → AreModifiers fit (record w { overrides = true }) (ts ++ sign ∷ t ∷ [])
  overridden w ts m o f sign t hs hn e = record { list = m.list ++ codes "@Override" ∷ []; are = overriding m.are hs hn e; marks = override_marks w m.list o m.marks; fits = f }

  reads_overriding : (n : ℕ) → GoesOn n → (w : Modifiers) (ts : List Token) → AreModifiers fit w ts → w.overrides ≡ false
      → ReadsAt (λ y vs. AreModifiers fit y (ts ++ vs)) (λ u. u ≡ sort.At) (next n (record w { overrides = true }))
  reads_overriding n go w ts m o = reads_if (fit (record w { overrides = true }))
      (λ f. override_then (rules.words fit n (record w { overrides = true })) (λ sign t hs hn e. reads_map (go (record w { overrides = true }) (ts ++ sign ∷ t ∷ []) (overridden w ts m o f sign t hs hn e)) (λ y vs k. rw append_assoc at k)))
      (λ f. reads_refuse (here w ts m))

  reads_by : (n : ℕ) → GoesOn n → (w : Modifiers) (ts : List Token) → AreModifiers fit w ts → (s : Sort)
      → ReadsAt (λ y vs. AreModifiers fit y (ts ++ vs)) (λ u. u ≡ s) (if rules.is_word s then elim (rules.and_word w s) [ Some more ↦ next n more | None ↦ refuse ] else pure w)
  unfolding same_sort
  reads_by n go w ts m sort.At = once_then w.overrides (record w { overrides = true }) (next n) (here w ts m) (λ q. reads_overriding n go w ts m q)
  reads_by n go w ts m sort.Public = once_then (rules.has_access w) (record w { is_public = true }) (next n) (here w ts m)
      (λ q. reads_keyword n go w (record w { is_public = true }) ts m sort.Public "public" (λ z. cc) refl public_is refl (λ list k. public_more w list q k))
  reads_by n go w ts m sort.Protected = once_then (rules.has_access w) (record w { is_protected = true }) (next n) (here w ts m)
      (λ q. reads_keyword n go w (record w { is_protected = true }) ts m sort.Protected "protected" (λ z. cc) refl protected_is refl (λ list k. protected_more w list q k))
  reads_by n go w ts m sort.Private = once_then (rules.has_access w) (record w { is_private = true }) (next n) (here w ts m)
      (λ q. reads_keyword n go w (record w { is_private = true }) ts m sort.Private "private" (λ z. cc) refl private_is refl (λ list k. private_more w list q k))
  reads_by n go w ts m sort.Abstract = once_then w.is_abstract (record w { is_abstract = true }) (next n) (here w ts m)
      (λ q. reads_keyword n go w (record w { is_abstract = true }) ts m sort.Abstract "abstract" (λ z. cc) refl abstract_is refl (λ list k. abstract_more w list q k))
  reads_by n go w ts m sort.Static = once_then w.is_static (record w { is_static = true }) (next n) (here w ts m)
      (λ q. reads_keyword n go w (record w { is_static = true }) ts m sort.Static "static" (λ z. cc) refl static_is refl (λ list k. static_more w list q k))
  reads_by n go w ts m sort.Final = once_then w.is_final (record w { is_final = true }) (next n) (here w ts m)
      (λ q. reads_keyword n go w (record w { is_final = true }) ts m sort.Final "final" (λ z. cc) refl token.final_is refl (λ list k. final_more w list q k))
  reads_by n go w ts m sort.Transient = once_then w.is_transient (record w { is_transient = true }) (next n) (here w ts m)
      (λ q. reads_keyword n go w (record w { is_transient = true }) ts m sort.Transient "transient" (λ z. cc) refl transient_is refl (λ list k. transient_more w list q k))
  reads_by n go w ts m sort.Volatile = once_then w.is_volatile (record w { is_volatile = true }) (next n) (here w ts m)
      (λ q. reads_keyword n go w (record w { is_volatile = true }) ts m sort.Volatile "volatile" (λ z. cc) refl volatile_is refl (λ list k. volatile_more w list q k))
  reads_by n go w ts m s = reads_pure w (rw append-nil m)

  pub reads_words : (n : ℕ) → GoesOn n
  unfolding rules.words
  reads_words zero = λ w ts m. reads_refuse (here w ts m)
  reads_words (suc n) = λ w ts m. reads_peek (reads_by n (reads_words n) w ts m)
