-- What a parser reads is spelled so, and what it refuses could have gone on up to the bad token. Laws of the steps, for any grammar.
use Rattle.std.proofs.Common.{◌≡◌, ℕ, Bool, true, false, List, [], ◌∷◌, ◌++◌, Ok, Err, refl, sym, ap, ◌∙◌, subst, append_assoc, if◌then◌else◌}
use Rattle.std.proofs.lemmas.List.{append-nil}
use Rattle.mol_base.specs.Token.{Token}
use Rattle.jav_tree.specs.Tokens.{start_of}
use Rattle.jav_parse_cursor.specs.declared.sort.Sort.{Sort}
use Rattle.jav_parse_cursor.specs.declared.sort.Sort.TheVariants.{End}
use Rattle.jav_parse_cursor.specs.Sorts.{sort_of, same_sort}
use Rattle.jav_parse_cursor.specs.Reading.{Outcome, Parser, and_then, ◌>>=◌, pure, refuse, sort, peek, place, take_token, expect, when_next}
use Rattle.jav_parse.proofs.Written.{is_same}

-- what some tokens spell
abbrev pub Spelling : Type 0 → Type 1
Spelling A = A → List Token → Type 0

-- some tokens spell something
abbrev pub Some_of : {A : Type 0} → Spelling A → Type 0
Some_of {A} S = (x : A) × (ts : List Token) × S x ts

abbrev pub Meets : {A : Type 0} → Spelling A → List Token → Outcome A → Type 0
Meets S ts (Ok x) = (front : List Token) × (ts ≡ front ++ x.1) × S x.0 front
Meets {A} S ts (Err bad) = (front : List Token) × (ts ≡ front ++ bad) × (more : List Token) × (x : A) × S x (front ++ more)

-- on tokens with this next sort
pub record ReadsAt {A : Type 0} (S : Spelling A) (P : Sort → Type 0) (p : Parser A) : Type 0 where
  pub at : (ts : List Token) → P (sort ts) → Meets S ts (p ts)

abbrev pub Any : Sort → Type 0
Any s = Unit {0}

abbrev pub Reads : {A : Type 0} → Spelling A → Parser A → Type 0
Reads S p = ReadsAt S Any p

some_met : {A : Type 0} (S : Spelling A) (ts : List Token) (o : Outcome A) → Meets S ts o → Some_of S
some_met S ts (Ok x) m = (x.0, m.0, m.2)
some_met S ts (Err bad) m = (m.3, m.0 ++ m.2, m.4)

-- what is read by such a parser is spelled by some tokens
pub some_of : {A : Type 0} {S : Spelling A} {p : Parser A} → Reads S p → Some_of S
some_of {A} {S} {p} h = some_met S [] (p []) (h.at [] tt)

pub reads_pure : {A : Type 0} {S : Spelling A} {P : Sort → Type 0} (a : A) → S a [] → ReadsAt S P (pure a)
reads_pure a h = record { at = λ ts _. ([], refl, h) }

pub reads_refuse : {A : Type 0} {S : Spelling A} {P : Sort → Type 0} → Some_of S → ReadsAt S P refuse
reads_refuse h = record { at = λ ts _. ([], refl, h.1, h.0, h.2) }

pub reads_if : {A : Type 0} {S : Spelling A} {P : Sort → Type 0} {p q : Parser A} (b : Bool) → (b ≡ true → ReadsAt S P p) → (b ≡ false → ReadsAt S P q) → ReadsAt S P (if b then p else q)
reads_if true hp hq = hp refl
reads_if false hp hq = hq refl

-- the same, where something more is read after
pub reads_if_then : {A B : Type 0} {S : Spelling B} {P : Sort → Type 0} (b : Bool) (p q : Parser A) (f : A → Parser B) → (b ≡ true → ReadsAt S P (p >>= f)) → (b ≡ false → ReadsAt S P (q >>= f))
    → ReadsAt S P ((if b then p else q) >>= f)
reads_if_then true p q f hp hq = hp refl
reads_if_then false p q f hp hq = hq refl

-- the sort matters no more
pub reads_where : {A : Type 0} {S : Spelling A} {P Q : Sort → Type 0} {p : Parser A} → ReadsAt S Q p → ((s : Sort) → P s → Q s) → ReadsAt S P p
reads_where h q = record { at = λ ts s. h.at ts (q (sort ts) s) }

pub reads_any : {A : Type 0} {S : Spelling A} {P : Sort → Type 0} {p : Parser A} → Reads S p → ReadsAt S P p
reads_any h = reads_where h (λ s q. tt)

after_meets : {B : Type 0} (F : Spelling B) (S : Spelling B) (ts front mid : List Token) → ts ≡ front ++ mid
    → ((y : B) (us : List Token) → F y us → S y (front ++ us)) → (o : Outcome B) → Meets F mid o → Meets S ts o
after_meets F S ts front mid e step (Ok y) k = (front ++ k.0, e ∙ ap (λ r. front ++ r) k.1 ∙ sym (append_assoc front k.0 y.1), step y.0 k.0 k.2)
after_meets F S ts front mid e step (Err bad) k = (
  front ++ k.0,
  e ∙ ap (λ r. front ++ r) k.1 ∙ sym (append_assoc front k.0 bad),
  k.2,
  k.3,
  subst (λ r. S k.3 r) (sym (append_assoc front k.0 k.2)) (step k.3 (k.0 ++ k.2) k.4),
)

pub reads_map : {A : Type 0} {F S : Spelling A} {P : Sort → Type 0} {p : Parser A} → ReadsAt F P p → ((y : A) (us : List Token) → F y us → S y us) → ReadsAt S P p
reads_map {A} {F} {S} {P} {p} h step = record { at = λ ts q. after_meets F S ts [] ts refl step (p ts) (h.at ts q) }

bind_meets : {A B : Type 0} (R : Spelling A) (S : Spelling B) (f : A → Parser B) (ts : List Token) (o : Outcome A) → Meets R ts o
    → ((x : A) (us : List Token) → R x us → Reads (λ y vs. S y (us ++ vs)) (f x))
    → Meets S ts (and_then o f)
bind_meets R S f ts (Ok x) h reads = after_meets (λ y vs. S y (h.0 ++ vs)) S ts h.0 x.1 h.1 (λ y us k. k) (f x.0 x.1) ((reads x.0 h.0 h.2).at x.1 tt)
bind_meets R S f ts (Err bad) h reads =
    let rest = some_of (reads h.3 (h.0 ++ h.2) h.4) in
    (h.0, h.1, h.2 ++ rest.1, rest.0, subst (λ r. S rest.0 r) (append_assoc h.0 h.2 rest.1) rest.2)

-- p, and then f, which goes on from what p read
pub reads_bind : {A B : Type 0} {R : Spelling A} {S : Spelling B} {P : Sort → Type 0} {p : Parser A} {f : A → Parser B}
    → ReadsAt R P p → ((x : A) (us : List Token) → R x us → Reads (λ y vs. S y (us ++ vs)) (f x)) → ReadsAt S P (p >>= f)
reads_bind {A} {B} {R} {S} {P} {p} {f} hp hf = record { at = λ ts q. bind_meets R S f ts (p ts) (hp.at ts q) hf }

-- p, and what is made of it
pub reads_made : {A B : Type 0} {R : Spelling A} {S : Spelling B} {P : Sort → Type 0} {p : Parser A} (g : A → B) → ReadsAt R P p → ((x : A) (us : List Token) → R x us → S (g x) us)
    → ReadsAt S P (p >>= (λ x. pure (g x)))
reads_made {A} {B} {R} {S} {P} {p} g hp step = reads_bind hp (λ x us r. reads_pure (g x) (subst (λ ts. S (g x) ts) (sym (append-nil us)) (step x us r)))

-- looks at the sort of the next token first
pub reads_peek : {A : Type 0} {S : Spelling A} {P : Sort → Type 0} {f : Sort → Parser A} → ((s : Sort) → ReadsAt S (λ u. u ≡ s) (f s)) → ReadsAt S P (peek >>= f)
reads_peek h = record { at = λ ts p. (h (sort ts)).at ts refl }

-- the same, where something is known of the sort
pub reads_peek_at : {A : Type 0} {S : Spelling A} {P : Sort → Type 0} {f : Sort → Parser A} → ((s : Sort) → P s → ReadsAt S (λ u. u ≡ s) (f s)) → ReadsAt S P (peek >>= f)
reads_peek_at h = record { at = λ ts p. (h (sort ts) p).at ts refl }

-- the same, where something more is read after
pub reads_peek_then : {A B : Type 0} {S : Spelling B} {P : Sort → Type 0} (f : Sort → Parser A) (g : A → Parser B) → ((s : Sort) → ReadsAt S (λ u. u ≡ s) (f s >>= g))
    → ReadsAt S P ((peek >>= f) >>= g)
reads_peek_then f g h = record { at = λ ts p. (h (sort ts)).at ts refl }

-- p on this sort, else q
pub reads_when : {A : Type 0} {S : Spelling A} {P : Sort → Type 0} {p q : Parser A} (s : Sort) → ReadsAt S (λ u. u ≡ s) p → ReadsAt S (λ u. same_sort u s ≡ false) q → ReadsAt S P (when_next s p q)
reads_when s hp hq = reads_peek (λ u. reads_if (same_sort u s)
    (λ b. reads_where hp (λ v e. e ∙ is_same u s b))
    (λ b. reads_where hq (λ v e. ap (λ w. same_sort w s) e ∙ b)))

token_meets : {A : Type 0} (S : Spelling A) (s : Sort) (f : Token → Parser A) → (End ≡ s → ⊥) → ((t : Token) → sort_of t ≡ s → Reads (λ y vs. S y (t ∷ vs)) (f t))
    → (ts : List Token) → sort ts ≡ s → Meets S ts (and_then (take_token ts) f)
unfolding take_token sort
token_meets S s f n h [] e = absurd (n e)
token_meets S s f n h (t ∷ ts) e = after_meets (λ y vs. S y (t ∷ vs)) S (t ∷ ts) (t ∷ []) ts refl (λ y us k. k) (f t ts) ((h t e).at ts tt)

-- the next token, which is of this sort, and then f
pub reads_token : {A : Type 0} {S : Spelling A} {s : Sort} {f : Token → Parser A} → (End ≡ s → ⊥)
    → ((t : Token) → sort_of t ≡ s → Reads (λ y vs. S y (t ∷ vs)) (f t)) → ReadsAt S (λ u. u ≡ s) (take_token >>= f)
reads_token {A} {S} {s} {f} n h = record { at = token_meets S s f n h }

-- a token of this sort
pub record Sample (s : Sort) : Type 0 where
  pub token : Token
  pub is : sort_of token ≡ s
  pub not_end : End ≡ s → ⊥

expect_meets : {A : Type 0} (b : Bool) (S : Spelling A) (s : Sort) (f : Token → Parser A) → Sample s → ((t : Token) → sort_of t ≡ s → Reads (λ y vs. S y (t ∷ vs)) (f t))
    → (ts : List Token) → (b ≡ true → sort ts ≡ s) → Meets S ts (and_then ((if b then take_token else refuse) ts) f)
expect_meets true S s f w h ts e = token_meets S s f w.not_end h ts (e refl)
expect_meets false S s f w h ts e = let k = some_of (h w.token w.is) in ([], refl, w.token ∷ k.1, k.0, k.2)

-- a token that must be of this sort, and then f
pub reads_expect : {A : Type 0} {S : Spelling A} {P : Sort → Type 0} {s : Sort} {f : Token → Parser A} → Sample s
    → ((t : Token) → sort_of t ≡ s → Reads (λ y vs. S y (t ∷ vs)) (f t)) → ReadsAt S P (expect s >>= f)
unfolding expect
reads_expect {A} {S} {P} {s} {f} w h = record { at = λ ts q. expect_meets (same_sort (sort ts) s) S s f w h ts (is_same (sort ts) s) }

taken_meets : (S : Spelling Token) (s : Sort) → (End ≡ s → ⊥) → ((t : Token) → sort_of t ≡ s → S t (t ∷ [])) → (ts : List Token) → sort ts ≡ s → Meets S ts (take_token ts)
unfolding take_token sort
taken_meets S s n h [] e = absurd (n e)
taken_meets S s n h (t ∷ ts) e = (t ∷ [], refl, h t e)

expected_meets : (b : Bool) (S : Spelling Token) (s : Sort) → Sample s → ((t : Token) → sort_of t ≡ s → S t (t ∷ []))
    → (ts : List Token) → (b ≡ true → sort ts ≡ s) → Meets S ts ((if b then take_token else refuse) ts)
expected_meets true S s w h ts e = taken_meets S s w.not_end h ts (e refl)
expected_meets false S s w h ts e = ([], refl, w.token ∷ [], w.token, h w.token w.is)

-- a token that must be of this sort, and nothing more
pub reads_last : {S : Spelling Token} {P : Sort → Type 0} {s : Sort} → Sample s → ((t : Token) → sort_of t ≡ s → S t (t ∷ [])) → ReadsAt S P (expect s)
unfolding expect
reads_last {S} {P} {s} w h = record { at = λ ts q. expected_meets (same_sort (sort ts) s) S s w h ts (is_same (sort ts) s) }

placed_meets : {A : Type 0} (S : Spelling A) (T : ℕ → Spelling A) (ts : List Token) → ((at : ℕ) (y : A) (t : Token) (us : List Token) → at ≡ t.start → T at y (t ∷ us) → S y (t ∷ us))
    → ((at : ℕ) (y : A) → T at y [] → ⊥) → Some_of S → (o : Outcome A) → Meets (T (start_of ts)) ts o → Meets S ts o
placed_meets S T ts step none some (Ok x) ([], e, k) = absurd (none (start_of ts) x.0 k)
placed_meets S T ts step none some (Ok x) (t ∷ front, e, k) = (t ∷ front, e, step (start_of ts) x.0 t front (ap start_of e) k)
placed_meets S T ts step none some (Err bad) ([], e, more, x, k) = ([], e, some.1, some.0, some.2)
placed_meets S T ts step none some (Err bad) (t ∷ front, e, more, x, k) = (t ∷ front, e, more, x, step (start_of ts) x t (front ++ more) (ap start_of e) k)

-- where the next token starts, and then f; what f reads begins there
pub reads_place : {A : Type 0} {S : Spelling A} {P : Sort → Type 0} {f : ℕ → Parser A} (T : ℕ → Spelling A) → ((at : ℕ) → Reads (T at) (f at))
    → ((at : ℕ) (y : A) (t : Token) (us : List Token) → at ≡ t.start → T at y (t ∷ us) → S y (t ∷ us)) → ((at : ℕ) (y : A) → T at y [] → ⊥) → Some_of S → ReadsAt S P (place >>= f)
reads_place {A} {S} {P} {f} T h step none some = record { at = λ ts q. placed_meets S T ts step none some (f (start_of ts) ts) ((h (start_of ts)).at ts tt) }
