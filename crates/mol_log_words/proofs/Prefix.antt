-- Laws of readers of prefix forms. What is read is spelled so, and is read alike whatever follows; what is refused could have
-- gone on up to the bad word, and is refused there whatever follows that word.
use Rattle.std.proofs.Common.{◌≡◌, List, [], ◌∷◌, ◌++◌, Ok, Err, Option, Some, None, refl, sym, ap, ◌∙◌, subst, append_assoc}
use Rattle.mol_log_words.specs.Words.{Word}
use Rattle.mol_log_words.specs.FirstBad.{Form}
use Rattle.mol_log_words.specs.Reader.{Outcome, Parser, and_then, ◌>>=◌, pure, taken, take}

-- the same next word, or none
abbrev pub SameHead : List Word → List Word → Type 0
SameHead [] [] = Unit {0}
SameHead [] (t ∷ ts) = ⊥
SameHead (t ∷ ts) [] = ⊥
SameHead (t ∷ ts) (u ∷ us) = t ≡ u

abbrev pub Meets : {A : Type 0} → Form A → Parser A → List Word → Outcome A → Type 0
Meets S p ts (Ok x) = (front : List Word) × (ts ≡ front ++ x.1) × S x.0 front × ((rest : List Word) → p (front ++ rest) ≡ Ok (x.0, rest))
Meets {A} S p ts (Err bad) = (front : List Word) × (ts ≡ front ++ bad) × (more : List Word) × (x : A) × S x (front ++ more)
    × ((rest : List Word) → SameHead bad rest → p (front ++ rest) ≡ Err rest)

pub record Reads {A : Type 0} (S : Form A) (p : Parser A) : Type 0 where
  pub at : (ts : List Word) → Meets S p ts (p ts)

-- some words spell something
abbrev pub Some_of : {A : Type 0} → Form A → Type 0
Some_of {A} S = (x : A) × (ts : List Word) × S x ts

some_by : {A : Type 0} (S : Form A) (p : Parser A) (ts : List Word) (o : Outcome A) → Meets S p ts o → Some_of S
some_by S p ts (Ok x) h = (x.0, h.0, h.2)
some_by S p ts (Err bad) h = (h.3, h.0 ++ h.2, h.4)

-- what a reader answers where there are no words shows that something is spelled
pub some_of : {A : Type 0} {S : Form A} {p : Parser A} → Reads S p → Some_of S
some_of {A} {S} {p} h = some_by S p [] (p []) (h.at [])

pub reads_pure : {A : Type 0} {S : Form A} (a : A) → S a [] → Reads S (pure a)
reads_pure a h = record { at = λ ts. ([], refl, h, λ rest. refl) }

-- the next word, where f gives it this value
abbrev pub IsOne : {A : Type 0} → (Word → Option A) → Form A
IsOne f x ts = (v : Word) × (f v ≡ Some x) × (ts ≡ v ∷ [])

no_word : {A : Type 0} (f : Word → Option A) (rest : List Word) → SameHead [] rest → take f rest ≡ Err rest
unfolding take
no_word f [] s = refl
no_word f (u ∷ us) s = absurd s

bad_word : {A : Type 0} (f : Word → Option A) (v : Word) (ts : List Word) → f v ≡ None → (rest : List Word) → SameHead (v ∷ ts) rest
    → take f rest ≡ Err rest
unfolding take
bad_word f v ts h [] s = absurd s
bad_word f v ts h (u ∷ us) s = ap (taken u us) (ap f (sym s) ∙ h)

good_word : {A : Type 0} (f : Word → Option A) (v : Word) (x : A) → f v ≡ Some x → (rest : List Word) → take f (v ∷ rest) ≡ Ok (x, rest)
unfolding take
good_word f v x h rest = ap (taken v rest) h

take_by : {A : Type 0} (f : Word → Option A) (w : Word) (a : A) → f w ≡ Some a → (v : Word) (ts : List Word) (o : Option A) → f v ≡ o
    → Meets (IsOne f) (take f) (v ∷ ts) (taken v ts o)
take_by f w a e v ts (Some x) h = (v ∷ [], refl, (v, h, refl), good_word f v x h)
take_by f w a e v ts None h = ([], refl, w ∷ [], a, (w, e, refl), bad_word f v ts h)

take_meets : {A : Type 0} (f : Word → Option A) (w : Word) (a : A) → f w ≡ Some a → (ts : List Word)
    → Meets (IsOne f) (take f) ts (take f ts)
unfolding take
take_meets f w a e [] = ([], refl, w ∷ [], a, (w, e, refl), no_word f)
take_meets f w a e (v ∷ ts) = take_by f w a e v ts (f v) refl

-- where some word w is good
pub reads_take : {A : Type 0} (f : Word → Option A) (w : Word) (a : A) → f w ≡ Some a → Reads (IsOne f) (take f)
reads_take f w a e = record { at = take_meets f w a e }

then_meets : {A B : Type 0} (R : Form A) (S : Form B) (p : Parser A) (f : A → Parser B) (ts : List Word) (x : A × List Word)
    → (h : Meets R p ts (Ok x)) → (o : Outcome B) → Meets (λ y vs. S y (h.0 ++ vs)) (f x.0) x.1 o → Meets S (p >>= f) ts o
then_meets R S p f ts x h (Ok y) k = (
  h.0 ++ k.0,
  h.1 ∙ ap (λ r. h.0 ++ r) k.1 ∙ sym (append_assoc h.0 k.0 y.1),
  k.2,
  λ rest. ap (p >>= f) (append_assoc h.0 k.0 rest) ∙ ap (λ o. and_then o f) (h.3 (k.0 ++ rest)) ∙ k.3 rest,
)
then_meets R S p f ts x h (Err bad) k = (
  h.0 ++ k.0,
  h.1 ∙ ap (λ r. h.0 ++ r) k.1 ∙ sym (append_assoc h.0 k.0 bad),
  k.2,
  k.3,
  subst (λ r. S k.3 r) (sym (append_assoc h.0 k.0 k.2)) k.4,
  λ rest s. ap (p >>= f) (append_assoc h.0 k.0 rest) ∙ ap (λ o. and_then o f) (h.3 (k.0 ++ rest)) ∙ k.5 rest s,
)

bind_meets : {A B : Type 0} (R : Form A) (S : Form B) (p : Parser A) (f : A → Parser B) (ts : List Word) (o : Outcome A) → Meets R p ts o
    → ((x : A) (us : List Word) → R x us → Reads (λ y vs. S y (us ++ vs)) (f x)) → Meets S (p >>= f) ts (and_then o f)
bind_meets R S p f ts (Ok x) h hf = then_meets R S p f ts x h (f x.0 x.1) ((hf x.0 h.0 h.2).at x.1)
bind_meets R S p f ts (Err bad) h hf =
    let next = some_of (hf h.3 (h.0 ++ h.2) h.4) in (
      h.0,
      h.1,
      h.2 ++ next.1,
      next.0,
      subst (λ r. S next.0 r) (append_assoc h.0 h.2 next.1) next.2,
      λ rest s. ap (λ o. and_then o f)
          (h.5 rest s),
    )

-- p, and then f, which goes on from what p read
pub reads_bind : {A B : Type 0} {R : Form A} {S : Form B} {p : Parser A} {f : A → Parser B} → Reads R p
    → ((x : A) (us : List Word) → R x us → Reads (λ y vs. S y (us ++ vs)) (f x)) → Reads S (p >>= f)
reads_bind {A} {B} {R} {S} {p} {f} hp hf = record { at = λ ts. bind_meets R S p f ts (p ts) (hp.at ts) hf }

map_meets : {A : Type 0} (F S : Form A) (p : Parser A) → ((y : A) (us : List Word) → F y us → S y us) → (ts : List Word) (o : Outcome A)
    → Meets F p ts o → Meets S p ts o
map_meets F S p step ts (Ok x) h = (h.0, h.1, step x.0 h.0 h.2, h.3)
map_meets F S p step ts (Err bad) h = (h.0, h.1, h.2, h.3, step h.3 (h.0 ++ h.2) h.4, h.5)

pub reads_map : {A : Type 0} {F S : Form A} {p : Parser A} → Reads F p → ((y : A) (us : List Word) → F y us → S y us) → Reads S p
reads_map {A} {F} {S} {p} h step = record { at = λ ts. map_meets F S p step ts (p ts) (h.at ts) }
