-- A parser depends on the tokens that it read and on the next one alone. Laws of the steps, for any grammar.
use Rattle.std.proofs.Common.{◌≡◌, ℕ, zero, suc, Bool, true, false, List, [], ◌∷◌, ◌++◌, Ok, Err, refl, sym, ap, ◌∙◌, subst, append_assoc, if◌then◌else◌}
use Rattle.mol_base.specs.Token.{Token}
use Rattle.jav_tree.specs.Tokens.{start_of}
use Rattle.jav_parse_cursor.specs.declared.sort.Sort.{Sort}
use Rattle.jav_parse_cursor.specs.declared.sort.Sort.TheVariants.{Comment}
use Rattle.jav_parse_cursor.specs.Sorts.{sort_of, same_sort}
use Rattle.jav_parse_cursor.specs.Reading.{Outcome, Parser, and_then, ◌>>=◌, ◌>>◌, pure, refuse, sort, peek, place, take_token, expect, when_next, comments}

-- the same next token, or none
abbrev pub SameHead : List Token → List Token → Type 0
SameHead [] [] = Unit {0}
SameHead [] (t ∷ ts) = ⊥
SameHead (t ∷ ts) [] = ⊥
SameHead (t ∷ ts) (u ∷ us) = t ≡ u

-- the outcome on ts is that on any list that goes on alike from where it stopped
abbrev pub Keeps : {A : Type 0} → Parser A → List Token → Outcome A → Type 0
Keeps p ts (Ok x) = (front : List Token) × (ts ≡ front ++ x.1) × ((rest : List Token) → SameHead x.1 rest → p (front ++ rest) ≡ Ok (x.0, rest))
Keeps p ts (Err bad) = (front : List Token) × (ts ≡ front ++ bad) × ((rest : List Token) → SameHead bad rest → p (front ++ rest) ≡ Err rest)

pub record Local {A : Type 0} (p : Parser A) : Type 0 where
  pub at : (ts : List Token) → Keeps p ts (p ts)

sorts_alike : (a b : List Token) → SameHead a b → sort a ≡ sort b
unfolding sort
sorts_alike [] [] h = refl
sorts_alike [] (u ∷ us) h = absurd h
sorts_alike (t ∷ ts) [] h = absurd h
sorts_alike (t ∷ ts) (u ∷ us) h = ap sort_of h

starts_alike : (a b : List Token) → SameHead a b → start_of a ≡ start_of b
starts_alike [] [] h = refl
starts_alike [] (u ∷ us) h = absurd h
starts_alike (t ∷ ts) [] h = absurd h
starts_alike (t ∷ ts) (u ∷ us) h = ap (λ x. x.start) h

same_append : (front a b : List Token) → SameHead a b → SameHead (front ++ a) (front ++ b)
same_append [] a b h = h
same_append (t ∷ ts) a b h = refl

pub local_pure : {A : Type 0} (a : A) → Local (pure a)
local_pure a = record { at = λ ts. ([], refl, λ rest s. refl) }

pub local_refuse : {A : Type 0} → Local (refuse {A = A})
local_refuse = record { at = λ ts. ([], refl, λ rest s. refl) }

pub local_peek : Local peek
local_peek = record { at = λ ts. ([], refl, λ rest s. ap (λ k. Ok (k, rest)) (sym (sorts_alike ts rest s))) }

pub local_place : Local place
local_place = record { at = λ ts. ([], refl, λ rest s. ap (λ k. Ok (k, rest)) (sym (starts_alike ts rest s))) }

nothing : (rest : List Token) → SameHead [] rest → take_token rest ≡ Err rest
unfolding take_token
nothing [] s = refl
nothing (t ∷ ts) s = absurd s

take_keeps : (ts : List Token) → Keeps take_token ts (take_token ts)
unfolding take_token
take_keeps [] = ([], refl, nothing)
take_keeps (t ∷ ts) = (t ∷ [], refl, λ rest s. refl)

pub local_take : Local take_token
local_take = record { at = take_keeps }

then_keeps : {A B : Type 0} (p : Parser A) (f : A → Parser B) (ts : List Token) (x : A × List Token) → Keeps p ts (Ok x)
    → (o : Outcome B) → Keeps (f x.0) x.1 o → Keeps (p >>= f) ts o
then_keeps p f ts x h (Ok y) k = (
  h.0 ++ k.0,
  h.1 ∙ ap (λ r. h.0 ++ r) k.1 ∙ sym (append_assoc h.0 k.0 y.1),
  λ rest s. ap (p >>= f) (append_assoc h.0 k.0 rest)
      ∙ ap (λ o. and_then o f) (h.2 (k.0 ++ rest) (subst (λ r. SameHead r (k.0 ++ rest)) (sym k.1) (same_append k.0 y.1 rest s)))
      ∙ k.2 rest s,
)
then_keeps p f ts x h (Err bad) k = (
  h.0 ++ k.0,
  h.1 ∙ ap (λ r. h.0 ++ r) k.1 ∙ sym (append_assoc h.0 k.0 bad),
  λ rest s. ap (p >>= f) (append_assoc h.0 k.0 rest)
      ∙ ap (λ o. and_then o f) (h.2 (k.0 ++ rest) (subst (λ r. SameHead r (k.0 ++ rest)) (sym k.1) (same_append k.0 bad rest s)))
      ∙ k.2 rest s,
)

bind_keeps : {A B : Type 0} (p : Parser A) (f : A → Parser B) (ts : List Token) (o : Outcome A) → Keeps p ts o
    → ((x : A) → Local (f x)) → Keeps (p >>= f) ts (and_then o f)
bind_keeps p f ts (Ok x) h hf = then_keeps p f ts x h (f x.0 x.1) ((hf x.0).at x.1)
bind_keeps p f ts (Err bad) h hf = (h.0, h.1, λ rest s. ap (λ o. and_then o f) (h.2 rest s))

pub local_bind : {A B : Type 0} {p : Parser A} {f : A → Parser B} → Local p → ((x : A) → Local (f x)) → Local (p >>= f)
local_bind {A} {B} {p} {f} hp hf = record { at = λ ts. bind_keeps p f ts (p ts) (hp.at ts) hf }

pub local_if : {A : Type 0} {p q : Parser A} (b : Bool) → Local p → Local q → Local (if b then p else q)
local_if true hp hq = hp
local_if false hp hq = hq

-- ---- steps that every grammar has

pub local_then : {A B : Type 0} {p : Parser A} {q : Parser B} → Local p → Local q → Local (p >> q)
local_then hp hq = local_bind hp (λ _. hq)

pub local_when : {A : Type 0} {p q : Parser A} (s : Sort) → Local p → Local q → Local (when_next s p q)
local_when s hp hq = local_bind local_peek (λ u. local_if (same_sort u s) hp hq)

pub local_expect : (s : Sort) → Local (expect s)
unfolding expect
local_expect s = local_bind local_peek (λ u. local_if (same_sort u s) local_take local_refuse)

pub local_comments : (n : ℕ) (notes : List (List ℕ)) → Local (comments n notes)
unfolding comments
local_comments zero notes = local_refuse
local_comments (suc n) notes = local_bind local_peek (λ s. local_if (same_sort s Comment)
    (local_bind local_take (λ t. local_comments n (notes ++ t.text ∷ [])))
    (local_pure notes))

-- what a rule is made of
pub ruleset steps = (local_when, local_then, local_bind, local_if, local_pure, local_refuse, local_take, local_expect, local_place, local_peek, local_comments)
