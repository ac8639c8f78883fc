-- What is taken where it was found in the next word.
use Rattle.std.proofs.Common.{◌≡◌, ◌≢◌, ℕ, List, [], ◌∷◌, drop, Option, Some, None, Result, Ok, Err, refl, sym, ap, subst, option_map}
use Rattle.std.specs.Result.{IsErrAnd}
use Rattle.mol_log_words.specs.Words.{Word}
use Rattle.mol_log_words.specs.Reader.{Outcome, take}
use Rattle.mol_log_words.specs.Reads.{Reads, ReadsCut}
use Rattle.mol_log_words.specs.declared.fault.Fault.{Fault}
use Rattle.mol_log_words.proofs.Counted.{cut}

same_take : {A : Type 0} (f : Word → Option A) (found : Option A) (w : Word) (ts : List Word) → ts ≡ w ∷ drop 1 ts → found ≡ f w
    → take (λ _. found) ts ≡ take f ts
unfolding take
same_take f found w [] e q = absurd cc
same_take f found w (v ∷ vs) e q = let same : w ≡ v = cc in rw (q, same) refl

pub accepted : {A : Type 0} (f : Word → Option A) (found : Option A) (w : Word) (ts new : List Word) (r : Result A Fault)
    → ts ≡ w ∷ drop 1 ts → found ≡ f w → Reads (take (λ _. found) ts) r new → Reads (take f ts) r new
accepted f found w ts new r e q h = subst (λ outcome. Reads outcome r new) (same_take f found w ts e q) h

not_read : {B C : Type 0} {b : B} {c : C} → ◌≡◌ {A = Result B C} (Ok b) (Err c) → ⊥
not_read h = cc

read_parts : (m n : ℕ) (ts us : List Word) → ◌≡◌ {A = Outcome ℕ} (Ok (m, ts)) (Ok (n, us)) → (m ≡ n) × (ts ≡ us)
read_parts m n ts us h =
    let same : ◌≡◌ {A = ℕ × List Word} (m, ts) (n, us) = cc in
    (ap (λ (read : ℕ × List Word). read.0) same, ap (λ (read : ℕ × List Word). read.1) same)

cut_taken : (o : Option ℕ) (ts new : List Word) (r : Result ℕ Fault) → Reads (take (λ _. option_map cut o) ts) r new
    → ReadsCut (take (λ _. o) ts) r new
unfolding take
cut_taken (Some n) (w ∷ ts) new (Ok m) h =
    let parts = read_parts (cut n) m ts new h in
    (n, ap (λ (rest : List Word). Ok (n, rest)) parts.1, sym parts.0)
cut_taken None (w ∷ ts) new (Ok m) h = absurd cc
cut_taken o [] new (Ok m) h = absurd cc
cut_taken (Some n) (w ∷ ts) new (Err e) h = λ is. absurd (not_read (h is))
cut_taken None (w ∷ ts) new (Err e) h = h
cut_taken o [] new (Err e) h = h

pub accepted_cut : (f : Word → Option ℕ) (found : Option ℕ) (w : Word) (ts new : List Word) (r : Result ℕ Fault) → ts ≡ w ∷ drop 1 ts
    → found ≡ option_map cut (f w) → Reads (take (λ _. found) ts) r new → ReadsCut (take f ts) r new
accepted_cut f found w ts new r e q h =
    let read = subst (λ (o : Option ℕ). Reads (take (λ _. o) ts) r new) q h in
    subst (λ outcome. ReadsCut outcome r new) (same_take f (f w) w ts e refl) (cut_taken (f w) ts new r read)

-- nothing is taken where no word is left
pub none_left : {A : Type 0} (P : Fault → Type 0) (f : Word → Option A) (ts : List Word) (r : Result A Fault) → ts ≡ [] → IsErrAnd r P
    → Reads (take f ts) r ts
unfolding take
none_left P f [] (Ok a) e h = absurd h
none_left P f [] (Err fault) e h = λ is. refl
none_left P f (w ∷ ts) r e h = absurd cc

pub none_left_cut : (P : Fault → Type 0) (f : Word → Option ℕ) (ts : List Word) (r : Result ℕ Fault) → ts ≡ [] → IsErrAnd r P
    → ReadsCut (take f ts) r ts
unfolding take
none_left_cut P f [] (Ok a) e h = absurd h
none_left_cut P f [] (Err fault) e h = λ is. refl
none_left_cut P f (w ∷ ts) r e h = absurd cc
