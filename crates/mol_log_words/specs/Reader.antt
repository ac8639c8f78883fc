-- Readers as functions: each reads from the front and stops at the first bad word.
use Rattle.std.specs.Prelude.{ℕ, zero, suc, Bool, if◌then◌else◌, List, [], ◌∷◌, ◌++◌, Result, Ok, Err, Option, Some, None}
use Rattle.mol_log_words.specs.Words.{Word}

-- what was read with the words after it, or the words from the bad one on
abbrev pub Outcome : Type 0 → Type 0
Outcome A = Result (A × List Word) (List Word)

abbrev pub Parser : Type 0 → Type 0
Parser A = List Word → Outcome A

abbrev pub and_then : {A B : Type 0} → Outcome A → (A → Parser B) → Outcome B
and_then (Ok p) f = f p.0 p.1
and_then (Err bad) f = Err bad

infixl 10 ◌>>=◌
abbrev pub ◌>>=◌ : {A B : Type 0} → Parser A → (A → Parser B) → Parser B
p >>= f = λ ts. and_then (p ts) f

abbrev pub pure : {A : Type 0} → A → Parser A
pure a = λ ts. Ok (a, ts)

abbrev pub refuse : {A : Type 0} → Parser A
refuse = λ ts. Err ts

abbrev pub taken : {A : Type 0} → Word → List Word → Option A → Outcome A
taken w ts (Some a) = Ok (a, ts)
taken w ts None = Err (w ∷ ts)

-- the next word, if it stands for something
unfoldable pub take : {A : Type 0} → (Word → Option A) → Parser A
take f [] = Err []
take f (w ∷ ts) = taken w ts (f w)

-- the word itself, if it passes the test
abbrev pub passing : (Word → Bool) → Word → Option Word
passing test w = if test w then Some w else None

-- n things after others
unfoldable pub repeat : {A : Type 0} → Parser A → ℕ → List A → Parser (List A)
repeat p zero all = pure all
repeat p (suc n) all = p >>= (λ a. repeat p n (all ++ a ∷ []))
