-- Local variables in scope (JLS 6.3), by their numbers in the order of declaration in the body.
use Rattle.std.specs.Prelude.{ℕ, ◌+◌, ◌<◌, ◌≤◌, ◌==◌, Bool, true, false, List, [], ◌∷◌, ◌++◌, take, length, Option, slice_index}
use Rattle.std.specs.List.{list_any}
use Rattle.mol_log_words.specs.Words.{Word, counts, kept}

-- the number of the next local that is declared, and those in scope
pub record Scope : Type 0 where
  pub next : ℕ
  pub locals : List ℕ

abbrev pub no_locals : Scope
no_locals = record { next = 0; locals = [] }

-- with one more local
abbrev pub declaring : Scope → Scope
declaring s = record { next = s.next + 1; locals = s.locals ++ s.next ∷ [] }

-- with the first `count` locals in scope
abbrev pub cut : ℕ → Scope → Scope
cut count s = record { next = s.next; locals = take count s.locals }

-- after a block or a `for`: its locals have left the scope, and their numbers are used up
abbrev pub closed : Scope → Scope → Scope
closed before after = cut (length before.locals) after

-- whether n is among the locals in scope
abbrev pub has : ℕ → List ℕ → Bool
has n locals = list_any (λ x. x == n) locals

-- whether a local is in scope
abbrev pub any : List ℕ → Bool
any [] = false
any (n ∷ ns) = true

abbrev pub local_of : List ℕ → Word → Option ℕ
local_of locals word = kept (λ n. has n locals) (counts word)

-- how the locals of the code stand: in the order of their numbers, none of which is the next one or above it
pub record AreInOrder (locals : List ℕ) (next : ℕ) : Type 0 where
  pub rising : (i j : ℕ) → i ≤ j → j < length locals → slice_index locals i ≤ slice_index locals j
  pub below : (i : ℕ) → i < length locals → slice_index locals i < next
