-- The first word up to which no tree begins so.
use Rattle.std.specs.Prelude.{◌≡◌, ℕ, List, [], ◌∷◌, ◌++◌, length}
use Rattle.mol_log_words.specs.Words.{Word}

-- which words spell a tree within the limits
abbrev pub Form : Type 0 → Type 1
Form T = T → List Word → Type 0

-- some tree begins with the words
abbrev pub GoesOn : {T : Type 0} → Form T → List Word → Type 0
GoesOn {T} Is ts = (more : List Word) × (t : T) × Is t (ts ++ more)

-- no tree begins with the words and the next one; where there is no next one, no tree is the words
abbrev pub StopsBefore : {T : Type 0} → Form T → List Word → List Word → Type 0
StopsBefore {T} Is front [] = (t : T) → Is t front → ⊥
StopsBefore {T} Is front (w ∷ rest) = GoesOn Is (front ++ w ∷ []) → ⊥

pub record IsFirstBad {T : Type 0} (Is : Form T) (ts : List Word) (at : ℕ) : Type 0 where
  pub front : List Word
  pub rest : List Word
  pub split : ts ≡ front ++ rest
  pub place : at ≡ length front
  pub before : GoesOn Is front
  pub bad : StopsBefore Is front rest
