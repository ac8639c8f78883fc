-- What a function that reads ensures: the reader's outcome, unless memory runs out.
use Rattle.std.specs.Prelude.{◌≡◌, ◌≢◌, ℕ, ◌-◌, ◌^◌, ◌==◌, ◌⊎◌, if◌then◌else◌, min, List, Result, Ok, Err, IfOk}
use Rattle.mol_log_words.specs.Words.{Word}
use Rattle.mol_log_words.specs.FirstBad.{Form, IsFirstBad}
use Rattle.mol_log_words.specs.Reader.{Outcome}
use Rattle.mol_log_words.specs.declared.fault.BadWord.{BadWord}
use Rattle.mol_log_words.specs.declared.fault.BadWord.TheVariants as whole
use Rattle.mol_log_words.specs.declared.fault.Fault.{Fault}
use Rattle.mol_log_words.specs.declared.fault.Fault.TheVariants.{OutOfMemory, Bad}

abbrev pub Reads : {A : Type 0} → Outcome A → Result A Fault → List Word → Type 0
Reads outcome (Ok a) new = outcome ≡ Ok (a, new)
Reads outcome (Err e) new = e ≢ OutOfMemory → outcome ≡ Err new

-- the same for a count, of which the greatest u64 stands for all that is greater
abbrev pub ReadsCut : Outcome ℕ → Result ℕ Fault → List Word → Type 0
ReadsCut outcome (Ok count) new = (n : ℕ) × (outcome ≡ Ok (n, new)) × (count ≡ min n (2 ^ 64 - 1))
ReadsCut outcome (Err e) new = e ≢ OutOfMemory → outcome ≡ Err new

-- what is read of a whole list of `count` words, of which `left` were left
unfoldable pub answered : {T : Type 0} → ℕ → ℕ → Result T Fault → Result T BadWord
answered count left (Ok t) = if left == 0 then Ok t else Err (whole.Bad (count - left))
answered count left (Err Bad) = Err (whole.Bad (count - left))
answered count left (Err OutOfMemory) = Err whole.OutOfMemory

-- a whole list of words is read as what it spells, or refused at its first bad word
pub record IsReading {T : Type 0} (Is : Form T) (ts : List Word) (result : Result T BadWord) : Type 0 where
  -- the words spell what is read
  pub tree : IfOk result (λ t. Is t ts)
  -- what the words spell is read, unless memory runs out
  pub back : (t : T) → Is t ts → (result ≡ Ok t) ⊎ (result ≡ Err whole.OutOfMemory)
  -- the word that is named is the first bad one
  pub bad : (at : ℕ) → result ≡ Err (whole.Bad at) → IsFirstBad Is ts at
