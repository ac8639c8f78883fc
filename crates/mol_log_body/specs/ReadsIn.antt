-- What a function that reads ensures where the locals in scope go on.
use Rattle.std.specs.Prelude.{◌≡◌, ◌≢◌, List, Result, Ok, Err}
use Rattle.mol_log_expr.specs.Scope.{Scope}
use Rattle.mol_log_words.specs.Words.{Word}
use Rattle.mol_log_words.specs.Reader.{Outcome}
use Rattle.mol_log_words.specs.declared.fault.Fault.{Fault}
use Rattle.mol_log_words.specs.declared.fault.Fault.TheVariants.{OutOfMemory}

-- the reader's outcome with the locals in scope after it, unless memory runs out
abbrev pub ReadsIn : {A : Type 0} → Outcome (A × Scope) → Result A Fault → Scope → List Word → Type 0
ReadsIn outcome (Ok a) scope new = outcome ≡ Ok ((a, scope), new)
ReadsIn outcome (Err e) scope new = e ≢ OutOfMemory → outcome ≡ Err new

-- the same with what is read put into something
abbrev pub result_map : {A B : Type 0} → (A → B) → Result A Fault → Result B Fault
result_map f (Ok a) = Ok (f a)
result_map f (Err e) = Err e
