-- What a `?` answers, where a call that reads a line has failed.
use Rattle.std.proofs.Common.{◌≡◌, ◌≢◌, Result, sym, ◌∙◌, subst}
use Rattle.std.specs.Prelude.{MatchResult}
use Rattle.std.specs.Result.{IsErrAnd}
use Rattle.std.proofs.lemmas.Result.{err_from_is_err_and}
use Rattle.mol_log_rows.specs.declared.lines.fault.LogFault.{LogFault}
use Rattle.mol_log_rows.specs.declared.lines.fault.LogFault.TheVariants.{OutOfMemory}

module _ {A : Type 0} (Says : A → Type 0) (Has : LogFault → Type 0) where
  abbrev Answers : Result A LogFault → Type 0
  Answers result = MatchResult result Says (λ fault. fault ≢ OutOfMemory → Has fault)

  pub answers_err : (result : Result A LogFault) (fault : LogFault) → IsErrAnd result (λ f. f ≡ fault) → (fault ≢ OutOfMemory → Has fault)
      → Answers result
  answers_err result fault is has =
      let p = err_from_is_err_and result is in
      subst Answers (sym p.1) (λ enough. subst Has (sym p.2) (has (λ none. enough (p.2 ∙ none))))
