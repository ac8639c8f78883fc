-- Outcomes of readers that hand the locals in scope on, step by step.
use Rattle.std.proofs.Common.{◌≡◌, ◌≢◌, List, Result, Ok, Err, sym, ap, ◌∙◌, subst}
use Rattle.std.specs.Result.{IsErrAnd}
use Rattle.mol_log_expr.specs.Scope.{Scope}
use Rattle.mol_log_words.specs.Words.{Word}
use Rattle.mol_log_words.specs.Reader.{Outcome, Parser, and_then, pure}
use Rattle.mol_log_words.specs.Reads.{Reads}
use Rattle.mol_log_words.specs.declared.fault.Fault.{Fault}
use Rattle.mol_log_words.specs.declared.fault.Fault.TheVariants.{OutOfMemory}
use Rattle.mol_log_body.specs.BodyReader.{after}
use Rattle.mol_log_body.specs.ReadsIn.{ReadsIn, result_map}

-- where the first part is read, what follows it decides
pub goes_on : {A B : Type 0} (o : Outcome A) (f : A → Parser (B × Scope)) (a : A) (us : List Word) (r : Result B Fault) (s : Scope)
    (new : List Word) → o ≡ Ok (a, us) → ReadsIn (f a us) r s new → ReadsIn (and_then o f) r s new
goes_on {A} o f a us r s new e h = subst (λ (p : Outcome A). ReadsIn (and_then p f) r s new) (sym e) h

-- where it is refused, all is
pub stops : {A B : Type 0} (o : Outcome A) (f : A → Parser (B × Scope)) (e : Fault) (r : Result B Fault) (s : Scope) (new : List Word)
    → (e ≢ OutOfMemory → o ≡ Err new) → IsErrAnd r (λ x. x ≡ e) → ReadsIn (and_then o f) r s new
stops o f e (Ok b) s new h same = absurd same
stops {A} o f e (Err x) s new h same = λ is. ap (λ (p : Outcome A). and_then p f) (h (λ k. is (same ∙ k)))

-- a part that is put into something, with what becomes of the locals in scope
pub mapped : {A B : Type 0} (f : A → B) (g : Scope → Scope) (o : Outcome (A × Scope)) (r : Result A Fault) (s : Scope) (new : List Word)
    → ReadsIn o r s new → ReadsIn (and_then o (λ a. pure (after (g a.1) (f a.0)))) (result_map f r) (g s) new
mapped {A} f g o (Ok a) s new h = ap (λ (p : Outcome (A × Scope)). and_then p (λ a. pure (after (g a.1) (f a.0)))) h
mapped {A} f g o (Err e) s new h = λ is. ap (λ (p : Outcome (A × Scope)). and_then p (λ a. pure (after (g a.1) (f a.0)))) (h is)

-- a part that declares no local
pub unchanged : {A : Type 0} (o : Outcome A) (r : Result A Fault) (s : Scope) (new : List Word) → Reads o r new
    → ReadsIn (and_then o (λ a. pure (after s a))) r s new
unchanged {A} o (Ok a) s new h = ap (λ (p : Outcome A). and_then p (λ a. pure (after s a))) h
unchanged {A} o (Err e) s new h = λ is. ap (λ (p : Outcome A). and_then p (λ a. pure (after s a))) (h is)
