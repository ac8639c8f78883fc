-- What a `?` answers, where a call that reads has failed.
use Rattle.std.proofs.Common.{◌≡◌, Result, Option, None, sym, ◌∙◌, subst}
use Rattle.std.specs.Result.{IsErrAnd}
use Rattle.std.proofs.lemmas.Result.{err_from_is_err_and}
use Rattle.serde_json.specs.Data.{Members}
use Rattle.mol_log_rows.specs.lines.Reader.{Outcome, Reads, ReadsKnown, Gives}
use Rattle.mol_log_rows.specs.declared.lines.object_fault.ObjectFault.{ObjectFault}
use Rattle.mol_log_rows.specs.declared.lines.object_fault.ObjectFault.TheVariants.{WrongForm}

pub gives_err : {A : Type 0} (found : Option A) (result : Result A ObjectFault) (fault : ObjectFault) → IsErrAnd result (λ f. f ≡ fault)
    → (fault ≡ WrongForm → found ≡ None)
    → Gives found result
gives_err found result fault is none = let p = err_from_is_err_and result is in subst (Gives found) (sym p.1) (λ wrong. none (sym p.2 ∙ wrong))

pub reads_err : {A : Type 0} (outcome : Outcome A) (result : Result A ObjectFault) (fault : ObjectFault) (new : Members) → IsErrAnd result (λ f. f ≡ fault)
    → (fault ≡ WrongForm → outcome ≡ None)
    → Reads outcome result new
reads_err outcome result fault new is none =
    let p = err_from_is_err_and result is in subst (λ r. Reads outcome r new) (sym p.1) (λ wrong. none (sym p.2 ∙ wrong))

pub reads_known_err : {A U : Type 0} (a : A) (outcome : Outcome A) (result : Result U ObjectFault) (fault : ObjectFault) (new : Members) → IsErrAnd result (λ f. f ≡ fault)
    → (fault ≡ WrongForm → outcome ≡ None)
    → ReadsKnown a outcome result new
reads_known_err a outcome result fault new is none =
    let p = err_from_is_err_and result is in subst (λ r. ReadsKnown a outcome r new) (sym p.1) (λ wrong. none (sym p.2 ∙ wrong))
