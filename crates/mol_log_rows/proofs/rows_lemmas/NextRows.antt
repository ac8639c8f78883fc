-- What the code stands on behind a line.
use Rattle.std.proofs.Common.{◌≡◌, ◌≢◌, ℕ, ◌+◌, List, [], ◌∷◌, Option, Result, true, false, Bool, refl, sym, ap, ◌∙◌, subst}
use Rattle.std.specs.Result.{IsErrAnd}
use Rattle.std.proofs.lemmas.Result.{err_from_is_err_and}
use Rattle.mol_base.specs.declared.ident.Stamp.{Stamp}
use Rattle.mol_log_rows.specs.lines.Lines.{Line, lines_left}
use Rattle.mol_log_rows.specs.lines.Stamps.{Knows, may_follow}
use Rattle.mol_log_rows.specs.declared.lines.fault.LogFault.{LogFault}
use Rattle.mol_log_rows.specs.declared.lines.fault.LogFault.TheVariants.{OutOfMemory, BadStamp}
use Rattle.mol_log_rows.specs.declared.lines.stamps.LastNumbers.{LastNumbers}
use Rattle.mol_log_rows.specs.rows.NextRow.{StandsOn, Takes, Passes, IsNext}
use Rattle.mol_log_rows.specs.rows.RowLine as rows
use Rattle.mol_log_rows.specs.rows.RowLine.{SaysRow, IsRowFault, IsNextFault}
use Rattle.mol_log_rows.specs.declared.rows.row.Recorded.{Recorded}
use Rattle.mol_log_rows.specs.declared.rows.rows.Rows.{Rows}

-- what a call says of a stamp, whatever stamps were taken before
abbrev pub Tells : LastNumbers → Stamp → Bool → Type 0
Tells last stamp told = (tags : List (List ℕ)) (earlier : List Stamp) → Knows last tags earlier → told ≡ may_follow tags earlier stamp

-- the stamp is taken as the last one
abbrev pub TakesStamp : LastNumbers → Stamp → LastNumbers → Type 0
TakesStamp last stamp new = (tags : List (List ℕ)) (earlier : List Stamp) → Knows last tags earlier → Knows new tags (stamp ∷ earlier)

module _ (old : Rows) (tags : List (List ℕ)) (earlier : List Stamp) (number : ℕ) (lines : List Line)
    (stands : StandsOn old tags earlier number lines) where
  -- no line is left
  pub none_left : (new : Rows) → lines_left old.rest ≡ [] → lines_left new.rest ≡ [] → new.number ≡ old.number → new.last ≡ old.last
      → (lines ≡ []) × StandsOn new tags earlier number []
  none_left new none left counted same =
      let knows = subst (λ last. Knows last tags earlier) (sym same) stands.knows in
      (sym stands.left ∙ none, record { knows = knows; counted = counted ∙ stands.counted; left = left })

  module _ (line : Line) (new : Rows) (cut : lines_left old.rest ≡ line ∷ lines_left new.rest) (counted : new.number ≡ old.number + 1) where
    pub taken : (found : Recorded) (told : Bool) → SaysRow old.number line found → Tells old.last found.stamp told → told ≡ true
        → TakesStamp old.last found.stamp new.last
        → Takes tags earlier number lines found new
    taken found told says tells follows takes = record {
      line = line;
      more = lines_left new.rest;
      cut = sym stands.left ∙ cut;
      says = record {
        says = subst (λ n. SaysRow n line found) stands.counted says;
        follows = sym (tells tags earlier stands.knows) ∙ follows;
      };
      behind = record {
        knows = takes tags earlier stands.knows;
        counted = counted ∙ ap (λ n. n + 1) stands.counted;
        left = refl;
      };
    }

    passed : (fault : LogFault) → (fault ≢ OutOfMemory → IsNextFault tags earlier old.number line fault) → new.last ≡ old.last
        → Passes tags earlier number lines fault new
    passed fault has same = record {
      line = line;
      more = lines_left new.rest;
      cut = sym stands.left ∙ cut;
      has = λ enough. subst (λ n. IsNextFault tags earlier n line fault) stands.counted (has enough);
      behind = record {
        knows = subst (λ last. Knows last tags earlier) (sym same) stands.knows;
        counted = counted ∙ ap (λ n. n + 1) stands.counted;
        left = refl;
      };
    }

    -- what a `?` answers, where the line says no row
    pub passed_err : (result : Result (Option Recorded) LogFault) (fault : LogFault) → IsErrAnd result (λ f. f ≡ fault)
        → (fault ≢ OutOfMemory → IsRowFault old.number line fault)
        → new.last ≡ old.last
        → IsNext tags earlier number lines result new
    passed_err result fault is has same =
        let p = err_from_is_err_and result is in
        subst (λ r. IsNext tags earlier number lines r new) (sym p.1)
        (passed p.0 (λ enough. rows.bad_line (subst (IsRowFault old.number line) (sym p.2) (has (λ none. enough (p.2 ∙ none))))) same)

    -- where the stamp may not follow
    pub passed_stamp : (found : Recorded) (told : Bool) → SaysRow old.number line found → Tells old.last found.stamp told → told ≡ false
        → new.last ≡ old.last
        → Passes tags earlier number lines (BadStamp old.number) new
    passed_stamp found told says tells not same =
        passed (BadStamp old.number) (λ enough. rows.no_follower says (sym (tells tags earlier stands.knows) ∙ not)) same
