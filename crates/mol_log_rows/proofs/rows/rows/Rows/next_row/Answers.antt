use Rattle.std.proofs.Common.{refl}
use Rattle.mol_log_rows.specs.lines.Lines.{seen}
use Rattle.mol_log_rows.proofs.rows_lemmas.NextRows.{none_left, taken, passed_err, passed_stamp}
use Rattle.mol_log_rows.proofs.rows.rows.Rows.next_row.Goals as goal

pub returns-in_default : goal.returns-in_default
returns-in_default c = λ tags earlier number lines stands.
    none_left c.args.self.now tags earlier number lines stands _ c.in_default.ensures.0 c.in_default.ensures.1 refl refl

pub returns-in_err-found : goal.returns-in_err-found
returns-in_err-found c = λ tags earlier number lines stands.
    passed_err c.args.self.now tags earlier number lines stands
    (seen c.in-Some.line) _ c.in-Some.ensures refl c.from_residual.result _ c.from_residual.ensures.1
    c.in_err-found.ensures refl

pub returns-then-may_follow : goal.returns-then-may_follow
returns-then-may_follow c = λ tags earlier number lines stands.
    taken c.args.self.now tags earlier number lines stands (seen c.in-Some.line) _ c.in-Some.ensures refl c.in_ok-found.found _
    c.in_ok-found.ensures
    c.may_follow.ensures c.if-may_follow.true c.take.ensures

pub returns-else-may_follow : goal.returns-else-may_follow
returns-else-may_follow c = λ tags earlier number lines stands.
    passed_stamp c.args.self.now tags earlier number lines stands
    (seen c.in-Some.line) _ c.in-Some.ensures refl c.in_ok-found.found _ c.in_ok-found.ensures
    c.may_follow.ensures c.if-may_follow.false refl
