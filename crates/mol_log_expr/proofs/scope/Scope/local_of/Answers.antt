use Rattle.std.proofs.Common.{sym, ap, ◌∙◌, arith}
use Rattle.mol_log_words.specs.Words.{counts}
use Rattle.mol_log_expr.specs.Scope.{Scope, local_of}
use Rattle.mol_log_expr.proofs.Locals.{none_from}
use Rattle.mol_log_expr.proofs.scope.Scope.local_of.Goals as goal

pub returns-then-next-count : goal.returns-then-next-count
returns-then-next-count c =
    let held = c.self.inside in
    none_from (counts c.args.word.now) held.locals.items held.next c.in_ok-count.count c.self.invariant (sym c.in_ok-count.ensures)
    (omega arith)
    ∙ ap (λ (s : Scope). local_of s.locals c.args.word.now) c.self.view_is
