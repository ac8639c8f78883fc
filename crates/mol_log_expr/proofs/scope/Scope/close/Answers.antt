use Rattle.std.proofs.Common.{List, ℕ, subst, sym, ap, ◌∙◌}
use Rattle.mol_log_expr.specs.Scope.{AreInOrder, cut}
use Rattle.mol_log_expr.proofs.Locals.{in_order_cut, scope_of}
use Rattle.mol_log_expr.proofs.scope.Scope.close.Goals as goal

pub invariant_of-self : goal.invariant_of-self
invariant_of-self c =
    let held = c.self.inside in
    subst (λ (xs : List ℕ). AreInOrder xs held.next) (sym c.truncate.ensures.items)
    (in_order_cut held.locals.items held.next c.self.invariant c.args.count)

pub returns : goal.returns
returns c = ap (scope_of c.self.inside.next) c.truncate.ensures.items ∙ ap (cut c.args.count) c.self.view_is
