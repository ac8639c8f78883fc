use Rattle.std.proofs.Common.{List, ℕ, subst, sym}
use Rattle.mol_log_expr.specs.Scope.{AreInOrder}
use Rattle.mol_log_expr.proofs.Locals.{none_in_order}
use Rattle.mol_log_expr.proofs.scope.Scope.new.Goals as goal

pub invariant_of-result : goal.invariant_of-result
invariant_of-result c = subst (λ (xs : List ℕ). AreInOrder xs 0) (sym c.new-locals.ensures.items) (none_in_order 0)
