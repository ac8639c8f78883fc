use Rattle.std.proofs.Common.{List, ℕ, subst, ap, ◌∙◌}
use Rattle.std.specs.List.Sorted.{IsBinarySearchResult}
use Rattle.std.specs.Ordering.{nat_cmp}
use Rattle.mol_log_expr.specs.Scope.{Scope, has}
use Rattle.mol_log_expr.proofs.Locals.{has_searched}
use Rattle.mol_log_expr.proofs.scope.Scope.has.Goals as goal

pub returns : goal.returns
returns c =
    let held = c.self.inside in
    let found = subst (λ (xs : List ℕ). IsBinarySearchResult (λ y. nat_cmp y c.args.local) xs c.binary_search.result) c.deref.ensures.value
    c.binary_search.ensures.position in
    c.is_ok.ensures.value
    ∙ has_searched held.locals.items held.next c.args.local c.binary_search.result c.self.invariant found
    ∙ ap (λ (s : Scope). has c.args.local s.locals) c.self.view_is
