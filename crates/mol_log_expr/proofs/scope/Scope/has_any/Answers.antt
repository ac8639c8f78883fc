use Rattle.std.proofs.Common.{ap, ◌∙◌}
use Rattle.mol_log_expr.specs.Scope.{Scope, any}
use Rattle.mol_log_expr.proofs.Locals.{any_counted}
use Rattle.mol_log_expr.proofs.scope.Scope.has_any.Goals as goal

pub returns : goal.returns
returns c =
    let held = c.self.inside.locals in
    rw (c.is_empty.ensures, held.ok.0) (any_counted held.items ∙ ap (λ (s : Scope). any s.locals) c.self.view_is)
