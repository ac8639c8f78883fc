use Rattle.std.proofs.Common.{length, ap, ◌∙◌}
use Rattle.mol_log_expr.specs.Scope.{Scope}
use Rattle.mol_log_expr.proofs.scope.Scope.count.Goals as goal

pub returns : goal.returns
returns c = c.len.ensures ∙ c.self.inside.locals.ok.0 ∙ ap (λ (s : Scope). length s.locals) c.self.view_is
