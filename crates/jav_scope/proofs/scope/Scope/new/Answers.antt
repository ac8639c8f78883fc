use Rattle.std.proofs.Common.{sym, subst}
use Rattle.jav_scope.specs.Scopes.{Stands}
use Rattle.jav_scope.proofs.scope.Scope.new.Goals as goal

pub invariant_of-result : goal.invariant_of-result
invariant_of-result c =
    subst (λ all. Stands all c.in_ok-superclasses.superclasses.items c.in_ok-members.members) (sym c.in_ok-names.ensures)
    (record { superclasses = c.in_ok-superclasses.ensures; members = c.in_ok-members.ensures })
