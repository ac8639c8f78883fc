use Rattle.std.proofs.Common.{◌≡◌, ◌++◌}
use Rattle.mol_faults_expr.proofs.FollowersKept.{told}
use Rattle.mol_faults_expr.proofs.followers.add_last_first.Given as goal

abbrev pub invariant-loop-name : goal.invariant-loop-name
invariant-loop-name l = l.names.items ≡ l.initial.names.items ++ told l.yielded
