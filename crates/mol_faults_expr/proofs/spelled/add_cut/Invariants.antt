use Rattle.std.proofs.Common.{◌≡◌, length}
use denote.Shadow.{shadow}
use denote.Text.{Utf8}
use Rattle.mol_faults_expr.proofs.CutNames.{with_cut}
use Rattle.mol_faults_expr.proofs.spelled.add_cut.Given as goal

abbrev pub invariant-loop-name : goal.invariant-loop-name
invariant-loop-name l = shadow (Utf8 l.rest) × (with_cut l.names.items l.rest ≡ with_cut l.initial.names.items l.fn.text)

abbrev pub decreases-loop-name : goal.decreases-loop-name
decreases-loop-name l = length l.rest
