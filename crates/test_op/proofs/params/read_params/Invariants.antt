use Rattle.std.proofs.Common.{◌≡◌, true}
use Rattle.std.specs.List.{list_all}
use Rattle.mol_table_rules.specs.Forms.{is_param}
use Rattle.test_op.proofs.params.read_params.Given as goal

abbrev pub invariant-loop-param : goal.invariant-loop-param
invariant-loop-param l = list_all is_param l.list ≡ true
