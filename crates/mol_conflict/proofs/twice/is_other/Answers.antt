use Rattle.std.proofs.Common.{ap}
use Rattle.std.specs.Prelude.{not}
use Rattle.mol_conflict.proofs.Values.{tests-same}
use Rattle.mol_conflict.proofs.twice.is_other.Goals as goal
use Rattle.mol_table_rules.proofs.Values.{same_value-is}
use Rattle.mol_table_rules.specs.Values.{same_value}

pub returns : goal.returns
returns c =
    ap not (tests-same c.same_value.result (same_value c.args.first.now c.args.second.now) c.same_value.ensures
    (same_value-is c.args.first.now c.args.second.now))
