use Rattle.mol_table_rules.specs.Identities.{AscendsTo}
use Rattle.mol_table.proofs.maps.ascending.ascends_from.Given as goal

abbrev pub invariant-loop-at : goal.invariant-loop-at
invariant-loop-at l = AscendsTo l.from l.ids → AscendsTo l.at l.ids
