use Rattle.std.proofs.Common.{◌≡◌}
use Rattle.mol_table_numbers.proofs.Collected.{AreNamed}
use Rattle.mol_table_numbers.proofs.names.new_names.Given as goal

abbrev pub invariant-loop-id : goal.invariant-loop-id
invariant-loop-id l = record {
  number : l.num ≡ l.id-index;
  named : AreNamed l.ids l.id-index l.names.entries;
}
