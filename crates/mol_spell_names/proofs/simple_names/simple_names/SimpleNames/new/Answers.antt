use Rattle.std.proofs.Common.{map, subst}
use Rattle.mol_spell_names.proofs.simple_names.simple_names.SimpleNames.new.Goals as goal
use Rattle.mol_spell_names.specs.simple_names.Bearers.{AreBearers}
use Rattle.mol_table_rules.specs.Program.{Program}
use Rattle.mol_spell_uses.specs.uses.Kept.{kept_use}

pub invariant_of-result : goal.invariant_of-result
invariant_of-result c = record {
  are_bearers = subst (λ (program : Program). AreBearers program (map kept_use c.args.uses.now) c.in_ok-bearers.bearers.entries)
      c.table.ensures c.in_ok-bearers.ensures;
}
