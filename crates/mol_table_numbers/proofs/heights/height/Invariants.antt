use Rattle.std.proofs.Common.{◌≡◌, drop}
use Rattle.std.specs.Prelude.{Option}
use Rattle.mol_base.specs.declared.ident.Id.{Id}
use Rattle.mol_table.specs.Maps.{program_in}
use Rattle.mol_table_numbers.specs.Tops.{Ends, height_at, AreHeights}
use Rattle.mol_table_rules.specs.Heights.{Leads}
use Rattle.mol_table_numbers.proofs.heights.height.Given as goal

abbrev pub invariant-loop-class : goal.invariant-loop-class
invariant-loop-class l = record {
  start : Option Id;
  at : Option Id;
  leads : Leads (program_in l.maps) start (drop l.class-index l.class-items) at;
  ends : Ends l.maps start;
  high : l.height ≡ height_at l.maps start;
  known : AreHeights l.maps l.heights.entries;
}
