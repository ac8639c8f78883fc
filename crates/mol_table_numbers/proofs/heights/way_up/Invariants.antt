use Rattle.std.proofs.Common.{Some}
use Rattle.mol_table.specs.Maps.{program_in}
use Rattle.mol_table_rules.specs.Heights.{Leads}
use Rattle.mol_table_numbers.proofs.heights.way_up.Given as goal

abbrev pub invariant-loop : goal.invariant-loop
invariant-loop l = Leads (program_in l.maps) (Some l.fn.class) l.classes.items l.at
