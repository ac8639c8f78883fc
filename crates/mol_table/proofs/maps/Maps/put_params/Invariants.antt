use Rattle.mol_base.specs.declared.ident.Id.{Id}
use Rattle.std.proofs.Common.{List, length, ◌≡◌, ◌≤◌, ◌+◌, drop}
use Rattle.indexmap.specs.IndexMap.{spare}
use Rattle.mol_table.specs.Maps.{program_in, StartsWith}
use Rattle.mol_table_rules.specs.Writes.{with_params}
use Rattle.mol_table.proofs.maps.Maps.put_params.Given as goal

abbrev pub invariant-loop-param : goal.invariant-loop-param
invariant-loop-param l = record {
  known : with_params (program_in l.self).known l.method (drop l.param-index l.params) ≡ with_params (program_in l.fn.self).known l.method l.params;
  starts : (ids : List Id) → StartsWith ids l.fn.self.known.entries → StartsWith ids l.self.known.entries;
  count : length l.self.known.entries ≤ length l.fn.self.known.entries + l.param-index;
  room : spare l.fn.self.known ≤ spare l.self.known + l.param-index;
  rest : l.self ≡ record l.fn.self { known = l.self.known };
}
