use Rattle.std.proofs.Common.{length, map, take}
use Rattle.std.specs.List.{zip}
use Rattle.mol_resolve.proofs.member_headers.params.read_all.Given as goal
use Rattle.mol_resolve_entities.specs.member_entities.Headings.{param_read}
use Rattle.mol_resolve_readings.specs.reads.Reads.{Reads}
use Rattle.mol_resolve_rules.specs.Outcomes.{all}

abbrev pub invariant-loop-id : goal.invariant-loop-id
invariant-loop-id g l =
    Reads (all (map (param_read (g.N.Names.reader l.names) l.at) (take (length l.yielded) (zip l.ids l.params)))) l.list l.initial.faults
    l.faults
