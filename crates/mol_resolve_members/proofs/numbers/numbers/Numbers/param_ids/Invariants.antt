use Rattle.std.proofs.Common.{◌≡◌, ◌+◌, map}
use Rattle.mol_resolve_members.specs.places.Listings.{key_of}
use Rattle.mol_resolve_rules.specs.Numbering.{below}
use Rattle.mol_table_rules.specs.Renumber.{base_id}
use Rattle.mol_resolve_members.specs.numbers.Given.{method_number}
use Rattle.mol_resolve_members.proofs.numbers.numbers.Numbers.param_ids.Given as goal

abbrev pub invariant-loop-place : goal.invariant-loop-place
invariant-loop-place l = l.ids.items ≡ map (λ param. base_id (method_number l.self (key_of l.at) (1 + param))) (below l.place)
