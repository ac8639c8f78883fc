-- Pairs of entities at one address.
use Rattle.std.specs.Prelude.{List, [], ◌∷◌, ◌++◌, filter_map, take_while}
use Rattle.std.specs.Ordering.{is_eq}
use Rattle.mol_faults_entities.specs.pair_faults.Addresses.{location_cmp}
use Rattle.mol_faults_entities.specs.pair_faults.Pairs.{ordered_pair}
use Rattle.mol_faults_entities.specs.declared.pair_faults.addressed.Addressed.{Addressed}
use Rattle.mol_faults_entities.specs.declared.pair_faults.pair.Pair.{Pair}
use Rattle.mol_spell_rules.specs.FaultList.{Fault, same_address}

-- an entity with those that follow it at its address
abbrev pub shared_with : Addressed → List Addressed → List Pair
shared_with row later = filter_map (λ next. ordered_pair row.id next.id) (take_while (λ next. is_eq (location_cmp row next)) later)

-- and each with those that follow it
abbrev pub shared_pairs : List Addressed → List Pair
shared_pairs [] = []
shared_pairs (row ∷ later) = shared_with row later ++ shared_pairs later

abbrev pub address_fault : Pair → Fault
address_fault pair = same_address pair.first pair.second
