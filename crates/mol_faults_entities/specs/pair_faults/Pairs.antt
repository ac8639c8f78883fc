-- Pairs of identities.
use Rattle.std.specs.Prelude.{◌↔◌, List, Option, None, Some, Contains}
use Rattle.std.specs.declared.cmp.Ordering.{Ordering}
use Rattle.std.specs.declared.cmp.Ordering.TheVariants.{Less, Equal, Greater}
use Rattle.mol_base.specs.Order.{id_cmp}
use Rattle.mol_base.specs.declared.ident.Id.{Id}
use Rattle.mol_faults_entities.specs.declared.pair_faults.pair.Pair.{Pair}

abbrev pub pair_by : Ordering → Id → Id → Option Pair
pair_by Less former latter = Some (record { first = former; second = latter })
pair_by Equal former latter = None
pair_by Greater former latter = Some (record { first = latter; second = former })

-- two identities, the smaller one first
abbrev pub ordered_pair : Id → Id → Option Pair
ordered_pair former latter = pair_by (id_cmp former latter) former latter

-- These are the pairs that are so related.
abbrev pub ArePairsOf : (Id → Id → Type 0) → List Pair → Type 0
ArePairsOf Related pairs = (pair : Pair) → Contains pairs pair ↔ Related pair.first pair.second
