-- Where entries of two histories over one base do not go together, and what that is about.
use Rattle.std.specs.List.Sorted.{IsStrictlySortedBy}
use Rattle.std.specs.Ordering.{nat_cmp, on, then_cmp}
use Rattle.std.specs.Prelude.{◌≡◌, ◌≢◌, ◌↔◌, ℕ, IsTrue, IsFalse, IsSome, List, Contains, Some}
use Rattle.std.specs.declared.cmp.Ordering.{Ordering}
use Rattle.mol_base.specs.Order.{id_cmp}
use Rattle.mol_base.specs.declared.ident.Id.{Id}
use Rattle.mol_log_rules.specs.Histories.{History, after, last}
use Rattle.mol_table_rules.specs.Life.{is_living_entity}
use Rattle.mol_table_rules.specs.Mentions.{Role}
use Rattle.mol_table_rules.specs.Program.{Program, cell}
use Rattle.mol_table_rules.specs.Tidy.{references}
use Rattle.mol_values_types.specs.Order.{cell_cmp}
use Rattle.mol_values_types.specs.declared.cell.Cell.{Cell}
use Rattle.mol_values_types.specs.declared.cell.Slot.TheVariants as slots
use Rattle.mol_values_types.specs.declared.value.Value.{Value}

-- What a pair conflict is about: a cell that is set twice; an entity that is gone, and is changed; one that is gone, and a cell in which
-- it is used. The values and the stamps follow from that.
pub data Pair : Type 0 where
  twice : Cell → Pair
  gone_changed : Id → Pair
  gone_used : Id → Cell → Pair

-- what pairs are ordered by: the kind, then the identity, then the cell
pub record PairKey : Type 0 where
  pub kind : ℕ
  pub id : Id
  pub at : Cell

abbrev pub pair_key : Pair → PairKey
pair_key (twice at) = record { kind = 0; id = at.id; at = at }
pair_key (gone_changed id) = record { kind = 1; id = id; at = cell id slots.Live }
pair_key (gone_used id at) = record { kind = 2; id = id; at = at }

abbrev pub pair_key_cmp : PairKey → PairKey → Ordering
pair_key_cmp = then_cmp (on (λ key. key.kind) nat_cmp) (then_cmp (on (λ key. key.id) id_cmp) (on (λ key. key.at) cell_cmp))

abbrev pub pair_cmp : Pair → Pair → Ordering
pair_cmp = on pair_key pair_key_cmp

-- A cell is set to two values: its entity lives after each history, both write it, and the values that they write last differ.
pub record IsTwice (base : Program) (one other : History) (at : Cell) : Type 0 where
  pub lives_one : IsTrue (is_living_entity (after base one) at.id)
  pub lives_other : IsTrue (is_living_entity (after base other) at.id)
  pub first : Value
  pub second : Value
  pub last_one : last one at ≡ Some first
  pub last_other : last other at ≡ Some second
  pub differ : first ≢ second

-- an entity, and no parameter, which lives in the base, does not live after the one, and lives after the other
pub record IsGone (base : Program) (one other : History) (id : Id) : Type 0 where
  pub lived : IsTrue (is_living_entity base id)
  pub dead : IsFalse (is_living_entity (after base one) id)
  pub lives : IsTrue (is_living_entity (after base other) id)

-- What the one leaves dead, the other changes, by a write into a cell of it; or uses, by a write into a cell of what lives after the
-- other, if the value that the other writes there last, tidied in what the other leaves, refers to it.
pub data IsGonePair (base : Program) (one other : History) : Pair → Type 0 where
  changed : (at : Cell) → IsGone base one other at.id → IsSome (last other at) → IsGonePair base one other (gone_changed at.id)
  used : {id : Id} {at : Cell} {value : Value} {role : Role} → IsGone base one other id
      → IsTrue (is_living_entity (after base other) at.id) → last other at ≡ Some value
      → Contains (references (after base other) value) (record { role = role; id = id }) → IsGonePair base one other (gone_used id at)

pub data IsPair (base : Program) (one other : History) : Pair → Type 0 where
  set_twice : {at : Cell} → IsTwice base one other at → IsPair base one other (twice at)
  gone_after_one : {pair : Pair} → IsGonePair base one other pair → IsPair base one other pair
  gone_after_other : {pair : Pair} → IsGonePair base other one pair → IsPair base one other pair

-- the list has all pairs of the two, each once, in order
pub record ArePairs (base : Program) (one other : History) (pairs : List Pair) : Type 0 where
  pub ascending : IsStrictlySortedBy pair_cmp pairs
  pub each : (pair : Pair) → Contains pairs pair ↔ IsPair base one other pair
