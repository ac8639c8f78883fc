-- The maps of a table stand after `set` and `add`.
use Rattle.std.specs.Prelude.{◌≡◌, ◌≢◌, ◌≤◌, List, [], ◌∷◌, map, Option, None, Some, IsSome, Bool, true, false}
use Rattle.std.proofs.Common.{suc, refl, sym, ap, subst, ◌∙◌, arith}
use Rattle.std.specs.List.{All, AllPairs, AllByRecursion}
use Rattle.std.specs.List.Sorted.{IsSorted}
use Rattle.std.specs.FinMap.{get}
use Rattle.mol_base.specs.Order.{id_cmp}
use Rattle.mol_base.specs.declared.ident.Id.{Id}
use Rattle.mol_table_rules.specs.Counting.{Counts, Counted, living_of, recounted, number_at, one_if, is_of}
use Rattle.mol_table_rules.specs.Life.{entity_in}
use Rattle.mol_table.specs.Maps.{program_in, counts_in, counts_of, cells_of, knowns_of, IsOrdered, Stands}
use Rattle.mol_table_rules.specs.Room.{AreFresh, AreApart}
use Rattle.mol_table_rules.specs.Program.{Program, Knowns, same_id}
use Rattle.mol_table_rules.specs.Rules.{IsProgram}
use Rattle.mol_table_rules.specs.Writes.{with_value, with_values, with_entity, known_as}
use Rattle.mol_values_types.specs.declared.cell.Cell.{Cell}
use Rattle.mol_table_rules.specs.declared.entity.NewEntity.{NewEntity}
use Rattle.mol_table.specs.declared.maps.Maps.{Maps}
use Rattle.mol_values_types.specs.declared.value.Value.{Value}
use Rattle.mol_table.proofs.Counted.{counted-value, number-recounted, recounted-kept, number-some}
use Rattle.mol_table_rules.proofs.Living.{id_tied}

-- ---- room that is made changes nothing

pub reserved-program : (old new : Maps) → new ≡ record old { known = new.known } → new.known.entries ≡ old.known.entries → program_in new ≡ program_in old
reserved-program old new rest entries =
    ap program_in rest ∙ (λ i. record { cells = cells_of old.cells.entries; known = knowns_of (entries i) })

pub reserved-ordered : (old new : Maps) → new.known.entries ≡ old.known.entries → IsOrdered old → IsOrdered new
reserved-ordered old new entries ordered = subst (λ es. IsSorted id_cmp (map (λ e. e.0) es)) (sym entries) ordered

-- ---- what is known is put in order

pub arranged-program : (old new : Maps) → new ≡ record old { known = new.known } → (program_in new).known ≡ (program_in old).known → program_in new ≡ program_in old
arranged-program old new rest known = λ i. record { cells = cells_of (rest i).cells.entries; known = known i }

pub stands-arranged : (old new : Maps) → new ≡ record old { known = new.known } → (program_in new).known ≡ (program_in old).known → IsOrdered new
    → IsProgram (program_in old) → Counted (program_in old) (counts_in old) → Stands new
stands-arranged old new rest known ordered rules counted =
    let program = arranged-program old new rest known in
    record {
      rules = subst IsProgram (sym program) rules;
      counted = subst (λ p. Counted p (counts_in new)) (sym program) (subst (Counted (program_in old)) (sym (ap counts_in rest)) counted);
      ordered = ordered;
    }

-- ---- `set`

own-some : (counts : Counts) (method own : Id) → 1 ≤ number_at counts own → one_if (same_id method own) ≤ number_at counts method
own-some counts method own some = by (same_id method own) refl where
  by : (b : Bool) → same_id method own ≡ b → one_if b ≤ number_at counts method
  by true e = subst (λ m. 1 ≤ number_at counts m) (sym (id_tied method own e)) some
  by false e = omega arith

module _ (old new : Maps) (stands : Stands old) (at : Cell) (value : Value) (there : IsSome (get (program_in old).cells at))
    (rules : IsProgram (with_value (program_in old) at value)) where
  abbrev after : Program
  after = with_value (program_in old) at value

  pub stands-set : program_in new ≡ after → counts_in new ≡ recounted (counts_in old) (living_of (program_in old) at.id) (living_of after at.id)
      → IsOrdered new → Stands new
  stands-set program counts ordered = record {
    rules = subst IsProgram (sym program) rules;
    counted = subst (λ p. Counted p (counts_in new)) (sym program) (subst (Counted after) (sym counts)
        (counted-value (program_in old) stands.rules (counts_in old) stands.counted at value there rules
        (recounted (counts_in old) (living_of (program_in old) at.id) (living_of after at.id))
        (λ method. number-recounted (counts_in old) (living_of (program_in old) at.id) (living_of after at.id) method (some method (living_of (program_in old) at.id) refl))
        (λ method is. recounted-kept (counts_in old) (living_of (program_in old) at.id) (living_of after at.id) method is)));
    ordered = ordered;
  } where
    some : (method : Id) (o : Option Id) → living_of (program_in old) at.id ≡ o → one_if (is_of method o) ≤ number_at (counts_in old) method
    some method None is = omega arith
    some method (Some own) is = own-some (counts_in old) method own (number-some (program_in old) (counts_in old) stands.counted at.id own is)

-- ---- `add`

pub all-rec : {X : Type 0} (P : X → Type 0) (xs : List X) → All P xs → AllByRecursion P xs
all-rec P [] all = tt {0}
all-rec P (x ∷ xs) all = (all 0 x (omega arith), all-rec P xs (λ k d within. all (suc k) d (omega arith)))

pub are-apart : (entities : List NewEntity) → AllPairs (λ (one other : NewEntity). one.id ≢ other.id) entities → AreApart entities
are-apart [] pairs = tt {0}
are-apart (entity ∷ entities) pairs = (
  all-rec (λ (other : NewEntity). entity.id ≢ other.id) entities (λ k d within. pairs 0 (suc k) d (omega arith) (omega arith)),
  are-apart entities (λ i j d before within. pairs (suc i) (suc j) d (omega arith) (omega arith)),
)

pub are-fresh : (known : Knowns) (entities : List NewEntity) → AllByRecursion (λ (entity : NewEntity). get known entity.id ≡ None) entities → AreFresh known entities
are-fresh known [] all = tt {0}
are-fresh known (entity ∷ entities) all = (ap entity_in all.0, are-fresh known entities all.1)

-- ---- room alone

pub stands-reserved : (old new : Maps) → new.cells.entries ≡ old.cells.entries → new.known.entries ≡ old.known.entries → new.living.entries ≡ old.living.entries → Stands old → Stands new
stands-reserved old new cells known living stands =
    let program : program_in new ≡ program_in old = λ i. record { cells = cells_of (cells i); known = knowns_of (known i) } in
    record {
      rules = subst IsProgram (sym program) stands.rules;
      counted = subst (λ p. Counted p (counts_in new)) (sym program) (subst (Counted (program_in old)) (sym (ap counts_of living)) stands.counted);
      ordered = reserved-ordered old new known stands.ordered;
    }

-- ---- an entity that is put

pub entity-unchanged : (old named new : Maps) → named ≡ record old { known = named.known } → new.living ≡ named.living → counts_in new ≡ counts_in old
entity-unchanged old named new rest living = ap (λ living. counts_of living.entries) (living ∙ ap (λ (maps : Maps). maps.living) rest)

pub entity-written : (old named new : Maps) (entity : NewEntity) (items : List Value) → (program_in named).known ≡ known_as (program_in old).known entity.id entity.kind
    → named ≡ record old { known = named.known } → program_in new ≡ with_values (program_in named) entity.id items → items ≡ entity.values
    → program_in new ≡ with_entity (program_in old) entity
entity-written old named new entity items known rest program values =
    let first : Program = record (program_in old) { known = known_as (program_in old).known entity.id entity.kind } in
    let is : program_in named ≡ first = λ i. record { cells = cells_of (rest i).cells.entries; known = known i } in
    program ∙ ap (λ p. with_values p entity.id items) is ∙ ap (λ vs. with_values first entity.id vs) values

-- ---- a value that is written after room was made

pub value-written : (old room new : Maps) (at : Cell) (value : Value) → room ≡ record old { known = room.known } → room.known.entries ≡ old.known.entries
    → program_in new ≡ with_value (program_in room) at value → program_in new ≡ with_value (program_in old) at value
value-written old room new at value rest entries program = program ∙ ap (λ p. with_value p at value) (reserved-program old room rest entries)
