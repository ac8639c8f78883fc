-- What is found to be gone, and changed or used, is that.
use Rattle.std.proofs.Common.{◌≡◌, ◌⊎◌, inl, inr, Bool, true, false, List, [], ◌∷◌, ◌++◌, Contains, refl, sym, ap, ◌∙◌, subst, true≢false}
use Rattle.std.proofs.lemmas.Bool.{and_parts}
use Rattle.std.specs.FinMap.{get}
use Rattle.std.specs.List.{list_any}
use Rattle.std.specs.Prelude.{◌↔◌, ◌&&◌, not, IsSome, IsTrue, Option, None, Some, is_some, option_map, if◌then◌else◌}
use Rattle.jav_names.proofs.Lists.{stands_nowhere}
use Rattle.mol_base.specs.declared.ident.Id.{Id}
use Rattle.mol_conflict.proofs.Parts.{any-none, both-true, from-if, in-if, not-false, some-is}
use Rattle.mol_conflict.proofs.Values.{held}
use Rattle.mol_conflict.specs.Found.{changed_at, gone_at, gone_in, is_gone, pair_of, used_among, used_at, used_by, used_in}
use Rattle.mol_conflict.specs.declared.pair.Pair.{Pair as Row}
use Rattle.mol_conflict.specs.declared.pair.Pair.TheVariants.{GoneChanged, GoneUsed}
use Rattle.mol_log_rules.specs.Histories.{History, after, last}
use Rattle.mol_merge_rules.specs.PairConflicts.{Pair, IsGone, IsGonePair, changed, used}
use Rattle.mol_resolve_rules.proofs.Stands.{behind, from_each, in_each, in_either, in_front}
use Rattle.mol_table_rules.proofs.TidyRules.{tidied-at}
use Rattle.mol_table_rules.specs.Identities.{AreKnown}
use Rattle.mol_table_rules.specs.Life.{entity_in, is_living_entity, lives}
use Rattle.mol_table_rules.specs.Mentions.{Mention, Role, mentions}
use Rattle.mol_table_rules.specs.Program.{Program}
use Rattle.mol_table_rules.specs.Tidy.{references, tidied, tidy}
use Rattle.mol_values_types.specs.declared.cell.Cell.{Cell}
use Rattle.mol_values_types.specs.declared.known.Known.{Known}
use Rattle.mol_values_types.specs.declared.value.Value.{Value}

-- ---- where nothing is gone

known-entity : (known : Option Known) → is_some (entity_in known) ≡ true → is_some known ≡ true
known-entity None is = absurd (true≢false (sym is))
known-entity (Some known) is = refl

module _ (base gone other : Program) where
  -- what is gone is known in the base
  pub gone-none : (ids : List Id) → AreKnown base ids → list_any (is_gone base gone other) ids ≡ false
      → (id : Id) → is_gone base gone other id ≡ false
  gone-none ids known none id = by (is_gone base gone other id) refl where
    by : (b : Bool) → is_gone base gone other id ≡ b → is_gone base gone other id ≡ false
    by false is = is
    by true is =
        let both = and_parts (is_living_entity base id && not (is_living_entity gone id)) (is_living_entity other id) is in
        let lived = and_parts (is_living_entity base id) (not (is_living_entity gone id)) both.0 in
        let entity = and_parts (is_some (entity_in (get base.known id))) (lives base id) lived.0 in
        any-none (is_gone base gone other) ids none id ((known id).1 (known-entity (get base.known id) entity.0))

  module _ (none : (id : Id) → is_gone base gone other id ≡ false) (tidied : Program) where
    none-used : (at : Cell) (mentioned : List Mention) → used_among base gone other at mentioned ≡ []
    none-used at [] = refl
    none-used at (mention ∷ mentioned) =
        (λ i. (if none mention.id i then GoneUsed mention.id at ∷ [] else []) ++ none-used at mentioned i)

    none-in : (at : Cell) (value : Option Value) → used_in base gone other at value ≡ []
    none-in at None = refl
    none-in at (Some value) = none-used at (mentions value)

    none-there : (at : Cell) (b : Bool) → (if b then used_in base gone other at (get tidied.cells at) else []) ≡ []
    none-there at true = none-in at (get tidied.cells at)
    none-there at false = refl

    none-at : (at : Cell) → gone_at base gone other tidied at ≡ []
    none-at at = λ i. (if none at.id i then GoneChanged at.id ∷ [] else []) ++ none-there at (is_living_entity other at.id) i

    pub no-rows : (cells : List Cell) → gone_in base gone other tidied cells ≡ []
    no-rows [] = refl
    no-rows (at ∷ cells) = λ i. none-at at i ++ no-rows cells i

-- ---- of two histories

-- the row of a pair is there
abbrev pub IsFoundIn : List Row → Pair → Type 0
IsFoundIn rows pair = (row : Row) × (pair_of row ≡ pair) × Contains rows row

module _ (base : Program) (one other : History) (cells : List Cell)
    (written : (at : Cell) → Contains cells at ↔ IsSome (last other at)) where
  abbrev lost : Program
  lost = after base one

  abbrev left : Program
  left = after base other

  abbrev pub gones : List Row
  gones = gone_in base lost left (tidy left) cells

  gone-is : (id : Id) → IsGone base one other id → is_gone base lost left id ≡ true
  gone-is id is =
      both-true (is_living_entity base id && not (is_living_entity lost id)) (is_living_entity left id)
      (both-true (is_living_entity base id) (not (is_living_entity lost id)) is.lived (ap not is.dead)) is.lives

  gone-from : (id : Id) → is_gone base lost left id ≡ true → IsGone base one other id
  gone-from id is =
      let both = and_parts (is_living_entity base id && not (is_living_entity lost id)) (is_living_entity left id) is in
      let first = and_parts (is_living_entity base id) (not (is_living_entity lost id)) both.0 in
      record { lived = first.0; dead = not-false (is_living_entity lost id) first.1; lives = both.1 }

  -- the tidied value that is written last
  tidied-is : (at : Cell) (value : Value) → last other at ≡ Some value → get (tidy left).cells at ≡ Some (tidied left value)
  tidied-is at value is = tidied-at left at ∙ ap (option_map (tidied left)) (held base other at value is)

  -- ---- each such pair is found

  in-rows : (at : Cell) → IsSome (last other at) → (row : Row) → Contains (gone_at base lost left (tidy left) at) row
      → Contains gones row
  in-rows at some row stands = in_each (gone_at base lost left (tidy left)) cells at row ((written at).1 some) stands

  changed-in : (at : Cell) → IsGone base one other at.id → IsSome (last other at) → Contains gones (GoneChanged at.id)
  changed-in at is some =
      in-rows at some (GoneChanged at.id)
      (in_front (changed_at base lost left at) (used_at base lost left (tidy left) at) (GoneChanged at.id)
      (in-if (is_gone base lost left at.id) (GoneChanged at.id) (gone-is at.id is)))

  used-here : (id : Id) (at : Cell) (value : Value) (role : Role) → IsGone base one other id
      → IsTrue (is_living_entity left at.id) → last other at ≡ Some value
      → Contains (references left value) (record { role = role; id = id })
      → Contains (used_at base lost left (tidy left) at) (GoneUsed id at)
  used-here id at value role is lives writes refers =
      subst (λ (b : Bool). Contains (if b then used_in base lost left at (get (tidy left).cells at) else []) (GoneUsed id at)) (sym lives)
      (subst (λ (holds : Option Value). Contains (used_in base lost left at holds) (GoneUsed id at)) (sym (tidied-is at value writes))
      (in_each (used_by base lost left at) (references left value) (record { role = role; id = id }) (GoneUsed id at) refers
      (in-if (is_gone base lost left id) (GoneUsed id at) (gone-is id is))))

  used-in : (id : Id) (at : Cell) (value : Value) (role : Role) → IsGone base one other id
      → IsTrue (is_living_entity left at.id) → last other at ≡ Some value
      → Contains (references left value) (record { role = role; id = id }) → Contains gones (GoneUsed id at)
  used-in id at value role is lives writes refers =
      in-rows at (ap is_some writes) (GoneUsed id at)
      (behind (changed_at base lost left at) (used_at base lost left (tidy left) at) (GoneUsed id at)
      (used-here id at value role is lives writes refers))

  -- ---- what is found is such a pair

  from-changed : (at : Cell) → IsSome (last other at) → (row : Row) → Contains (changed_at base lost left at) row
      → IsGonePair base one other (pair_of row)
  from-changed at some row stands =
      let is = from-if (is_gone base lost left at.id) (GoneChanged at.id) row stands in
      subst (λ (r : Row). IsGonePair base one other (pair_of r)) is.1 (changed at (gone-from at.id is.0) some)

  from-value : (at : Cell) (value : Value) → last other at ≡ Some value → IsTrue (is_living_entity left at.id) → (row : Row)
      → Contains (used_among base lost left at (references left value)) row → IsGonePair base one other (pair_of row)
  from-value at value writes lives row stands =
      let found = from_each (used_by base lost left at) (references left value) row stands in
      let is = from-if (is_gone base lost left found.0.id) (GoneUsed found.0.id at) row found.2 in
      subst (λ (r : Row). IsGonePair base one other (pair_of r)) is.1 (used (gone-from found.0.id is.0) lives writes found.1)

  from-used : (at : Cell) → IsSome (last other at) → (row : Row) (b : Bool) → is_living_entity left at.id ≡ b
      → Contains (if b then used_in base lost left at (get (tidy left).cells at) else []) row → IsGonePair base one other (pair_of row)
  from-used at some row false is stands = absurd (stands_nowhere row stands)
  from-used at some row true is stands =
      let value = some-is (last other at) some in
      from-value at value.0 value.1 is row
      (subst (λ (holds : Option Value). Contains (used_in base lost left at holds) row) (tidied-is at value.0 value.1) stands)

  pub gones-from : (row : Row) → Contains gones row → IsGonePair base one other (pair_of row)
  gones-from row stands =
      let found = from_each (gone_at base lost left (tidy left)) cells row stands in
      by found.0 ((written found.0).0 found.1)
      (in_either (changed_at base lost left found.0) (used_at base lost left (tidy left) found.0) row found.2)
    where
      by : (at : Cell) → IsSome (last other at)
          → Contains (changed_at base lost left at) row ⊎ Contains (used_at base lost left (tidy left) at) row → IsGonePair base one other (pair_of row)
      by at some (inl front) = from-changed at some row front
      by at some (inr back) = from-used at some row (is_living_entity left at.id) refl back

  pub gones-in : (pair : Pair) → IsGonePair base one other pair → IsFoundIn gones pair
  gones-in pair (changed at is some) = (GoneChanged at.id, refl, changed-in at is some)
  gones-in pair (used {id = id} {at = at} {value = value} {role = role} is lives writes refers) =
      (GoneUsed id at, refl, used-in id at value role is lives writes refers)
