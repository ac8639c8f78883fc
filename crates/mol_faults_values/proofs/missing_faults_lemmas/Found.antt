-- What is collected are the faults of what is gone.
use Rattle.std.proofs.Common.{◌≡◌, ◌⊎◌, inl, inr, ◌↔◌, Bool, true, false, ◌&&◌, if◌then◌else◌, List, [], ◌∷◌, map, Option, None, Some, Contains, IsTrue, IsFalse, is_some, option_map, refl, sym, ap, ◌∙◌, subst, arith, true≢false}
use Rattle.std.proofs.lemmas.Bool.{and_parts}
use Rattle.std.specs.FinMap.{get}
use Rattle.std.specs.List.Sorted.{IsStrictlySortedBy}
use Rattle.jav_names.proofs.Lists.{stands_first, stands_where, stands_nowhere, stands-mapped}
use Rattle.mol_base.specs.declared.ident.Id.{Id}
use Rattle.mol_faults_rules.specs.OfKind.{AreOfKind}
use Rattle.mol_faults_values.proofs.missing_faults_lemmas.ReferringSlots.{is-looked-up}
use Rattle.mol_faults_values.proofs.missing_faults_lemmas.SameRows.{gone_cmp, ordered-alike}
use Rattle.mol_faults_values.specs.missing_faults.Gone.{fault_of, referring_slots, gone_by, gone_in, gone_at, gone_in_slots, gone_of, gone_in_all}
use Rattle.mol_faults_values.specs.declared.missing_faults.gone.Gone.{Gone}
use Rattle.mol_base.proofs.Mapped.{sorted-mapped}
use Rattle.mol_resolve_rules.proofs.Stands.{in_each, from_each, from_map}
use Rattle.mol_spell_rules.specs.FaultList.{entity, default_of, local_of, outside_of, Fault, same_address, false_override, apart, outside_name, missing, misread, local_clash, package_is_class, IsFault, by_absence, fault_key, fault_cmp}
use Rattle.mol_table_rules.specs.Faults.{is_there, Missing}
use Rattle.mol_table_rules.specs.Identities.{AreKnown}
use Rattle.mol_table_rules.specs.Life.{entity_in, is_living_entity, lives}
use Rattle.mol_table_rules.specs.Mentions.{Mention}
use Rattle.mol_table_rules.specs.Program.{Program, value_at, cell}
use Rattle.mol_table_rules.specs.Rules.{IsProgram}
use Rattle.mol_table_rules.specs.Tidy.{tidied, tidy, references}
use Rattle.mol_values_types.specs.declared.cell.Cell.{Cell}
use Rattle.mol_values_types.specs.declared.cell.Slot.{Slot}
use Rattle.mol_values_types.specs.declared.known.Known.{Known}
use Rattle.mol_values_types.specs.declared.known.Known.TheVariants as knowns
use Rattle.mol_values_types.specs.declared.value.Value.{Value}

abbrev IsOfKind : Program → Fault → Type 0
IsOfKind program fault = IsFault program fault × ((fault_key fault).kind ≡ 4)

-- ---- in a cell

module _ (program : Program) (at : Cell) where
  abbrev row_of : Id → Gone
  row_of target = record { at = at; target = target }

  -- a mention that is collected is gone
  gone-row : (mention : Mention) (row : Gone) (there : Bool) → is_there program at.id mention.role mention.id ≡ there
      → Contains (if there then [] else row_of mention.id ∷ []) row
      → (row_of mention.id ≡ row) × IsFalse (is_there program at.id mention.role mention.id)
  gone-row mention row true is stands = absurd (stands_nowhere row stands)
  gone-row mention row false is stands = (only (stands_where (row_of mention.id) row [] stands), is) where
    only : (row_of mention.id ≡ row) ⊎ Contains [] row → row_of mention.id ≡ row
    only (inl same) = same
    only (inr none) = absurd (stands_nowhere row none)

  is-missing : (value : Option Value) (row : Gone) → value_at program at.id at.slot ≡ value → IsTrue (is_living_entity program at.id)
      → Contains (gone_in program at (option_map (tidied program) value)) row → IsOfKind program (fault_of row)
  is-missing None row is lives stands = absurd (stands_nowhere row stands)
  is-missing (Some value) row is lives stands =
      let found = from_each (gone_by program at) (references program value) row stands in
      let gone = gone-row found.0 row (is_there program at.id found.0.role found.0.id) refl found.2 in
      let absence : Missing program at found.0.id = record {
        owner_lives = lives;
        value = value;
        holds = is;
        role = found.0.role;
        refers = found.1;
        gone = gone.1;
      } in
      subst (λ (r : Gone). IsOfKind program (fault_of r)) gone.0 (by_absence absence, refl)

  missing-collected : (target : Id) → Missing program at target
      → Contains (gone_in program at (option_map (tidied program) (value_at program at.id at.slot))) (row_of target)
  missing-collected target absence =
      subst (λ (value : Option Value). Contains (gone_in program at (option_map (tidied program) value)) (row_of target))
      (sym absence.holds)
      (in_each (gone_by program at) (references program absence.value) (record { role = absence.role; id = target }) (row_of target)
      absence.refers
      (subst (λ (there : Bool). Contains (if there then [] else row_of target ∷ []) (row_of target)) (sym absence.gone)
      (stands_first (row_of target) [])))

-- ---- in a program

known-entity : (known : Option Known) → is_some (entity_in known) ≡ true → is_some known ≡ true
known-entity None is = absurd (true≢false (sym is))
known-entity (Some known) is = refl

module _ (program : Program) (tidied-at : (at : Cell) → get (tidy program).cells at ≡ option_map (tidied program) (get program.cells at))
    (rules : IsProgram program) (ids : List Id) (known : AreKnown program ids) where
  abbrev collected : List Gone
  collected = gone_in_all program (tidy program) ids

  -- the slots that are looked up where an entity lives
  abbrev slots_if : Bool → Id → List Slot
  slots_if living id = referring_slots (if living then get program.known id else None)

  from-entity : (id : Id) (row : Gone) (living : Bool) → is_living_entity program id ≡ living
      → Contains (gone_in_slots program (tidy program) id (slots_if living id)) row → IsOfKind program (fault_of row)
  from-entity id row false is stands = absurd (stands_nowhere row stands)
  from-entity id row true is stands =
      let found = from_each (λ (slot : Slot). gone_at program (tidy program) (cell id slot)) (slots_if true id) row stands in
      is-missing program (cell id found.0) (value_at program id found.0) row refl is
      (subst (λ (value : Option Value). Contains (gone_in program (cell id found.0) value) row) (tidied-at (cell id found.0)) found.2)

  is-known : (id : Id) → IsTrue (is_living_entity program id) → Contains ids id
  is-known id living =
      (known id).1 (known-entity (get program.known id)
      (and_parts (is_some (entity_in (get program.known id))) (lives program id) living).0)

  is-collected : (at : Cell) (target : Id) → Missing program at target → Contains collected (record { at = at; target = target })
  is-collected at target absence =
      let row : Gone = record { at = at; target = target } in
      in_each (gone_of program (tidy program)) ids at.id row (is-known at.id absence.owner_lives)
      (subst (λ (living : Bool). Contains (gone_in_slots program (tidy program) at.id (slots_if living at.id)) row) (sym absence.owner_lives)
      (in_each (λ (slot : Slot). gone_at program (tidy program) (cell at.id slot)) (slots_if true at.id) at.slot row
      (is-looked-up program rules at target absence)
      (subst (λ (value : Option Value). Contains (gone_in program at value) row) (sym (tidied-at at))
      (missing-collected program at target absence))))

  module _ (rows : List Gone) (same : (row : Gone) → Contains rows row ↔ Contains collected row) where
    is-fault : (fault : Fault) → Contains (map fault_of rows) fault → IsOfKind program fault
    is-fault fault stands =
        let row = from_map fault_of rows fault stands in
        let found = from_each (gone_of program (tidy program)) ids row.0 ((same row.0).0 row.1) in
        subst (IsOfKind program) row.2 (from-entity found.0 row.0 (is_living_entity program found.0) refl found.2)

    stands-fault : (fault : Fault) → IsFault program fault → (fault_key fault).kind ≡ 4 → Contains (map fault_of rows) fault
    stands-fault (missing at target) (by_absence h) kind =
        let row : Gone = record { at = at; target = target } in
        stands-mapped fault_of rows row ((same row).1 (is-collected at target h))
    stands-fault (same_address first second) h kind = absurd (omega (arith, kind))
    stands-fault (false_override first second) h kind = absurd (omega (arith, kind))
    stands-fault (apart method) h kind = absurd (omega (arith, kind))
    stands-fault (outside_name method) h kind = absurd (omega (arith, kind))
    stands-fault (misread at number (entity id)) h kind = absurd (omega (arith, kind))
    stands-fault (misread at number (default_of class)) h kind = absurd (omega (arith, kind))
    stands-fault (misread at number (local_of local)) h kind = absurd (omega (arith, kind))
    stands-fault (misread at number (outside_of text)) h kind = absurd (omega (arith, kind))
    stands-fault (local_clash at name) h kind = absurd (omega (arith, kind))
    stands-fault (package_is_class class inside) h kind = absurd (omega (arith, kind))

    pub are-of-kind : IsStrictlySortedBy gone_cmp rows → AreOfKind program 4 (map fault_of rows)
    are-of-kind sorted = record {
      ascending = sorted-mapped gone_cmp fault_cmp fault_of ordered-alike rows sorted;
      each = λ fault. (is-fault fault, λ is. stands-fault fault is.0 is.1);
    }
