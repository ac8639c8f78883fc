-- A fault of what two logs leave together names an entry of each, unless it comes of what one of them leaves alone.
use Rattle.std.proofs.Common.{◌≡◌, ◌∙◌, inl, inr, refl, sym, ap, subst, true≢false, List, [], ◌∷◌, ◌++◌, Option, None, Some, Contains}
use Rattle.std.proofs.lemmas.List.Elements.{Contains-append_left, Contains-append_right}
use Rattle.std.specs.List.{flat_map}
use Rattle.std.specs.Option.{option_to_list}
use Rattle.std.specs.Prelude.{◌⊎◌, Bool, true, false, is_some}
use Rattle.jav_names.proofs.Lists.{stands_first, stands_later, stands_where, stands_nowhere}
use Rattle.mol_base.specs.Order.{stamp_cmp, stamp_cmp-total, stamp_cmp-IsAntisymmetric}
use Rattle.mol_base.specs.declared.ident.Stamp.{Stamp}
use Rattle.mol_faults_rules.specs.Kept.{kept_fault}
use Rattle.mol_faults_rules.specs.declared.conflict.Conflict.{Conflict}
use Rattle.mol_faults_rules.specs.declared.fault.Fault.{Fault as Kept}
use Rattle.mol_log.specs.declared.log.Log.{Log}
use Rattle.mol_log_rules.proofs.LogEntries.{entries-lawful}
use Rattle.mol_log_rules.proofs.WhatIsLeft.{rules-after}
use Rattle.mol_log_rules.proofs.WhoWrote.{writers-together}
use Rattle.mol_log_rules.specs.Histories.{History, after, last}
use Rattle.mol_log_rules.specs.Logs.{history}
use Rattle.mol_log_rules.specs.Writers.{writer, same_cell}
use Rattle.mol_merge_laws.proofs.Named.{writer-entry}
use Rattle.mol_merge_laws.proofs.PartsLeft.{parts_of_united}
use Rattle.mol_merge_laws.specs.BadLaws.{RestsIn, BadsNamed}
use Rattle.mol_merge_laws.specs.PartLaws.{GoTogether}
use Rattle.mol_merge_rules.specs.Conflicts.{writers, IsBad, NamesEntry, NamesBoth}
use Rattle.mol_merge_rules.specs.United.{united}
use Rattle.mol_spell_rules.proofs.SetItems.{set-has}
use Rattle.mol_spell_rules.specs.Clean.{Clean}
use Rattle.mol_spell_rules.specs.Support.{Supports}
use Rattle.mol_table_rules.specs.Program.{Program}
use Rattle.mol_table_rules.specs.Rules.{IsProgram}
use Rattle.mol_values_types.specs.declared.cell.Cell.{Cell}

-- ---- lists

in-each : {X Y : Type 0} (f : X → List Y) (xs : List X) (x : X) (y : Y) → Contains xs x → Contains (f x) y → Contains (flat_map f xs) y
in-each f [] x y stands there = absurd (stands_nowhere x stands)
in-each {X} {Y} f (first ∷ xs) x y stands there = by (stands_where first x xs stands) (λ later. in-each f xs x y later there) where
  by : (first ≡ x) ⊎ Contains xs x → (Contains xs x → Contains (flat_map f xs) y) → Contains (f first ++ flat_map f xs) y
  by (inl same) more = Contains-append_left (f first) (flat_map f xs) y (subst (λ z. Contains (f z) y) (sym same) there)
  by (inr later) more = Contains-append_right (f first) (flat_map f xs) y (more later)

-- one passes, or none does
search-list : {X : Type 0} (p : X → Bool) (xs : List X)
    → ((x : X) × Contains xs x × (p x ≡ true)) ⊎ ((x : X) → Contains xs x → p x ≡ false)
search-list p [] = inr (λ x stands. absurd (stands_nowhere x stands))
search-list {X} p (x ∷ xs) = by (p x) refl (search-list p xs) where
  by : (b : Bool) → p x ≡ b → ((y : X) × Contains xs y × (p y ≡ true)) ⊎ ((y : X) → Contains xs y → p y ≡ false)
      → ((y : X) × Contains (x ∷ xs) y × (p y ≡ true)) ⊎ ((y : X) → Contains (x ∷ xs) y → p y ≡ false)
  by true is rest = inl (x, stands_first x xs, is)
  by false is (inl found) = inl (found.0, stands_later x found.0 xs found.1, found.2)
  by false is (inr none) = inr (λ y stands. at y (stands_where x y xs stands)) where
    at : (y : X) → (x ≡ y) ⊎ Contains xs y → p y ≡ false
    at y (inl same) = ap p (sym same) ∙ is
    at y (inr later) = none y later

-- ---- a fault and its stamps

module _ (base : Program) (one other : History) (fault : Kept) (conflict : Conflict) (bad : IsBad base one other fault conflict) where
  -- the stamp of a last writer of a support cell is one of the conflict
  stamp-there : (at : Cell) (stamp : Stamp) → Contains bad.cells at → Contains (writers one other at) stamp → Contains conflict.stamps stamp
  stamp-there at stamp stands there =
      subst (λ stamps. Contains stamps stamp) (sym bad.stamps)
      ((set-has stamp_cmp (record { total = stamp_cmp-total; same = stamp_cmp-IsAntisymmetric })
      (flat_map (writers one other) bad.cells) stamp).1 (in-each (writers one other) bad.cells at stamp stands there))

  -- where a history wrote one of its cells, the conflict names an entry of it
  named-by : (these : History) → ((at : Cell) (stamp : Stamp) → Contains (option_to_list (writer these at)) stamp → Contains (writers one other at) stamp)
      → (at : Cell) → Contains bad.cells at → (o : Option Stamp) → writer these at ≡ o → is_some o ≡ true → NamesEntry these conflict
  named-by these among at stands None e some = absurd (true≢false (sym some))
  named-by these among at stands (Some stamp) e some =
      let entry = writer-entry (same_cell at) these stamp e in (
        entry.0,
        entry.1,
        subst (Contains conflict.stamps) (sym entry.2)
            (stamp-there at stamp stands (among at stamp (subst (λ o. Contains (option_to_list o) stamp) (sym e) (stands_first stamp [])))),
      )

  -- else it wrote none
  none-written : (these : History) → ((at : Cell) → Contains bad.cells at → is_some (writer these at) ≡ false)
      → (at : Cell) → Supports (united base one other) (kept_fault fault) at → last these at ≡ None
  none-written these none at supports = by (last these at) refl where
    by : (o : Option _) → last these at ≡ o → o ≡ None
    by None e = refl
    by (Some value) e =
        absurd (true≢false (sym (writers-together these at ∙ ap is_some e) ∙ none at ((bad.rests.each at).1 supports)))

  either : (these : History) → ((at : Cell) (stamp : Stamp) → Contains (option_to_list (writer these at)) stamp → Contains (writers one other at) stamp)
      → (((at : Cell) → Supports (united base one other) (kept_fault fault) at → last these at ≡ None) → ⊥)
      → NamesEntry these conflict
  either these among not = by (search-list (λ at. is_some (writer these at)) bad.cells) where
    by : ((at : Cell) × Contains bad.cells at × (is_some (writer these at) ≡ true))
        ⊎ ((at : Cell) → Contains bad.cells at → is_some (writer these at) ≡ false) → NamesEntry these conflict
    by (inl found) = named-by these among found.0 found.1 (writer these found.0) refl found.2
    by (inr none) = absurd (not (none-written these none))

module _ (base : Program) (one other : Log) (together : GoTogether base one other)
    (clean_one : Clean (after base (history one))) (clean_other : Clean (after base (history other)))
    (fault : Kept) (conflict : Conflict) (bad : IsBad base (history one) (history other) fault conflict)
    (rests : RestsIn (united base (history one) (history other)) (kept_fault fault)) where
  rules-one : IsProgram (after base (history one))
  rules-one = rules-after base (history one) (entries-lawful one.entries) together.both.first together.rules

  rules-other : IsProgram (after base (history other))
  rules-other = rules-after base (history other) (entries-lawful other.entries) together.both.second together.rules

  bad-named : NamesBoth (history one) (history other) conflict
  bad-named = record {
    one_named = either base (history one) (history other) fault conflict bad (history one)
        (λ at stamp there. Contains-append_left (option_to_list (writer (history one) at)) (option_to_list (writer (history other) at)) stamp there)
        (λ none. rests (after base (history other)) rules-other (parts_of_united.second base one other together clean_one)
        (λ at supports. parts_of_united.by_second base (history one) (history other) at (none at supports)) clean_other);
    other_named = either base (history one) (history other) fault conflict bad (history other)
        (λ at stamp there. Contains-append_right (option_to_list (writer (history one) at)) (option_to_list (writer (history other) at)) stamp there)
        (λ none. rests (after base (history one)) rules-one (parts_of_united.first base one other together clean_other)
        (λ at supports. parts_of_united.by_first base (history one) (history other) at (none at supports)) clean_one);
  }

pub bads_named : BadsNamed
bads_named = record { named = bad-named }
