-- The conflict of a pair names an entry of each history.
use Rattle.std.proofs.Common.{◌≡◌, ◌∙◌, refl, sym, ap, subst, true≢false, List, [], ◌∷◌, Option, None, Some, Contains, Ordering, Less, Equal, Greater, arith}
use Rattle.std.proofs.lemmas.List.Elements.{Contains-append_right}
use Rattle.std.specs.List.{list_any}
use Rattle.std.specs.Prelude.{◌||◌, Bool, true, false, cond, IsSome, is_some}
use Rattle.jav_names.proofs.Lists.{stands_first}
use Rattle.mol_base.specs.Order.{stamp_cmp, stamp_cmp-IsAntisymmetric}
use Rattle.mol_base.specs.declared.ident.Id.{Id}
use Rattle.mol_base.specs.declared.ident.Stamp.{Stamp}
use Rattle.mol_faults_rules.specs.declared.conflict.Conflict.{Conflict}
use Rattle.mol_log_rules.proofs.LifeWriters.{gone-written}
use Rattle.mol_log_rules.proofs.WhoWrote.{some-or, some-cond, writers-together, writer-placed}
use Rattle.mol_log_rules.specs.Histories.{Stamped, History, after, last}
use Rattle.mol_log_rules.specs.Writers.{writes_some, last_writer, entity_writer, same_cell, WritesLast}
use Rattle.mol_merge_rules.specs.Conflicts.{both_stamps, stamps_of, pair_stamps, IsConflictOf, NamesEntry, NamesBoth}
use Rattle.mol_merge_rules.specs.PairConflicts.{Pair, IsGonePair, changed, used, IsPair, set_twice, gone_after_one, gone_after_other}
use Rattle.mol_op.specs.ChangeLaws.{id_self, cell_is}
use Rattle.mol_op.specs.Changes.{Write}
use Rattle.mol_table_rules.specs.Life.{is_living_entity}
use Rattle.mol_table_rules.specs.Program.{Program, same_id}
use Rattle.mol_values_types.specs.declared.cell.Cell.{Cell}

-- ---- who wrote a cell of an entity

or-true : (a : Bool) → (a || true) ≡ true
or-true true = refl
or-true false = refl

or-both : (a b c d : Bool) → (a ≡ true → c ≡ true) → (b ≡ true → d ≡ true) → (a || b) ≡ true → (c || d) ≡ true
or-both true b c d first second is = ap (λ x. x || d) (first refl)
or-both false b c d first second is = ap (λ x. c || x) (second is) ∙ or-true c

any-more : {X : Type 0} (p q : X → Bool) (xs : List X) → ((x : X) → p x ≡ true → q x ≡ true) → list_any p xs ≡ true → list_any q xs ≡ true
any-more p q [] more is = is
any-more p q (x ∷ xs) more is = or-both (p x) (list_any p xs) (q x) (list_any q xs) (more x) (any-more p q xs more) is

writer-more : (p q : Cell → Bool) → ((at : Cell) → p at ≡ true → q at ≡ true) → (history : History)
    → is_some (last_writer p history) ≡ true → is_some (last_writer q history) ≡ true
writer-more p q more [] is = is
writer-more p q more (entry ∷ history) is =
    some-or (last_writer q history) (cond (writes_some q entry.change) (Some entry.stamp) None)
    ∙ or-both (is_some (last_writer p history)) (is_some (cond (writes_some p entry.change) (Some entry.stamp) None))
    (is_some (last_writer q history)) (is_some (cond (writes_some q entry.change) (Some entry.stamp) None))
    (writer-more p q more history)
    (λ so. some-cond (writes_some q entry.change) entry.stamp
    ∙ any-more (λ (write : Write). p write.0) (λ (write : Write). q write.0) entry.change.writes (λ write. more write.0)
    (sym (some-cond (writes_some p entry.change) entry.stamp) ∙ so))
    (sym (some-or (last_writer p history) (cond (writes_some p entry.change) (Some entry.stamp) None)) ∙ is)

pub entity-written : (history : History) (at : Cell) → IsSome (last history at) → IsSome (entity_writer history at.id)
entity-written history at some =
    writer-more (same_cell at) (λ q. same_id at.id q.id)
    (λ q same. ap (λ (c : Cell). same_id at.id c.id) (sym (cell_is at q same)) ∙ id_self at.id)
    history (writers-together history at ∙ some)

-- ---- stamps of entries

IsOf : History → Stamp → Type 0
IsOf history stamp = (entry : Stamped) × Contains history entry × (entry.stamp ≡ stamp)

-- a last writer is an entry
pub writer-entry : (passes : Cell → Bool) (history : History) (stamp : Stamp) → last_writer passes history ≡ Some stamp
    → (entry : Stamped) × Contains history entry × (entry.stamp ≡ stamp)
writer-entry passes history stamp is = (
  found.entry,
  subst (λ h. Contains h found.entry) (sym found.place)
      (Contains-append_right found.front (found.entry ∷ found.back) found.entry (stands_first found.entry found.back)),
  found.stamped,
) where
  found : WritesLast passes history stamp
  found = writer-placed passes history stamp is

first-there : (one other : Stamp) (o : Ordering) → Contains (both_stamps o one other) one
first-there one other Less = (0, omega arith, refl)
first-there one other Equal = (0, omega arith, refl)
first-there one other Greater = (1, omega arith, refl)

second-there : (one other : Stamp) (o : Ordering) → stamp_cmp one other ≡ o → Contains (both_stamps o one other) other
second-there one other Less is = (1, omega arith, refl)
second-there one other Equal is = subst (Contains (one ∷ [])) (stamp_cmp-IsAntisymmetric one other is) (0, omega arith, refl)
second-there one other Greater is = (0, omega arith, refl)

-- where two writers are there, the stamps of both name an entry of each history
module _ (one other : History) (p q : Cell → Bool) (conflict : Conflict)
    (stamps : conflict.stamps ≡ stamps_of (last_writer p one) (last_writer q other)) where
  named-by : (o : Option Stamp) → last_writer p one ≡ o → IsSome o → (u : Option Stamp) → last_writer q other ≡ u → IsSome u
      → NamesEntry one conflict × NamesEntry other conflict
  named-by None e some u f also = absurd (true≢false (sym some))
  named-by (Some a) e some None f also = absurd (true≢false (sym also))
  named-by (Some a) e some (Some b) f also = (
    (
      first.0,
      first.1,
      there first.0.stamp (subst (Contains (both_stamps (stamp_cmp a b) a b)) (sym first.2) (first-there a b (stamp_cmp a b))),
    ),
    (
      second.0,
      second.1,
      there second.0.stamp (subst (Contains (both_stamps (stamp_cmp a b) a b)) (sym second.2) (second-there a b (stamp_cmp a b) refl)),
    ),
  ) where
    first : (entry : Stamped) × Contains one entry × (entry.stamp ≡ a)
    first = writer-entry p one a e

    second : (entry : Stamped) × Contains other entry × (entry.stamp ≡ b)
    second = writer-entry q other b f

    these : conflict.stamps ≡ both_stamps (stamp_cmp a b) a b
    these = stamps ∙ (λ i. stamps_of (e i) (f i))

    there : (stamp : Stamp) → Contains (both_stamps (stamp_cmp a b) a b) stamp → Contains conflict.stamps stamp
    there stamp = subst (λ s. Contains s stamp) (sym these)

  pub both-named : IsSome (last_writer p one) → IsSome (last_writer q other) → NamesEntry one conflict × NamesEntry other conflict
  both-named some also = named-by (last_writer p one) refl some (last_writer q other) refl also

-- ---- pairs

module _ (base : Program) (one other : History) (conflict : Conflict) where
  turn : NamesEntry other conflict × NamesEntry one conflict → NamesBoth one other conflict
  turn both = record { one_named = both.1; other_named = both.0 }

  keep : NamesEntry one conflict × NamesEntry other conflict → NamesBoth one other conflict
  keep both = record { one_named = both.0; other_named = both.1 }

  -- the stamps of what is gone after the one, or after the other
  dead-one : (a b : List Stamp) (id : Id) → is_living_entity (after base one) id ≡ false
      → cond (is_living_entity (after base one) id) a b ≡ b
  dead-one a b id dead = ap (λ l. cond l a b) dead

  lives-one : (a b : List Stamp) (id : Id) → is_living_entity (after base one) id ≡ true
      → cond (is_living_entity (after base one) id) a b ≡ a
  lives-one a b id lives = ap (λ l. cond l a b) lives

  by-one : (pair : Pair) → IsGonePair base one other pair → conflict.stamps ≡ pair_stamps base one other pair → NamesBoth one other conflict
  by-one pair (changed at gone some) stamps =
      keep (both-named one other _ _ conflict (stamps ∙ dead-one _ _ at.id gone.dead)
      (gone-written base one at.id gone.lived gone.dead) (entity-written other at some))
  by-one pair (used {id = id} {at = at} gone lives is names) stamps =
      keep (both-named one other _ _ conflict (stamps ∙ dead-one _ _ id gone.dead)
      (gone-written base one id gone.lived gone.dead) (writers-together other at ∙ ap is_some is))

  by-other : (pair : Pair) → IsGonePair base other one pair → conflict.stamps ≡ pair_stamps base one other pair
      → NamesBoth one other conflict
  by-other pair (changed at gone some) stamps =
      turn (both-named other one _ _ conflict (stamps ∙ lives-one _ _ at.id gone.lives)
      (gone-written base other at.id gone.lived gone.dead) (entity-written one at some))
  by-other pair (used {id = id} {at = at} gone lives is names) stamps =
      turn (both-named other one _ _ conflict (stamps ∙ lives-one _ _ id gone.lives)
      (gone-written base other id gone.lived gone.dead) (writers-together one at ∙ ap is_some is))

  named-pair : (pair : Pair) → IsPair base one other pair → conflict.stamps ≡ pair_stamps base one other pair → NamesBoth one other conflict
  named-pair pair (set_twice {at = at} is) stamps =
      keep (both-named one other _ _ conflict stamps
      (writers-together one at ∙ ap is_some is.last_one) (writers-together other at ∙ ap is_some is.last_other))
  named-pair pair (gone_after_one is) stamps = by-one pair is stamps
  named-pair pair (gone_after_other is) stamps = by-other pair is stamps

pub pair-named : (base : Program) (one other : History) (pair : Pair) (conflict : Conflict) → IsPair base one other pair
    → IsConflictOf base one other pair conflict → NamesBoth one other conflict
pair-named base one other pair conflict is of_pair = named-pair base one other conflict pair is of_pair.stamps
