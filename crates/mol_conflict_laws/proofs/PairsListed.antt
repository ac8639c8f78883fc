-- The pairs of two histories that are in conflict can be listed.
use Rattle.std.proofs.Common.{◌≡◌, ◌≢◌, ◌⊎◌, inl, inr, ℕ, ◌==◌, Bool, true, false, cond, List, [], ◌∷◌, ◌++◌, map, Option, None, Some, Contains, refl, sym, ◌∙◌, ap, subst, rules, if◌then◌else◌, Ordering, Less, Equal, Greater}
use Rattle.std.specs.Cmp.{IsTotalOrder}
use Rattle.std.specs.Cmp.Rules.{comparing}
use Rattle.std.specs.FinMap.{nat_cmp-IsAntisymmetric}
use Rattle.std.specs.Option.{option_or}
use Rattle.std.specs.Ordering.{eq_by_cmp, is_eq, ordering_then}
use Rattle.std.specs.Prelude.{is_some}
use Rattle.jav_names.proofs.Lists.{stands_first, stands_later}
use Rattle.jav_names.specs.Views.{IsKeyOrder}
use Rattle.mol_base.specs.Order.{id_cmp-IsAntisymmetric, id_cmp-total}
use Rattle.mol_base.specs.declared.ident.Id.{Id}
use Rattle.mol_faults_laws.proofs.Listing.{Listed, Told, listed_alike, listed_each, listed_either, listed_items, listed_map, listed_some, listed_where, told_alike, told_bool, told_both, told_not, told_some}
use Rattle.mol_log_rules.specs.Histories.{History, after, last}
use Rattle.mol_merge_rules.specs.PairConflicts.{ArePairs, IsGone, IsGonePair, IsPair, IsTwice, Pair, PairKey, changed, gone_after_one, gone_after_other, gone_changed, gone_used, pair_cmp, pair_key, pair_key_cmp, set_twice, twice, used}
use Rattle.mol_op.specs.Changes.{Write, last_write}
use Rattle.mol_resolve_rules.proofs.Stands.{behind, in_front}
use Rattle.mol_spell_rules.proofs.SetItems.{set-ascends, set-has}
use Rattle.mol_spell_rules.specs.Sets.{as_set}
use Rattle.mol_table_rules.proofs.CellOrder.{cell_cmp-IsAntisymmetric, cell_cmp-total}
use Rattle.mol_table_rules.proofs.Values.{same_value-is}
use Rattle.mol_table_rules.specs.Life.{is_living_entity}
use Rattle.mol_table_rules.specs.Mentions.{Mention}
use Rattle.mol_table_rules.specs.Program.{Program}
use Rattle.mol_table_rules.specs.Tidy.{references}
use Rattle.mol_table_rules.specs.Values.{same_value}
use Rattle.mol_values_types.specs.Order.{cell_cmp}
use Rattle.mol_values_types.specs.declared.cell.Cell.{Cell}
use Rattle.mol_values_types.specs.declared.value.Value.{Value}

-- # Written cells

abbrev written : History → List Cell
written [] = []
written (entry ∷ history) = map (λ (write : Write). write.0) entry.change.writes ++ written history

is-equal : (o : Ordering) → is_eq o ≡ true → o ≡ Equal
is-equal Less is = absurd cc
is-equal Equal is = refl
is-equal Greater is = absurd cc

write-stands : (writes : List Write) (at : Cell) (value : Value) → last_write writes at ≡ Some value
    → Contains (map (λ (write : Write). write.0) writes) at
write-stands [] at value is = absurd cc
write-stands (write ∷ writes) at value is = by (last_write writes at) refl is (write-stands writes at) where
  here : (b : Bool) → eq_by_cmp cell_cmp at write.0 ≡ b → option_or None (cond b (Some write.1) None) ≡ Some value
      → Contains (map (λ (write : Write). write.0) (write ∷ writes)) at
  here true tied is =
      subst (Contains (map (λ (write : Write). write.0) (write ∷ writes)))
      (sym (cell_cmp-IsAntisymmetric at write.0 (is-equal (cell_cmp at write.0) tied)))
      (stands_first write.0 (map (λ (write : Write). write.0) writes))
  here false tied is = absurd cc

  by : (o : Option Value) → last_write writes at ≡ o → option_or o (cond (eq_by_cmp cell_cmp at write.0) (Some write.1) None) ≡ Some value
      → ((v : Value) → last_write writes at ≡ Some v → Contains (map (λ (write : Write). write.0) writes) at)
      → Contains (map (λ (write : Write). write.0) (write ∷ writes)) at
  by (Some v) has is rest = stands_later write.0 at (map (λ (write : Write). write.0) writes) (rest v has)
  by None has is rest = here (eq_by_cmp cell_cmp at write.0) refl is

last-stands : (history : History) (at : Cell) (value : Value) → last history at ≡ Some value → Contains (written history) at
last-stands [] at value is = absurd cc
last-stands (entry ∷ history) at value is = by (last history at) refl is (last-stands history at) where
  by : (o : Option Value) → last history at ≡ o → option_or o (last_write entry.change.writes at) ≡ Some value
      → ((v : Value) → last history at ≡ Some v → Contains (written history) at) → Contains (written (entry ∷ history)) at
  by (Some v) has is rest = behind (map (λ (write : Write). write.0) entry.change.writes) (written history) at (rest v has)
  by None has is rest = in_front (map (λ (write : Write). write.0) entry.change.writes) (written history) at
      (write-stands entry.change.writes at value is)

some-there : {A : Type 0} (o : Option A) → is_some o ≡ true → (a : A) × (o ≡ Some a)
some-there None is = absurd cc
some-there (Some a) is = (a, refl)

told_value : (first second : Value) → Told (first ≡ second)
told_value first second = by (same_value first second) refl where
  by : (b : Bool) → same_value first second ≡ b → Told (first ≡ second)
  by true is = inl ((same_value-is first second).0 is)
  by false is = inr (λ same. let holds = (same_value-is first second).1 same in let no : true ≡ false = sym holds ∙ is in absurd cc)

-- # What is gone

module _ (base : Program) (one other : History) where
  told_gone : (id : Id) → Told (IsGone base one other id)
  told_gone id =
      told_alike (told_both (told_bool (is_living_entity base id) true) (told_both (told_bool (is_living_entity (after base one) id) false)
      (told_bool (is_living_entity (after base other) id) true)))
      (λ h. record { lived = h.0; dead = h.1.0; lives = h.1.1 }) (λ is. (is.lived, (is.dead, is.lives)))

  abbrev Changes : Cell → Type 0
  Changes at = IsGone base one other at.id × (is_some (last other at) ≡ true)

  abbrev IsChanged : Pair → Type 0
  IsChanged pair = (at : Cell) × (Contains (written other) at × Changes at) × (gone_changed at.id ≡ pair)

  changes : Listed IsChanged
  changes =
      listed_map (listed_where (listed_items (written other))
      (λ (at : Cell). told_both (told_gone at.id) (told_bool (is_some (last other at)) true))) (λ (at : Cell). gone_changed at.id)

  abbrev IsUsed : Pair → Type 0
  IsUsed pair = (at : Cell) × (Contains (written other) at × (is_living_entity (after base other) at.id ≡ true))
      × ((value : Value) × (last other at ≡ Some value)
      × ((mention : Mention) × (Contains (references (after base other) value) mention × IsGone base one other mention.id)
      × (gone_used mention.id at ≡ pair)))

  uses : Listed IsUsed
  uses =
      listed_each (listed_where (listed_items (written other)) (λ (at : Cell). told_bool (is_living_entity (after base other) at.id) true))
      (λ at. listed_each (listed_some (last other at)) (λ value. listed_map
      (listed_where (listed_items (references (after base other) value)) (λ (mention : Mention). told_gone mention.id))
      (λ (mention : Mention). gone_used mention.id at)))

  gone_pairs : Listed (IsGonePair base one other)
  gone_pairs = listed_alike (listed_either changes uses) to from where
    to : (pair : Pair) → IsChanged pair ⊎ IsUsed pair → IsGonePair base one other pair
    to pair (inl h) = subst (IsGonePair base one other) h.2 (changed h.0 h.1.1.0 h.1.1.1)
    to pair (inr h) =
        let mention : Mention = h.2.2.0 in
        subst (IsGonePair base one other) h.2.2.2
        (used {id = mention.id} {at = h.0} {value = h.2.0} {role = mention.role} h.2.2.1.1 h.1.1 h.2.1 h.2.2.1.0)

    from : (pair : Pair) → IsGonePair base one other pair → IsChanged pair ⊎ IsUsed pair
    from pair (changed at gone writes) =
        let value = some-there (last other at) writes in
        inl (at, (last-stands other at value.0 value.1, (gone, writes)), refl)
    from pair (used {id} {at} {value} {role} gone lives is mentioned) =
        inr (at, (last-stands other at value is, lives), (value, is, (record { role = role; id = id }, (mentioned, gone), refl)))

-- # What is set twice

module _ (base : Program) (one other : History) where
  abbrev Differ : Cell → Type 0
  Differ at = (first : Value) × (last one at ≡ Some first) × ((second : Value) × (last other at ≡ Some second) × (first ≢ second))

  told_twice : (at : Cell) → Told (IsTwice base one other at)
  told_twice at =
      told_alike (told_both (told_bool (is_living_entity (after base one) at.id) true)
      (told_both (told_bool (is_living_entity (after base other) at.id) true)
      (told_some (last one at) (λ first. told_some (last other at) (λ second. told_not (told_value first second))))))
      (λ h. record {
        lives_one = h.0;
        lives_other = h.1.0;
        first = h.1.1.0;
        second = h.1.1.2.0;
        last_one = h.1.1.1;
        last_other = h.1.1.2.1;
        differ = h.1.1.2.2;
      })
      (λ is. (is.lives_one, (is.lives_other, (is.first, is.last_one, (is.second, is.last_other, is.differ)))))

  twice_cells : Listed (IsTwice base one other)
  twice_cells =
      listed_alike (listed_where (listed_items (written one)) told_twice) (λ at h. h.1)
      (λ at is. (last-stands one at is.first is.last_one, is))

  -- # All of them

  abbrev IsAny : Pair → Type 0
  IsAny pair = ((at : Cell) × IsTwice base one other at × (twice at ≡ pair))
      ⊎ (IsGonePair base one other pair ⊎ IsGonePair base other one pair)

  pairs : Listed (IsPair base one other)
  pairs = listed_alike (listed_either (listed_map twice_cells twice) (listed_either (gone_pairs base one other) (gone_pairs base other one))) to from where
    to : (pair : Pair) → IsAny pair → IsPair base one other pair
    to pair (inl h) = subst (IsPair base one other) h.2 (set_twice h.1)
    to pair (inr (inl h)) = gone_after_one h
    to pair (inr (inr h)) = gone_after_other h

    from : (pair : Pair) → IsPair base one other pair → IsAny pair
    from pair (set_twice {at} is) = inl (at, is, refl)
    from pair (gone_after_one h) = inr (inl h)
    from pair (gone_after_other h) = inr (inr h)

-- # Their order

abbrev pair_by : ℕ → PairKey → Pair
pair_by kind key = if kind == 0 then twice key.at else if kind == 1 then gone_changed key.id else gone_used key.id key.at

pair-kept : (pair : Pair) → pair_by (pair_key pair).kind (pair_key pair) ≡ pair
pair-kept (twice at) = refl
pair-kept (gone_changed id) = refl
pair-kept (gone_used id at) = refl

both-equal : (a b : Ordering) → ordering_then a b ≡ Equal → (a ≡ Equal) × (b ≡ Equal)
both-equal Less b is = absurd cc
both-equal Equal b is = (refl, is)
both-equal Greater b is = absurd cc

key-same : (x y : PairKey) → pair_key_cmp x y ≡ Equal → x ≡ y
key-same x y is =
    let kind = both-equal _ _ is in
    let rest = both-equal _ _ kind.1 in
    let same_kind = nat_cmp-IsAntisymmetric x.kind y.kind kind.0 in
    let same_id = id_cmp-IsAntisymmetric x.id y.id rest.0 in
    let same_at = cell_cmp-IsAntisymmetric x.at y.at rest.1 in
    λ i. record { kind = same_kind i; id = same_id i; at = same_at i }

pair-total : IsTotalOrder pair_cmp
pair-total = search (comparing, rules, id_cmp-total, cell_cmp-total) depth 9

pair-order : IsKeyOrder pair_cmp
pair-order = record {
  total = pair-total;
  same = λ x y is. let same = key-same (pair_key x) (pair_key y) is in
      sym (pair-kept x) ∙ ap (λ (key : PairKey). pair_by key.kind key) same ∙ pair-kept y;
}

pub pairs_there : (base : Program) (one other : History) → (list : List Pair) × ArePairs base one other list
pairs_there base one other =
    let listed = pairs base one other in (
      as_set pair_cmp listed.items,
      record {
        ascending = set-ascends pair_cmp pair-order listed.items;
        each = λ pair. (
          λ stands. (listed.each pair).0 ((set-has pair_cmp pair-order listed.items pair).0 stands),
          λ is. (set-has pair_cmp pair-order listed.items pair).1 ((listed.each pair).1 is),
        );
      },
    )
