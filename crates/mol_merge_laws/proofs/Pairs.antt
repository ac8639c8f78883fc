-- The pairs of two histories that are in conflict: one list, whichever history is given first.
use Rattle.std.proofs.Common.{◌≡◌, ◌≢◌, ◌∙◌, refl, sym, ap, true≢false, List, [], ◌∷◌, Option, None, Some, Contains, Ordering, Less, Equal, Greater}
use Rattle.std.proofs.Common.{rules}
use Rattle.std.proofs.lemmas.List.Elements.{All-contains, All-from_recursion}
use Rattle.std.specs.Cmp.{IsTotalOrder}
use Rattle.std.specs.Cmp.Rules.{comparing}
use Rattle.std.specs.FinMap.{IsAntisymmetric, nat_cmp-IsAntisymmetric}
use Rattle.std.specs.List.{AllByRecursion, AllZip}
use Rattle.std.specs.Ordering.{nat_cmp, ordering_then, ordering_reverse, is_lt}
use Rattle.std.specs.Prelude.{true, false, cond, IsSome, is_some}
use Rattle.jav_names.proofs.Lists.{stands_first, stands_later}
use Rattle.jav_names.specs.Views.{IsKeyOrder}
use Rattle.mol_base.specs.Order.{id_cmp, id_cmp-total, id_cmp-IsAntisymmetric, stamp_cmp, stamp_cmp-total, stamp_cmp-IsAntisymmetric}
use Rattle.mol_base.specs.declared.ident.Id.{Id}
use Rattle.mol_base.specs.declared.ident.Stamp.{Stamp}
use Rattle.mol_faults_rules.specs.declared.conflict.Conflict.{Conflict}
use Rattle.mol_log_rules.proofs.WhoWrote.{writers-together}
use Rattle.mol_log_rules.specs.Histories.{Stamped, History, after, last}
use Rattle.mol_log_rules.specs.Writers.{writer, same_cell}
use Rattle.mol_merge_laws.proofs.Named.{writer-entry, pair-named}
use Rattle.mol_merge_laws.specs.PairLaws.{PairsInConflict}
use Rattle.mol_merge_rules.specs.Conflicts.{both_stamps, stamps_of, pair_stamps, in_stamp_order, twice_kind, pair_kind, IsConflictOf, ArePairConflicts}
use Rattle.mol_merge_rules.specs.PairConflicts.{Pair, pair_key, pair_key_cmp, IsTwice, IsGonePair, changed, used, IsPair, set_twice, gone_after_one, gone_after_other, ArePairs}
use Rattle.mol_merge_rules.specs.PairConflicts.{twice}
use Rattle.mol_merge_rules.specs.TwoLogs.{TagsDiffer}
use Rattle.mol_spell_rules.proofs.SetItems.{same-members}
use Rattle.mol_table_rules.proofs.CellOrder.{cell_cmp-total, cell_cmp-IsAntisymmetric}
use Rattle.mol_table_rules.specs.Life.{is_living_entity}
use Rattle.mol_table_rules.specs.Program.{Program}
use Rattle.mol_values_types.specs.Order.{cell_cmp}
use Rattle.mol_values_types.specs.declared.cell.Cell.{Cell}

-- ---- the order of pairs

then_both : (a b : Ordering) → ordering_then a b ≡ Equal → (a ≡ Equal) × (b ≡ Equal)
then_both Less b e = absurd cc
then_both Equal b e = (refl, e)
then_both Greater b e = absurd cc

pair_key_cmp-total : IsTotalOrder pair_key_cmp
pair_key_cmp-total = search (comparing, rules, id_cmp-total, cell_cmp-total) depth 9

pair_key_cmp-IsAntisymmetric : IsAntisymmetric pair_key_cmp
pair_key_cmp-IsAntisymmetric x y e =
    let kind = then_both (nat_cmp x.kind y.kind) (ordering_then (id_cmp x.id y.id) (cell_cmp x.at y.at)) e in
    let rest = then_both (id_cmp x.id y.id) (cell_cmp x.at y.at) kind.1 in
    let same_kind = nat_cmp-IsAntisymmetric x.kind y.kind kind.0 in
    let same_id = id_cmp-IsAntisymmetric x.id y.id rest.0 in
    let same_at = cell_cmp-IsAntisymmetric x.at y.at rest.1 in
    λ i. record { kind = same_kind i; id = same_id i; at = same_at i }

pair_order : IsKeyOrder pair_key_cmp
pair_order = record { total = pair_key_cmp-total; same = pair_key_cmp-IsAntisymmetric }

pub one-list : (base : Program) (one other : History) (pairs more : List Pair) → ArePairs base one other pairs
    → ArePairs base one other more
    → pairs ≡ more
one-list base one other pairs more are also =
    same-members pair_key_cmp pair_key pair_order pairs more are.ascending also.ascending
    (λ pair. (λ h. (also.each pair).1 ((are.each pair).0 h), λ h. (are.each pair).1 ((also.each pair).0 h)))

-- ---- the other history first

twice-turned : (base : Program) (one other : History) (at : Cell) → IsTwice base one other at → IsTwice base other one at
twice-turned base one other at is = record {
  lives_one = is.lives_other;
  lives_other = is.lives_one;
  first = is.second;
  second = is.first;
  last_one = is.last_other;
  last_other = is.last_one;
  differ = λ same. is.differ (sym same);
}

pair-turned : (base : Program) (one other : History) (pair : Pair) → IsPair base one other pair → IsPair base other one pair
pair-turned base one other pair (set_twice {at = at} is) = set_twice (twice-turned base one other at is)
pair-turned base one other pair (gone_after_one is) = gone_after_other is
pair-turned base one other pair (gone_after_other is) = gone_after_one is

pub pairs-turned : (base : Program) (one other : History) (pairs : List Pair) → ArePairs base one other pairs
    → ArePairs base other one pairs
pairs-turned base one other pairs are = record {
  ascending = are.ascending;
  each = λ pair. (
    λ stands. pair-turned base one other pair ((are.each pair).0 stands),
    λ is. (are.each pair).1 (pair-turned base other one pair is),
  );
}

-- ---- their conflicts

-- the order of two stamps the other way round
back : (a b : Stamp) (o : Ordering) → stamp_cmp a b ≡ o → stamp_cmp b a ≡ ordering_reverse o
back a b o is = stamp_cmp-total.antisymm b a ∙ ap ordering_reverse is

stamps-turned : (a b : Option Stamp) → stamps_of b a ≡ stamps_of a b
stamps-turned None None = refl
stamps-turned None (Some b) = refl
stamps-turned (Some a) None = refl
stamps-turned (Some a) (Some b) = by (stamp_cmp a b) refl where
  by : (o : Ordering) → stamp_cmp a b ≡ o → both_stamps (stamp_cmp b a) b a ≡ both_stamps (stamp_cmp a b) a b
  by Less is = (λ i. both_stamps (back a b Less is i) b a) ∙ sym (λ i. both_stamps (is i) a b)
  by Equal is =
      (λ i. both_stamps (back a b Equal is i) b a) ∙ ap (λ s. s ∷ []) (sym (stamp_cmp-IsAntisymmetric a b is))
      ∙ sym (λ i. both_stamps (is i) a b)
  by Greater is = (λ i. both_stamps (back a b Greater is i) b a) ∙ sym (λ i. both_stamps (is i) a b)

values-turned : {X : Type 0} (a b : Stamp) (x y : X) → a ≢ b → in_stamp_order (Some b) (Some a) y x ≡ in_stamp_order (Some a) (Some b) x y
values-turned {X} a b x y apart = by (x, y) (y, x) (stamp_cmp a b) refl where
  by : (p q : X × X) (o : Ordering) → stamp_cmp a b ≡ o → cond (is_lt (stamp_cmp a b)) p q ≡ cond (is_lt (stamp_cmp b a)) q p
  by p q Less is = (λ i. cond (is_lt (is i)) p q) ∙ sym (λ i. cond (is_lt (back a b Less is i)) q p)
  by p q Equal is = absurd (apart (stamp_cmp-IsAntisymmetric a b is))
  by p q Greater is = (λ i. cond (is_lt (is i)) p q) ∙ sym (λ i. cond (is_lt (back a b Greater is i)) q p)

-- entries of the two have no stamp in common
none-common : (one other : History) → TagsDiffer one other → (first second : Stamped) → Contains one first → Contains other second
    → first.stamp ≢ second.stamp
none-common one other apart first second of-one of-other same =
    each _ other (each _ one apart first of-one) second of-other (ap (λ (s : Stamp). s.tag) same)
  where
    each : (P : Stamped → Type 0) (history : History) → AllByRecursion P history → (entry : Stamped) → Contains history entry → P entry
    each P history all entry stands = All-contains P history entry (All-from_recursion P history all) stands

module _ (base : Program) (one other : History) (apart : TagsDiffer one other) where
  kind-turned : (at : Cell) → IsTwice base one other at → pair_kind other one (twice at) ≡ pair_kind one other (twice at)
  kind-turned at is = by (writer one at) refl (some-one) (writer other at) refl some-other where
    some-one : IsSome (writer one at)
    some-one = writers-together one at ∙ ap is_some is.last_one

    some-other : IsSome (writer other at)
    some-other = writers-together other at ∙ ap is_some is.last_other

    by : (a : Option Stamp) → writer one at ≡ a → IsSome (writer one at) → (b : Option Stamp) → writer other at ≡ b
        → IsSome (writer other at)
        → pair_kind other one (twice at) ≡ pair_kind one other (twice at)
    by None e some b f also = absurd (true≢false (sym some ∙ ap is_some e))
    by (Some a) e some None f also = absurd (true≢false (sym also ∙ ap is_some f))
    by (Some a) e some (Some b) f also =
        let first = writer-entry (same_cell at) one a e in
        let second = writer-entry (same_cell at) other b f in
        ap (twice_kind at)
        ((λ i. in_stamp_order (f i) (e i) (last other at) (last one at))
        ∙ values-turned a b (last one at) (last other at)
        (λ same. none-common one other apart first.0 second.0 first.1 second.1 (first.2 ∙ same ∙ sym second.2))
        ∙ sym (λ i. in_stamp_order (e i) (f i) (last one at) (last other at)))

  -- after which of the two it is gone
  choose : (id : Id) (a b c d : List Stamp) → is_living_entity (after base one) id ≡ false
      → is_living_entity (after base other) id ≡ true → c ≡ b
      → cond (is_living_entity (after base other) id) c d ≡ cond (is_living_entity (after base one) id) a b
  choose id a b c d dead lives same = (λ i. cond (lives i) c d) ∙ same ∙ sym (λ i. cond (dead i) a b)

  also-choose : (id : Id) (a b c d : List Stamp) → is_living_entity (after base one) id ≡ true
      → is_living_entity (after base other) id ≡ false → d ≡ a
      → cond (is_living_entity (after base other) id) c d ≡ cond (is_living_entity (after base one) id) a b
  also-choose id a b c d lives dead same = (λ i. cond (dead i) c d) ∙ same ∙ sym (λ i. cond (lives i) a b)

  of-one : (pair : Pair) → IsGonePair base one other pair → pair_stamps base other one pair ≡ pair_stamps base one other pair
  of-one pair (changed at gone some) = choose at.id _ _ _ _ gone.dead gone.lives refl
  of-one pair (used {id = id} gone lives is names) = choose id _ _ _ _ gone.dead gone.lives refl

  of-other : (pair : Pair) → IsGonePair base other one pair → pair_stamps base other one pair ≡ pair_stamps base one other pair
  of-other pair (changed at gone some) = also-choose at.id _ _ _ _ gone.lives gone.dead refl
  of-other pair (used {id = id} gone lives is names) = also-choose id _ _ _ _ gone.lives gone.dead refl

  these-stamps : (pair : Pair) → IsPair base one other pair → pair_stamps base other one pair ≡ pair_stamps base one other pair
  these-stamps pair (set_twice {at = at} is) = stamps-turned (writer one at) (writer other at)
  these-stamps pair (gone_after_one is) = of-one pair is
  these-stamps pair (gone_after_other is) = of-other pair is

  gone-kind : (first second : History) (pair : Pair) → IsGonePair base first second pair
      → pair_kind other one pair ≡ pair_kind one other pair
  gone-kind first second pair (changed at gone some) = refl
  gone-kind first second pair (used gone lives is names) = refl

  this-kind : (pair : Pair) → IsPair base one other pair → pair_kind other one pair ≡ pair_kind one other pair
  this-kind pair (set_twice {at = at} is) = kind-turned at is
  this-kind pair (gone_after_one is) = gone-kind one other pair is
  this-kind pair (gone_after_other is) = gone-kind other one pair is

  conflict-turned : (pair : Pair) (conflict : Conflict) → IsPair base one other pair → IsConflictOf base one other pair conflict
      → IsConflictOf base other one pair conflict
  conflict-turned pair conflict is of_pair = record {
    kind = this-kind pair is ∙ of_pair.kind;
    stamps = of_pair.stamps ∙ sym (these-stamps pair is);
  }

  each-turned : (pairs : List Pair) (list : List Conflict) → ((pair : Pair) → Contains pairs pair → IsPair base one other pair)
      → AllZip (IsConflictOf base one other) pairs list → AllZip (IsConflictOf base other one) pairs list
  each-turned [] [] are each = each
  each-turned [] (conflict ∷ list) are each = each
  each-turned (pair ∷ pairs) [] are each = each
  each-turned (pair ∷ pairs) (conflict ∷ list) are each = (
    conflict-turned pair conflict (are pair (stands_first pair pairs)) each.0,
    each-turned pairs list (λ p stands. are p (stands_later pair p pairs stands)) each.1,
  )

  conflicts-turned : (list : List Conflict) → ArePairConflicts base one other list → ArePairConflicts base other one list
  conflicts-turned list are = record {
    pairs = are.pairs;
    are = pairs-turned base one other are.pairs are.are;
    each = each-turned are.pairs list (λ pair. (are.are.each pair).0) are.each;
  }

pub pairs_in_conflict : PairsInConflict
pairs_in_conflict = record {
  one_list = one-list;
  turned = pairs-turned;
  conflicts_turned = λ base one other list apart. conflicts-turned base one other apart list;
  named = pair-named;
}
