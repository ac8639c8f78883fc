-- Pairs of identities: those that `==` takes for equal, and how two identities make one.
use Rattle.std.proofs.Common.{◌≡◌, ◌⊎◌, inl, inr, Bool, true, Some, refl, sym, ◌∙◌, ap, subst, Ordering, Less, Equal, Greater}
use Rattle.std.specs.Ordering.{ordering_reverse}
use Rattle.std.proofs.lemmas.Bool.{and_parts}
use Rattle.std.proofs.lemmas.Option.{same_Some}
use Rattle.mol_base.specs.Order.{id_cmp, id_cmp-total}
use Rattle.mol_base.specs.declared.ident.Id.{Id}
use Rattle.mol_table_rules.proofs.Living.{id_tied}
use Rattle.mol_values_types.proofs.Ties.{id_ties}
use Rattle.mol_values_types.specs.Order.{id_eq}
use Rattle.mol_faults_entities.specs.pair_faults.Pairs.{pair_by, ordered_pair}
use Rattle.mol_faults_entities.specs.contracts.pair_faults.pair.PairPartialEq as pairs
use Rattle.mol_faults_entities.specs.declared.pair_faults.pair.Pair.{Pair}

-- ---- equal pairs

abbrev pair_eq : Pair → Pair → Bool
pair_eq = pairs.TheImpl.eq-value.it

pub pair_same : (x y : Pair) → pair_eq x y ≡ true → x ≡ y
pair_same x y is =
    let both = and_parts (id_eq x.first y.first) (id_eq x.second y.second) is in
    let first = id_tied x.first y.first (sym (id_ties x.first y.first) ∙ both.0) in
    let second = id_tied x.second y.second (sym (id_ties x.second y.second) ∙ both.1) in
    λ i. record { first = first i; second = second i }

-- ---- the pair of two identities

pub turned : (former latter : Id) → id_cmp former latter ≡ Less → id_cmp latter former ≡ Greater
turned former latter less = id_cmp-total.antisymm latter former ∙ ap ordering_reverse less

turned-back : (former latter : Id) → id_cmp former latter ≡ Greater → id_cmp latter former ≡ Less
turned-back former latter greater = id_cmp-total.antisymm latter former ∙ ap ordering_reverse greater

-- The pair is of these two, one way round or the other, and the smaller goes first.
pub record IsOf (former latter : Id) (pair : Pair) : Type 0 where
  pub ordered : id_cmp pair.first pair.second ≡ Less
  pub ways : ((former ≡ pair.first) × (latter ≡ pair.second)) ⊎ ((former ≡ pair.second) × (latter ≡ pair.first))

abbrev both : Id → Id → Pair
both first second = record { first = first; second = second }

pub pair-is : (former latter : Id) (pair : Pair) → ordered_pair former latter ≡ Some pair → IsOf former latter pair
pair-is former latter pair made = by (id_cmp former latter) refl made where
  by : (order : Ordering) → id_cmp former latter ≡ order → pair_by order former latter ≡ Some pair → IsOf former latter pair
  by Less is made =
      let same : both former latter ≡ pair = same_Some (both former latter) pair made in
      record {
        ordered = subst (λ (p : Pair). id_cmp p.first p.second ≡ Less) same is;
        ways = inl (ap (λ (p : Pair). p.first) same, ap (λ (p : Pair). p.second) same);
      }
  by Equal is made = absurd cc
  by Greater is made =
      let same : both latter former ≡ pair = same_Some (both latter former) pair made in
      record {
        ordered = subst (λ (p : Pair). id_cmp p.first p.second ≡ Less) same (turned-back former latter is);
        ways = inr (ap (λ (p : Pair). p.second) same, ap (λ (p : Pair). p.first) same);
      }

module _ (pair : Pair) (less : id_cmp pair.first pair.second ≡ Less) where
  pub pair-made : (former latter : Id) → former ≡ pair.first → latter ≡ pair.second → ordered_pair former latter ≡ Some pair
  pair-made former latter is-first is-second =
      (λ i. ordered_pair (is-first i) (is-second i)) ∙ ap (λ (order : Ordering). pair_by order pair.first pair.second) less

  pub pair-made_back : (former latter : Id) → former ≡ pair.second → latter ≡ pair.first → ordered_pair former latter ≡ Some pair
  pair-made_back former latter is-second is-first =
      (λ i. ordered_pair (is-second i) (is-first i))
      ∙ ap (λ (order : Ordering). pair_by order pair.second pair.first) (turned pair.first pair.second less)
