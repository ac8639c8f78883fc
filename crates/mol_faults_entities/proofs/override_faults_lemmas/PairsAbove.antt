-- Pairs of declarations of two methods in two classes, and lists to which pairs are added.
use Rattle.std.proofs.Common.{◌≡◌, ◌≢◌, ◌⊎◌, inl, inr, Bool, true, false, cond, ◌||◌, [], Option, Some, None, Contains, refl, sym, ◌∙◌, ap, subst}
use Rattle.std.specs.Option.{option_to_list}
use Rattle.jav_names.proofs.Lists.{stands_first, stands_nowhere, stands_where}
use Rattle.mol_base.specs.declared.ident.Id.{Id}
use Rattle.mol_faults_entities.specs.override_faults.Overridden.{pair_above}
use Rattle.mol_faults_entities.specs.declared.override_faults.declaration.Declaration.{Declaration}
use Rattle.mol_faults_entities.specs.pair_faults.Pairs.{ordered_pair}
use Rattle.mol_faults_entities.specs.declared.pair_faults.pair.Pair.{Pair}
use Rattle.mol_table_rules.proofs.Counts.{none-some}
use Rattle.mol_table_rules.proofs.Living.{id_apart, id_tied, same_id-own}
use Rattle.mol_table_rules.specs.Program.{same_id}
use Rattle.mol_values_types.proofs.Ties.{id_ties}
use Rattle.mol_values_types.specs.Order.{id_eq}

-- identities that are told apart
pub eq-own : (x y : Id) → x ≡ y → id_eq x y ≡ true
eq-own x y same = id_ties x y ∙ ap (same_id x) (sym same) ∙ same_id-own x

pub eq-is : (x y : Id) → id_eq x y ≡ true → x ≡ y
eq-is x y is = id_tied x y (sym (id_ties x y) ∙ is)

apart-to : (x y : Id) → x ≢ y → id_eq x y ≡ false
apart-to x y apart = id_ties x y ∙ id_apart x y apart

-- ---- the pair of two declarations

module _ (row above : Declaration) where
  pub none-alike : row.method ≡ above.method → pair_above row above ≡ None
  none-alike same = ap (λ b. cond (b || id_eq row.owner above.owner) None (ordered_pair row.id above.id))
      (eq-own row.method above.method same)

  pub none-own : row.owner ≡ above.owner → pair_above row above ≡ None
  none-own same =
      ap (λ b. cond (id_eq row.method above.method || b) None (ordered_pair row.id above.id)) (eq-own row.owner above.owner same)
      ∙ by (id_eq row.method above.method) where
        by : (b : Bool) → cond (b || true) None (ordered_pair row.id above.id) ≡ None
        by true = refl
        by false = refl

  pub methods-apart : (pair : Pair) → pair_above row above ≡ Some pair → row.method ≢ above.method
  methods-apart pair made same = none-some pair (sym (none-alike same) ∙ made)

  pub owners-apart : (pair : Pair) → pair_above row above ≡ Some pair → row.owner ≢ above.owner
  owners-apart pair made same = none-some pair (sym (none-own same) ∙ made)

  pub pair-when_apart : row.method ≢ above.method → row.owner ≢ above.owner → pair_above row above ≡ ordered_pair row.id above.id
  pair-when_apart methods owners =
      (λ i. cond (apart-to row.method above.method methods i || apart-to row.owner above.owner owners i) None
      (ordered_pair row.id above.id))

-- ---- a list of one pair, if there is one

pub only-one : (o : Option Pair) (pair : Pair) → Contains (option_to_list o) pair → o ≡ Some pair
only-one None pair stands = absurd (stands_nowhere pair stands)
only-one (Some own) pair stands = by (stands_where own pair [] stands) where
  by : (own ≡ pair) ⊎ Contains [] pair → Some own ≡ Some pair
  by (inl same) = ap Some same
  by (inr none) = absurd (stands_nowhere pair none)

pub one-there : (o : Option Pair) (pair : Pair) → o ≡ Some pair → Contains (option_to_list o) pair
one-there o pair is = subst (λ p. Contains (option_to_list p) pair) (sym is) (stands_first pair [])
