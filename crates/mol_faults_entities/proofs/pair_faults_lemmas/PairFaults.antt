-- Faults of pairs that are so related are all faults of a kind.
use Rattle.std.proofs.Common.{◌≡◌, ℕ, List, [], ◌∷◌, map, Contains, refl, sym, ◌∙◌, ap, subst, Ordering, Less, Equal, Greater}
use Rattle.std.specs.List.{AllByRecursion}
use Rattle.std.specs.List.Sorted.{IsStrictlySortedBy}
use Rattle.std.specs.Ordering.{on, ordering_then, then_cmp}
use Rattle.std.specs.Prelude.{◌↔◌}
use Rattle.std.proofs.lemmas.Cmp.{nat_cmp_total, tied_itself}
use Rattle.jav_names.proofs.Lists.{stands-mapped}
use Rattle.mol_base.specs.Order.{id_cmp}
use Rattle.mol_base.specs.declared.ident.Id.{Id}
use Rattle.mol_faults_rules.specs.OfKind.{AreOfKind}
use Rattle.mol_faults_entities.specs.pair_faults.Pairs.{ArePairsOf}
use Rattle.mol_faults_entities.specs.declared.pair_faults.pair.Pair.{Pair}
use Rattle.mol_resolve_rules.proofs.Stands.{from_map}
use Rattle.mol_spell_rules.specs.FaultList.{Fault, FaultKey, IsFault, fault_key, fault_key_cmp, fault_cmp, pair_key}
use Rattle.mol_table_rules.specs.Program.{Program}

then-less : (first second : Ordering) → ordering_then first second ≡ Less → ordering_then first (ordering_then second Equal) ≡ Less
then-less Less second is = refl
then-less Equal Less is = refl
then-less Equal Equal is = absurd cc
then-less Equal Greater is = absurd cc
then-less Greater second is = absurd cc

-- the order of pairs, as the code has it
abbrev pub pair_cmp : Pair → Pair → Ordering
pair_cmp = then_cmp (on (λ pair. pair.first) id_cmp) (on (λ pair. pair.second) id_cmp)

pair-keys : (kind : ℕ) (x y : Pair) → pair_cmp x y ≡ Less
    → fault_key_cmp (pair_key kind x.first x.second) (pair_key kind y.first y.second) ≡ Less
pair-keys kind x y less =
    ap (λ o. ordering_then o (ordering_then (id_cmp x.first y.first) (ordering_then (id_cmp x.second y.second) Equal)))
    (tied_itself nat_cmp_total kind)
    ∙ then-less (id_cmp x.first y.first) (id_cmp x.second y.second) less

-- The faults that are made of pairs in this way are those of this kind.
pub record IsMade (program : Program) (kind : ℕ) (Related : Id → Id → Type 0) (make : Pair → Fault) : Type 0 where
  pub keyed : (pair : Pair) → fault_key (make pair) ≡ pair_key kind pair.first pair.second
  pub known : (pair : Pair) → IsFault program (make pair) ↔ Related pair.first pair.second
  pub only : (fault : Fault) → (fault_key fault).kind ≡ kind → (pair : Pair) × (make pair ≡ fault)

module _ (program : Program) (kind : ℕ) (Related : Id → Id → Type 0) (make : Pair → Fault) (made : IsMade program kind Related make) where
  faults-follow : (x y : Pair) → pair_cmp x y ≡ Less → fault_cmp (make x) (make y) ≡ Less
  faults-follow x y less = (λ i. fault_key_cmp (made.keyed x i) (made.keyed y i)) ∙ pair-keys kind x y less

  all-follow : (x : Pair) (pairs : List Pair) → AllByRecursion (λ y. pair_cmp x y ≡ Less) pairs
      → AllByRecursion (λ y. fault_cmp (make x) y ≡ Less) (map make pairs)
  all-follow x [] all = tt
  all-follow x (y ∷ pairs) all = (faults-follow x y all.0, all-follow x pairs all.1)

  ascending : (pairs : List Pair) → IsStrictlySortedBy pair_cmp pairs → IsStrictlySortedBy fault_cmp (map make pairs)
  unfolding IsStrictlySortedBy
  ascending [] up = tt
  ascending (x ∷ pairs) up = (all-follow x pairs up.0, ascending pairs up.1)

  pub pair-faults : (pairs : List Pair) → IsStrictlySortedBy pair_cmp pairs → ArePairsOf Related pairs
      → AreOfKind program kind (map make pairs)
  pair-faults pairs up are = record {
    ascending = ascending pairs up;
    each = λ fault. (to fault, from fault);
  } where
    to : (fault : Fault) → Contains (map make pairs) fault → IsFault program fault × ((fault_key fault).kind ≡ kind)
    to fault stands =
        let found = from_map make pairs fault stands in (
          subst (IsFault program) found.2 ((made.known found.0).1 ((are found.0).0 found.1)),
          sym (ap (λ (f : Fault). (fault_key f).kind) found.2) ∙ ap (λ (k : FaultKey). k.kind) (made.keyed found.0),
        )

    from : (fault : Fault) → IsFault program fault × ((fault_key fault).kind ≡ kind) → Contains (map make pairs) fault
    from fault is =
        let found = made.only fault is.1 in
        subst (Contains (map make pairs)) found.1 (stands-mapped make pairs found.0
        ((are found.0).1 ((made.known found.0).0 (subst (IsFault program) (sym found.1) is.0))))
