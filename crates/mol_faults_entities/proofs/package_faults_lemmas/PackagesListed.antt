-- The faults of packages are the pairs in order.
use Rattle.std.proofs.Common.{◌≡◌, ◌↔◌, ℕ, List, [], ◌∷◌, map, Contains, refl, subst, arith, Ordering, Less, Equal, Greater}
use Rattle.std.specs.List.{AllByRecursion}
use Rattle.std.specs.List.Sorted.{IsStrictlySortedBy}
use Rattle.std.specs.Ordering.{on, ordering_then, then_cmp}
use Rattle.jav_names.proofs.Lists.{stands-mapped}
use Rattle.mol_base.specs.Order.{id_cmp}
use Rattle.mol_faults_rules.specs.OfKind.{AreOfKind}
use Rattle.mol_spell_rules.specs.references.References.{Target, class_target, field_target, method_target, param_target, default_target, local_target, outside_target}
use Rattle.mol_resolve_rules.proofs.Stands.{from_map}
use Rattle.mol_spell_rules.specs.FaultList.{Fault, misread, fault_target, IsFault, by_address, by_override, by_place, by_outside_name, by_absence, by_reading, by_local, by_package, fault_key, fault_cmp}
use Rattle.mol_spell_rules.specs.NameFaults.{PackageIsClass}
use Rattle.mol_table_rules.specs.Program.{Program}
use Rattle.mol_values_types.specs.declared.cell.Cell.{Cell}
use Rattle.mol_faults_entities.specs.package_faults.Pairs.{HasPairs, fault_of}
use Rattle.mol_faults_entities.specs.declared.package_faults.inside.Inside.{Inside}

misread-kind : (at : Cell) (number : ℕ) (target : Target) → (fault_key (misread at number (fault_target target))).kind ≡ 5
misread-kind at number (class_target class) = refl
misread-kind at number (field_target field) = refl
misread-kind at number (method_target method) = refl
misread-kind at number (param_target param) = refl
misread-kind at number (default_target class) = refl
misread-kind at number (local_target local) = refl
misread-kind at number (outside_target text) = refl

-- ---- the order

-- by the first class, then by the second
abbrev pub inside_cmp : Inside → Inside → Ordering
inside_cmp = then_cmp (on (λ pair. pair.class) id_cmp) (on (λ pair. pair.inside) id_cmp)

-- faults go as their pairs
same-order : (first second : Inside) → inside_cmp first second ≡ Less → fault_cmp (fault_of first) (fault_of second) ≡ Less
same-order first second less =
    padded (id_cmp first.class second.class) (id_cmp first.inside second.inside) less where
      padded : (a b : Ordering) → ordering_then a b ≡ Less → ordering_then a (ordering_then b Equal) ≡ Less
      padded Less b is = refl
      padded Equal Less is = refl
      padded Equal Equal is = absurd cc
      padded Equal Greater is = absurd cc
      padded Greater b is = absurd cc

all-after : (first : Inside) (pairs : List Inside) → AllByRecursion (λ pair. inside_cmp first pair ≡ Less) pairs
    → AllByRecursion (λ fault. fault_cmp (fault_of first) fault ≡ Less) (map fault_of pairs)
all-after first [] all = tt
all-after first (pair ∷ pairs) all = (same-order first pair all.0, all-after first pairs all.1)

ascends : (pairs : List Inside) → IsStrictlySortedBy inside_cmp pairs → IsStrictlySortedBy fault_cmp (map fault_of pairs)
unfolding IsStrictlySortedBy
ascends [] up = tt
ascends (pair ∷ pairs) up = (all-after pair pairs up.0, ascends pairs up.1)

-- ---- the faults

module _ (program : Program) (pairs ordered : List Inside) (has : HasPairs program pairs)
    (ascending : IsStrictlySortedBy inside_cmp ordered) (same : (pair : Inside) → Contains ordered pair ↔ Contains pairs pair) where
  whose : (fault : Fault) → IsFault program fault → (fault_key fault).kind ≡ 7
      → (pair : Inside) × (fault_of pair ≡ fault) × PackageIsClass program pair.class pair.inside
  whose fault (by_package {class = class} {inside = inside} is) kind = (record { class = class; inside = inside }, refl, is)
  whose fault (by_address shared) kind = absurd (omega (arith, kind))
  whose fault (by_override override) kind = absurd (omega (arith, kind))
  whose fault (by_place apart) kind = absurd (omega (arith, kind))
  whose fault (by_outside_name outside) kind = absurd (omega (arith, kind))
  whose fault (by_absence missing) kind = absurd (omega (arith, kind))
  whose fault (by_reading {at = at} {number = number} {target = target} reads) kind = absurd
      (omega (arith, kind, misread-kind at number target))
  whose fault (by_local clash) kind = absurd (omega (arith, kind))

  pub packages-listed : AreOfKind program 7 (map fault_of ordered)
  packages-listed = record {
    ascending = ascends ordered ascending;
    each = λ fault. (
      λ stands. let from = from_map fault_of ordered fault stands in
          subst (λ (f : Fault). IsFault program f × ((fault_key f).kind ≡ 7)) from.2
          (by_package ((has from.0).0 ((same from.0).0 from.1)), refl),
      λ is. let of = whose fault is.0 is.1 in
          subst (Contains (map fault_of ordered)) of.1 (stands-mapped fault_of ordered of.0 ((same of.0).1 ((has of.0).1 of.2))),
    );
  }
