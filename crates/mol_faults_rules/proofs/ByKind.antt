-- Lists of the faults of each kind, one after another, are all faults in order.
use Rattle.std.proofs.Common.{◌≡◌, ◌⊎◌, inl, inr, ℕ, ◌+◌, ◌<◌, ◌≤◌, ◌==◌, cond, List, [], ◌∷◌, ◌++◌, Contains, ap, arith, lt-ltb, Ordering, Less, Equal, Greater}
use Rattle.std.specs.List.{AllByRecursion, flat_map}
use Rattle.std.specs.List.Sorted.{IsStrictlySortedBy}
use Rattle.std.specs.Ordering.{nat_cmp, ordering_then}
use Rattle.std.specs.Prelude.{◌↔◌}
use Rattle.std.proofs.lemmas.Bool.{cases_lt}
use Rattle.std.proofs.lemmas.List.Elements.{Contains-append_left, Contains-append_right, Contains-append_cases, recursion_from_All}
use Rattle.jav_names.proofs.Lists.{All-from_each, stands_nowhere}
use Rattle.jav_names.proofs.UnitsOrdered.{ascending-append}
use Rattle.mol_faults_rules.specs.OfKind.{AreOfKind, AreByKind, FaultsByKind, kinds}
use Rattle.mol_spell_rules.specs.FaultList.{entity, default_of, local_of, outside_of, Fault, same_address, false_override, apart, outside_name, missing, misread, local_clash, package_is_class, IsFault, fault_key, fault_cmp}
use Rattle.mol_table_rules.specs.Program.{Program}

abbrev kind_of : Fault → ℕ
kind_of fault = (fault_key fault).kind

-- ---- kinds

kind-below : (fault : Fault) → kind_of fault < kinds
kind-below (same_address first second) = omega arith
kind-below (false_override first second) = omega arith
kind-below (apart method) = omega arith
kind-below (outside_name method) = omega arith
kind-below (missing at target) = omega arith
kind-below (misread at number (entity id)) = omega arith
kind-below (misread at number (default_of class)) = omega arith
kind-below (misread at number (local_of local)) = omega arith
kind-below (misread at number (outside_of text)) = omega arith
kind-below (local_clash at name) = omega arith
kind-below (package_is_class class inside) = omega arith

less-first : (n m : ℕ) (rest : Ordering) → n < m → ordering_then (nat_cmp n m) rest ≡ Less
less-first n m rest below = ap (λ b. ordering_then (cond b Less (cond (n == m) Equal Greater)) rest) (lt-ltb n m below)

-- a fault of a lesser kind goes before
kinds-first : (first second : Fault) → kind_of first < kind_of second → fault_cmp first second ≡ Less
kinds-first first second below = less-first (kind_of first) (kind_of second) _ below

-- ---- lists of them

-- These are all faults of this kind and the kinds that follow.
record AreFrom (program : Program) (kind : ℕ) (faults : List Fault) : Type 0 where
  ascending : IsStrictlySortedBy fault_cmp faults
  each : (fault : Fault) → Contains faults fault ↔ (IsFault program fault × (kind ≤ kind_of fault))

module _ (program : Program) where
  none-left : (kind : ℕ) → kind ≡ kinds → AreFrom program kind []
  unfolding IsStrictlySortedBy
  none-left kind is = record {
    ascending = tt;
    each = λ fault. (
      λ stands. absurd (stands_nowhere fault stands),
      λ known. absurd (omega (arith, kind-below fault, known.1, is)),
    );
  }

  module _ (kind : ℕ) (faults rest : List Fault) (now : AreOfKind program kind faults) (later : AreFrom program (kind + 1) rest) where
    all-before : AllByRecursion (λ x. AllByRecursion (λ y. fault_cmp x y ≡ Less) rest) faults
    all-before = recursion_from_All (λ x. AllByRecursion (λ y. fault_cmp x y ≡ Less) rest) faults
        (All-from_each (λ x. AllByRecursion (λ y. fault_cmp x y ≡ Less) rest) faults (λ x stands.
        recursion_from_All (λ y. fault_cmp x y ≡ Less) rest
        (All-from_each (λ y. fault_cmp x y ≡ Less) rest (λ y there.
        kinds-first x y (omega (arith, ((now.each x).0 stands).1, ((later.each y).0 there).1))))))

    to : (fault : Fault) → Contains faults fault ⊎ Contains rest fault → IsFault program fault × (kind ≤ kind_of fault)
    to fault (inl here) = let known = (now.each fault).0 here in (known.0, omega (arith, known.1))
    to fault (inr there) = let known = (later.each fault).0 there in (known.0, omega (arith, known.1))

    from : (fault : Fault) → IsFault program fault → (kind < kind_of fault) ⊎ (kind_of fault ≤ kind) → kind ≤ kind_of fault
        → Contains (faults ++ rest) fault
    from fault is (inl after) low = Contains-append_right faults rest fault ((later.each fault).1 (is, omega (arith, after)))
    from fault is (inr high) low = Contains-append_left faults rest fault ((now.each fault).1 (is, omega (arith, high, low)))

    one-more : AreFrom program kind (faults ++ rest)
    one-more = record {
      ascending = ascending-append fault_cmp faults rest now.ascending later.ascending all-before;
      each = λ fault. (
        λ stands. to fault (Contains-append_cases faults rest fault stands),
        λ known. from fault known.0 (cases_lt kind (kind_of fault)) known.1,
      );
    }

  are-from : (kind : ℕ) (lists : List (List Fault)) → AreByKind program kind lists
      → AreFrom program kind (flat_map (λ faults. faults) lists)
  are-from kind [] is = none-left kind is
  are-from kind (faults ∷ rest) are =
      one-more kind faults (flat_map (λ faults. faults) rest) are.0 (are-from (kind + 1) rest are.1)

pub faults_by_kind : FaultsByKind
faults_by_kind program lists are =
    let all = are-from program 0 lists are in
    record {
      ascending = all.ascending;
      each = λ fault. (λ stands. ((all.each fault).0 stands).0, λ is. (all.each fault).1 (is, omega arith));
    }
