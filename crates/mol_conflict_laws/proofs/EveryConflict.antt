-- The conflicts of two histories can be listed.
use Rattle.std.proofs.Common.{◌≡◌, Bool, true, false, List, [], ◌∷◌, map, Option, None, Some, Contains, refl, sym, subst, rules, if◌then◌else◌}
use Rattle.std.specs.Cmp.{IsTotalOrder}
use Rattle.std.specs.Cmp.Rules.{comparing}
use Rattle.std.specs.List.{AllZip, flat_map}
use Rattle.std.specs.Ordering.{is_lt}
use Rattle.jav_names.proofs.Lists.{stands_first, stands_later}
use Rattle.jav_names.specs.Views.{IsKeyOrder}
use Rattle.mol_base.specs.Order.{stamp_cmp}
use Rattle.mol_base.specs.declared.ident.Stamp.{Stamp}
use Rattle.mol_conflict_laws.proofs.KeptFaults.{fault-kept, fault_of}
use Rattle.mol_conflict_laws.proofs.PairsListed.{pairs_there}
use Rattle.mol_conflict_laws.proofs.SupportListed.{support_listed}
use Rattle.mol_conflict_laws.specs.Laws.{ConflictsListed}
use Rattle.mol_faults_laws.proofs.EveryFault.{all_faults}
use Rattle.mol_faults_laws.proofs.FaultOrder.{fault-IsKeyOrder, fault-same}
use Rattle.mol_faults_rules.specs.Kept.{kept_fault}
use Rattle.mol_faults_rules.specs.declared.conflict.Conflict.{Conflict}
use Rattle.mol_faults_rules.specs.declared.conflict.ConflictKind.{ConflictKind}
use Rattle.mol_faults_rules.specs.declared.conflict.ConflictKind.TheVariants.{Twice, GoneChanged, GoneUsed, Bad}
use Rattle.mol_faults_rules.specs.declared.fault.Fault.{Fault as Kept}
use Rattle.mol_log_rules.specs.Histories.{History, last}
use Rattle.mol_log_rules.specs.Writers.{writer}
use Rattle.mol_merge_rules.specs.Conflicts.{AreBads, AreConflicts, IsBad, IsConflictOf, ascending_stamps, in_stamp_order, of_faults, of_pairs, pair_kind, pair_stamps, twice_kind, writers}
use Rattle.mol_merge_rules.specs.PairConflicts.{ArePairs, IsGonePair, IsPair, Pair, changed, gone_after_one, gone_after_other, set_twice, used}
use Rattle.mol_merge_rules.specs.United.{united}
use Rattle.mol_spell_rules.proofs.SetItems.{set-ascends, set-has}
use Rattle.mol_spell_rules.specs.FaultList.{AreFaults, Fault, fault_cmp, fault_key}
use Rattle.mol_spell_rules.specs.Sets.{as_set}
use Rattle.mol_spell_rules.specs.Support.{IsSupport}
use Rattle.mol_table_rules.proofs.CellOrder.{cell_cmp-IsAntisymmetric, cell_cmp-total}
use Rattle.mol_table_rules.specs.Program.{Program}
use Rattle.mol_values_types.specs.Order.{cell_cmp}
use Rattle.mol_values_types.specs.declared.cell.Cell.{Cell}
use Rattle.mol_values_types.specs.declared.value.Value.{Value}

-- # Orders

fault-total : IsTotalOrder fault_cmp
fault-total = search (comparing, rules) depth 24

fault-order : IsKeyOrder fault_cmp
fault-order = record {
  total = fault-total;
  same = λ x y is. fault-same x y (fault-IsKeyOrder.same (fault_key x) (fault_key y) is);
}

cell-order : IsKeyOrder cell_cmp
cell-order = record { total = cell_cmp-total; same = cell_cmp-IsAntisymmetric }

-- # One for each

module _ {A B : Type 0} {R : A → B → Type 0} where
  zipped : (items : List A) → ((a : A) → Contains items a → (b : B) × R a b) → (made : List B) × AllZip R items made
  zipped [] make = ([], tt)
  zipped (a ∷ items) make =
      let first = make a (stands_first a items) in
      let rest = zipped items (λ b stands. make b (stands_later a b items stands)) in
      (first.0 ∷ rest.0, (first.1, rest.1))

-- # Conflicts of pairs

-- two values in the order of their stamps are there
two-there : (at : Cell) (one other : Option Stamp) (first second : Option Value) (a b : Value) → first ≡ Some a → second ≡ Some b
    → (kind : ConflictKind) × (twice_kind at (in_stamp_order one other first second) ≡ Some kind)
two-there at (Some s) (Some t) first second a b is also = by (is_lt (stamp_cmp t s)) where
  by : (less : Bool) → (kind : ConflictKind) × (twice_kind at (if less then (second, first) else (first, second)) ≡ Some kind)
  by true = (Twice at b a, λ i. twice_kind at (also i, is i))
  by false = (Twice at a b, λ i. twice_kind at (is i, also i))
two-there at None other first second a b is also = (Twice at a b, λ i. twice_kind at (is i, also i))
two-there at (Some s) None first second a b is also = (Twice at a b, λ i. twice_kind at (is i, also i))

module _ (base : Program) (one other : History) where
  gone-kind : (own more : History) (pair : Pair) → IsGonePair base own more pair → (kind : ConflictKind) × (pair_kind one other pair ≡ Some kind)
  gone-kind own more pair (changed at gone writes) = (GoneChanged at.id, refl)
  gone-kind own more pair (used {id} {at} {value} {role} gone lives is mentioned) = (GoneUsed id at, refl)

  kind-there : (pair : Pair) → IsPair base one other pair → (kind : ConflictKind) × (pair_kind one other pair ≡ Some kind)
  kind-there pair (set_twice {at} is) =
      two-there at (writer one at) (writer other at) (last one at) (last other at) is.first is.second is.last_one is.last_other
  kind-there pair (gone_after_one h) = gone-kind one other pair h
  kind-there pair (gone_after_other h) = gone-kind other one pair h

  conflict-there : (pair : Pair) → IsPair base one other pair → (conflict : Conflict) × IsConflictOf base one other pair conflict
  conflict-there pair is =
      let kind = kind-there pair is in
      (record { kind = kind.0; stamps = pair_stamps base one other pair }, record { kind = kind.1; stamps = refl })

  -- # Faults

  abbrev both : Program
  both = united base one other

  ordered : List Fault
  ordered = as_set fault_cmp (all_faults both).items

  support-there : (fault : Fault) → (cells : List Cell) × IsSupport both fault cells
  support-there fault =
      let listed = support_listed both fault in (
        as_set cell_cmp listed.items,
        record {
          ascending = set-ascends cell_cmp cell-order listed.items;
          each = λ at. (
            λ stands. (listed.each at).0 ((set-has cell_cmp cell-order listed.items at).0 stands),
            λ is. (set-has cell_cmp cell-order listed.items at).1 ((listed.each at).1 is),
          );
        },
      )

  bad-there : (fault : Kept) → (conflict : Conflict) × IsBad base one other fault conflict
  bad-there fault =
      let support = support-there (kept_fault fault) in (
        record { kind = Bad fault; stamps = ascending_stamps (flat_map (writers one other) support.0) },
        record { kind = refl; cells = support.0; rests = support.1; stamps = refl },
      )

  kept-all : (faults : List Fault) → map kept_fault (map fault_of faults) ≡ faults
  kept-all [] = refl
  kept-all (fault ∷ faults) = let first = fault-kept fault in let rest = kept-all faults in λ i. first i ∷ rest i

  bads-there : (list : List Conflict) × AreBads base one other list
  unfolding ordered
  bads-there =
      let listed = all_faults both in
      let faults = map fault_of ordered in
      let zip = zipped {R = IsBad base one other} faults (λ fault stands. bad-there fault) in (
        zip.0,
        record {
          faults = faults;
          are = subst (AreFaults both) (sym (kept-all ordered)) (record {
            ascending = set-ascends fault_cmp fault-order listed.items;
            each = λ fault. (
              λ stands. (listed.each fault).0 ((set-has fault_cmp fault-order listed.items fault).0 stands),
              λ is. (set-has fault_cmp fault-order listed.items fault).1 ((listed.each fault).1 is),
            );
          });
          each = zip.1;
        },
      )

  -- # All of them

  from_pairs : (pairs : List Pair) → ArePairs base one other pairs → (list : List Conflict) × AllZip (IsConflictOf base one other) pairs list
      → (list : List Conflict) × AreConflicts base one other list
  from_pairs [] are zip =
      let bads = bads-there in (bads.0, of_faults (record { pairs = []; are = are; each = tt }) bads.1)
  from_pairs (pair ∷ pairs) are ([], fails) = absurd fails
  from_pairs (pair ∷ pairs) are (conflict ∷ rest, each) =
      (conflict ∷ rest, of_pairs (record { pairs = pair ∷ pairs; are = are; each = each }))

  conflicts_there : (list : List Conflict) × AreConflicts base one other list
  conflicts_there =
      let pairs = pairs_there base one other in
      from_pairs pairs.0 pairs.1 (zipped {R = IsConflictOf base one other} pairs.0
      (λ pair stands. conflict-there pair ((pairs.1.each pair).0 stands)))

pub conflicts_listed : ConflictsListed
conflicts_listed = record { listed = conflicts_there }
