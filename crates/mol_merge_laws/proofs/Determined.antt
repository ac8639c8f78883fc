-- There is one list of the conflicts of two histories.
use Rattle.std.proofs.Common.{◌≡◌, ◌≢◌, ◌∙◌, refl, sym, ap, subst, List, [], ◌∷◌, map}
use Rattle.std.specs.List.{AllZip, flat_map}
use Rattle.std.specs.List.Sorted.{IsStrictlySortedBy}
use Rattle.jav_names.proofs.Lists.{stands_nowhere}
use Rattle.mol_base.specs.Order.{stamp_cmp}
use Rattle.mol_faults_rules.specs.Kept.{kept_target, kept_fault}
use Rattle.mol_faults_rules.specs.declared.conflict.Conflict.{Conflict}
use Rattle.mol_faults_rules.specs.declared.fault.Fault.{Fault as Kept}
use Rattle.mol_faults_rules.specs.declared.fault.Fault.TheVariants as kept
use Rattle.mol_faults_rules.specs.declared.target.Target.{Target as KeptTarget}
use Rattle.mol_faults_rules.specs.declared.target.Target.TheVariants as targets
use Rattle.mol_log_rules.specs.Histories.{History}
use Rattle.mol_merge_laws.proofs.Pairs.{one-list}
use Rattle.mol_merge_laws.specs.ConflictLaws.{ConflictsDetermined}
use Rattle.mol_merge_rules.specs.Conflicts.{writers, IsConflictOf, ArePairConflicts, IsBad, AreBads, AreConflicts, of_pairs, of_faults}
use Rattle.mol_merge_rules.specs.PairConflicts.{Pair, ArePairs}
use Rattle.mol_merge_rules.specs.United.{united}
use Rattle.mol_op.specs.ChangeLaws.{some-same}
use Rattle.mol_spell_rules.proofs.FaultsOrdered.{faults_determined}
use Rattle.mol_spell_rules.proofs.SetItems.{same-members}
use Rattle.mol_spell_rules.specs.Clean.{Clean}
use Rattle.mol_spell_rules.specs.FaultList.{FaultTarget, entity, default_of, local_of, outside_of, Fault, same_address, false_override, apart, outside_name, missing, misread, local_clash, package_is_class, IsFault, by_address, by_override, by_place, by_outside_name, by_absence, by_reading, by_local, by_package, AreFaults}
use Rattle.mol_spell_rules.specs.Sets.{as_set}
use Rattle.mol_table_rules.proofs.CellOrder.{cell_cmp-total, cell_cmp-IsAntisymmetric}
use Rattle.mol_table_rules.specs.Program.{Program}
use Rattle.mol_values_types.specs.Order.{cell_cmp}

-- ---- faults as they are kept

abbrev target-of : FaultTarget → KeptTarget
target-of (entity id) = targets.Entity id
target-of (default_of class) = targets.Default class
target-of (local_of number) = targets.Local number
target-of (outside_of text) = targets.Outside text

target-back : (target : KeptTarget) → target-of (kept_target target) ≡ target
target-back (targets.Entity id) = refl
target-back (targets.Default class) = refl
target-back (targets.Local number) = refl
target-back (targets.Outside text) = refl

abbrev fault-of : Fault → Kept
fault-of (same_address first second) = kept.SameAddress first second
fault-of (false_override first second) = kept.FalseOverride first second
fault-of (apart method) = kept.Apart method
fault-of (outside_name method) = kept.OutsideName method
fault-of (missing at target) = kept.Missing at target
fault-of (misread at number target) = kept.Misread at number (target-of target)
fault-of (local_clash at name) = kept.LocalClash at name
fault-of (package_is_class class inside) = kept.PackageIsClass class inside

fault-back : (fault : Kept) → fault-of (kept_fault fault) ≡ fault
fault-back (kept.SameAddress first second) = refl
fault-back (kept.FalseOverride first second) = refl
fault-back (kept.Apart method) = refl
fault-back (kept.OutsideName method) = refl
fault-back (kept.Missing at target) = refl
fault-back (kept.Misread at number target) = ap (λ t. kept.Misread at number t) (target-back target)
fault-back (kept.LocalClash at name) = refl
fault-back (kept.PackageIsClass class inside) = refl

faults-back : (faults : List Kept) → map fault-of (map kept_fault faults) ≡ faults
faults-back [] = refl
faults-back (fault ∷ faults) = λ i. fault-back fault i ∷ faults-back faults i

-- a clean program has no fault
has-none : (program : Program) → Clean program → (fault : Fault) → ¬ (IsFault program fault)
has-none program clean (same_address first second) (by_address h) = clean.addresses first second h
has-none program clean (false_override first second) (by_override h) = clean.overrides first second h
has-none program clean (apart method) (by_place h) = clean.together method h
has-none program clean (outside_name method) (by_outside_name h) = clean.names method h
has-none program clean (missing at target) (by_absence h) = clean.present at target h
has-none program clean (misread at number target) (by_reading {target = recorded} h) = clean.read at number recorded h
has-none program clean (local_clash at name) (by_local h) = clean.locals at name h
has-none program clean (package_is_class class inside) (by_package h) = clean.packages class inside h

no-fault-list : (program : Program) → Clean program → AreFaults program []
unfolding IsStrictlySortedBy
no-fault-list program clean = record {
  ascending = tt;
  each = λ fault. (λ stands. absurd (stands_nowhere fault stands), λ is. absurd (has-none program clean fault is));
}

-- ---- what one item is, the other is

-- two lists that are those of one list, place by place, are one
same-zip : {A B : Type 0} (R : A → B → Type 0) → ((a : A) (b c : B) → R a b → R a c → b ≡ c) → (items : List A) (bs cs : List B)
    → AllZip R items bs → AllZip R items cs → bs ≡ cs
same-zip R one [] [] [] each also = refl
same-zip R one [] [] (c ∷ cs) each also = absurd also
same-zip R one [] (b ∷ bs) cs each also = absurd each
same-zip R one (a ∷ items) [] cs each also = absurd each
same-zip R one (a ∷ items) (b ∷ bs) [] each also = absurd also
same-zip R one (a ∷ items) (b ∷ bs) (c ∷ cs) each also =
    let first : b ≡ c = one a b c each.0 also.0 in
    let rest : bs ≡ cs = same-zip R one items bs cs each.1 also.1 in
    λ i. first i ∷ rest i

module _ (base : Program) (one other : History) where
  pair-conflict : (pair : Pair) (conflict more : Conflict) → IsConflictOf base one other pair conflict
      → IsConflictOf base one other pair more
      → conflict ≡ more
  pair-conflict pair conflict more is also =
      let kind = some-same conflict.kind more.kind (sym is.kind ∙ also.kind) in
      let stamps = is.stamps ∙ sym also.stamps in
      λ i. record { kind = kind i; stamps = stamps i }

  bad-conflict : (fault : Kept) (conflict more : Conflict) → IsBad base one other fault conflict → IsBad base one other fault more
      → conflict ≡ more
  bad-conflict fault conflict more is also =
      let kind = is.kind ∙ sym also.kind in
      let stamps = is.stamps ∙ ap (λ cells. as_set stamp_cmp (flat_map (writers one other) cells)) cells ∙ sym also.stamps in
      λ i. record { kind = kind i; stamps = stamps i }
    where
      cells : is.cells ≡ also.cells
      cells = same-members cell_cmp (λ at. at) (record { total = cell_cmp-total; same = cell_cmp-IsAntisymmetric }) is.cells also.cells
          is.rests.ascending also.rests.ascending
          (λ at. (λ h. (also.rests.each at).1 ((is.rests.each at).0 h), λ h. (is.rests.each at).1 ((also.rests.each at).0 h)))

  same-pairs : (list more : List Conflict) → ArePairConflicts base one other list → ArePairConflicts base one other more → list ≡ more
  same-pairs list more are also =
      same-zip (IsConflictOf base one other) pair-conflict are.pairs list more are.each
      (subst (λ pairs. AllZip (IsConflictOf base one other) pairs more) (sym pairs) also.each)
    where
      pairs : are.pairs ≡ also.pairs
      pairs = one-list base one other are.pairs also.pairs are.are also.are

  same-bads : (list more : List Conflict) → AreBads base one other list → AreBads base one other more → list ≡ more
  same-bads list more are also =
      same-zip (IsBad base one other) bad-conflict are.faults list more are.each
      (subst (λ faults. AllZip (IsBad base one other) faults more) (sym faults) also.each)
    where
      kept_same : map kept_fault are.faults ≡ map kept_fault also.faults
      kept_same = faults_determined.unique (united base one other) (map kept_fault are.faults) (map kept_fault also.faults) are.are also.are

      faults : are.faults ≡ also.faults
      faults = sym (faults-back are.faults) ∙ ap (map fault-of) kept_same ∙ faults-back also.faults

  some-none : (conflict : Conflict) (rest : List Conflict) → ArePairConflicts base one other (conflict ∷ rest)
      → ArePairConflicts base one other []
      → ⊥
  some-none conflict rest are none = not-empty (same-pairs (conflict ∷ rest) [] are none) where
    not-empty : (conflict ∷ rest) ≢ []
    not-empty same = absurd cc

  unique : (list more : List Conflict) → AreConflicts base one other list → AreConflicts base one other more → list ≡ more
  unique list more (of_pairs {conflict = conflict} {rest = rest} are) (of_pairs {conflict = first} {rest = others} also) =
      same-pairs (conflict ∷ rest) (first ∷ others) are also
  unique list more (of_pairs {conflict = conflict} {rest = rest} are) (of_faults none bads) = absurd (some-none conflict rest are none)
  unique list more (of_faults none bads) (of_pairs {conflict = conflict} {rest = rest} also) = absurd (some-none conflict rest also none)
  unique list more (of_faults none bads) (of_faults also others) = same-bads list more bads others

  -- ---- none

  no-pairs : ArePairConflicts base one other [] → ArePairs base one other []
  no-pairs none = by none.pairs none.are none.each where
    by : (pairs : List Pair) → ArePairs base one other pairs → AllZip (IsConflictOf base one other) pairs [] → ArePairs base one other []
    by [] are each = are
    by (pair ∷ pairs) are each = absurd each

  no-faults : AreBads base one other [] → Clean (united base one other)
  no-faults bads = by bads.faults bads.are bads.each where
    by : (faults : List Kept) → AreFaults (united base one other) (map kept_fault faults) → AllZip (IsBad base one other) faults []
        → Clean (united base one other)
    by [] are each = (faults_determined.clean (united base one other) [] are).0 refl
    by (fault ∷ faults) are each = absurd each

  is-none : AreConflicts base one other [] → ArePairs base one other [] × Clean (united base one other)
  is-none conflicts = by [] refl conflicts where
    by : (list : List Conflict) → list ≡ [] → AreConflicts base one other list → ArePairs base one other [] × Clean (united base one other)
    by list same (of_pairs are) = absurd cc
    by list same (of_faults none bads) = (no-pairs none, no-faults (subst (AreBads base one other) same bads))

  none-is : ArePairs base one other [] × Clean (united base one other) → AreConflicts base one other []
  none-is both = of_faults (record { pairs = []; are = both.0; each = tt }) (record {
    faults = [];
    are = no-fault-list (united base one other) both.1;
    each = tt;
  })

pub conflicts_determined : ConflictsDetermined
conflicts_determined = record {
  unique = unique;
  none = λ base one other. (is-none base one other, none-is base one other);
}
