-- The conflicts of two histories, where there are none, and where there are faults.
use Rattle.std.proofs.Common.{◌≡◌, ◌≢◌, ◌∙◌, refl, sym, ap, subst, true≢false, Bool, true, false, ◌==◌, List, [], ◌∷◌, map, length, Result}
use Rattle.std.proofs.lemmas.Bool.{eqb-true}
use Rattle.std.proofs.lemmas.List.{nil_from_length}
use Rattle.std.specs.List.{AllZip}
use Rattle.std.specs.Prelude.{Ok, Err, IfOk}
use Rattle.mol_faults_rules.specs.Kept.{kept_fault}
use Rattle.mol_faults_rules.specs.declared.conflict.Conflict.{Conflict}
use Rattle.mol_faults_rules.specs.declared.fault.Fault.{Fault}
use Rattle.mol_log_rules.proofs.Appended.{leaves-append}
use Rattle.mol_log_rules.specs.Histories.{History, after}
use Rattle.mol_merge.proofs.Zipped.{zip-each}
use Rattle.mol_merge.specs.Finding.{IsBadIn, IsFound}
use Rattle.mol_merge.specs.declared.found.Found.TheVariants.{United, Conflicts}
use Rattle.mol_merge_laws.proofs.Determined.{conflicts_determined}
use Rattle.mol_merge_rules.specs.Conflicts.{IsBad, AreBads, ArePairConflicts, AreConflicts, of_pairs, of_faults}
use Rattle.mol_merge_rules.specs.United.{united}
use Rattle.mol_spell_rules.specs.Clean.{Clean}
use Rattle.mol_spell_rules.specs.FaultList.{AreFaults}
use Rattle.mol_table_rules.specs.Program.{Program}

module _ (base : Program) (one other : History) where
  -- where nothing conflicts, what both leave is clean
  pub clean-united : AreConflicts base one other [] → Clean (united base one other)
  clean-united none = ((conflicts_determined.none base one other).0 none).1

  -- the faults of that program, each with its stamps
  pub bads-in : (program : Program) (faults : List Fault) (list : List Conflict) → program ≡ united base one other
      → AreFaults program (map kept_fault faults) → AllZip (IsBadIn program one other) faults list → AreBads base one other list
  bads-in program faults list is are each = record {
    faults = faults;
    are = subst (λ (p : Program). AreFaults p (map kept_fault faults)) is are;
    each = zip-each (IsBadIn (united base one other) one other) (IsBad base one other)
        (λ fault conflict bad. record { kind = bad.kind; cells = bad.cells; rests = bad.rests; stamps = bad.stamps })
        faults list (subst (λ (p : Program). AllZip (IsBadIn p one other) faults list) is each);
  }

  -- where there are none
  pub no-bads : (program : Program) (faults : List Fault) → program ≡ united base one other → AreFaults program (map kept_fault faults)
      → faults ≡ [] → AreBads base one other []
  no-bads program faults is are none =
      bads-in program [] [] is (subst (λ (fs : List Fault). AreFaults program (map kept_fault fs)) none are) (tt {0})

  -- what the one leaves, with what the other leaves of that, is the united program
  pub together-is : (left program : Program) → left ≡ after base one → program ≡ after left other → program ≡ united base one other
  together-is left program is then =
      then ∙ ap (λ (p : Program). after p other) is ∙ sym (leaves-append base one other)

  -- ---- what is found

  pub found-united : (program : Program) (list : List Conflict) → program ≡ united base one other → ArePairConflicts base one other []
      → AreBads base one other list → list ≡ [] → IsFound base one other (United program)
  found-united program list is pairs bads none = (subst (AreConflicts base one other) none (of_faults pairs bads), is)

  pub found-bads : (list : List Conflict) → ArePairConflicts base one other [] → AreBads base one other list → list ≢ []
      → IsFound base one other (Conflicts list)
  found-bads list pairs bads some = (of_faults pairs bads, some)

  pub found-pairs : (list : List Conflict) → ArePairConflicts base one other list → list ≢ [] → IsFound base one other (Conflicts list)
  found-pairs [] pairs some = absurd (some refl)
  found-pairs (conflict ∷ rest) pairs some = (of_pairs pairs, some)

-- faults, each with its stamps, as they are answered
pub bads-answered : {E : Type 0} (program : Program) (one other : History) (faults : List Fault) (answer : Result (List Conflict) E)
    → AreFaults program (map kept_fault faults) → IfOk answer (AllZip (IsBadIn program one other) faults)
    → IfOk answer (λ list. (base : Program) → program ≡ united base one other → AreBads base one other list)
bads-answered program one other faults (Ok list) are each = λ base is. bads-in base one other program faults list is are each
bads-answered program one other faults (Err fault) are each = tt {0}

-- a list that is tested for items
pub tested-none : {X : Type 0} (xs : List X) (b : Bool) → b ≡ (length xs == 0) → b ≡ true → xs ≡ []
tested-none xs b is e = nil_from_length xs (eqb-true (length xs) 0 (sym is ∙ e))

pub tested-some : {X : Type 0} (xs : List X) (b : Bool) → b ≡ (length xs == 0) → b ≡ false → xs ≢ []
tested-some [] b is e none = absurd (true≢false (sym is ∙ e))
tested-some (x ∷ xs) b is e none = absurd cc
