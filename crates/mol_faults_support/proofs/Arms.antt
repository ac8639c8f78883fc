-- A fault by what it is.
use Rattle.std.proofs.Common.{◌≡◌, ℕ, List, sym, subst}
use Rattle.std.proofs.lemmas.Result.{IfOk-weaker}
use Rattle.std.specs.Prelude.{IfOk, Result}
use Rattle.jav_names.specs.DottedNames.{Name}
use Rattle.mol_faults_rules.specs.Kept.{kept_fault, kept_target}
use Rattle.mol_faults_rules.specs.declared.fault.Fault.{Fault as Kept}
use Rattle.mol_faults_rules.specs.declared.fault.Fault.TheVariants as kept
use Rattle.mol_faults_rules.specs.declared.target.Target.{Target as KeptTarget}
use Rattle.mol_spell_rules.specs.FaultList.{FaultTarget, misread, local_clash}
use Rattle.mol_spell_rules.specs.references.References.{Target}
use Rattle.mol_faults_support.specs.Met.{HasMet}
use Rattle.mol_faults_support.specs.Rests.{RestsOn}
use Rattle.mol_table_rules.specs.Program.{Program}
use Rattle.mol_values_types.specs.declared.cell.Cell.{Cell}

module _ {T E : Type 0} (r : Result T E) (items : T → List Cell) (program : Program) (fault : Kept) where
  abbrev Rests : Kept → Type 0
  Rests known = IfOk r (λ cells. RestsOn program (kept_fault known) (items cells))

  pub arm : (known : Kept) → fault ≡ known → Rests known → Rests fault
  arm known is rests = subst Rests (sym is) rests

  -- of the table itself
  pub table-arm : (own : Program) → own ≡ program → (known : Kept) → fault ≡ known
      → IfOk r (λ cells. RestsOn own (kept_fault known) (items cells)) → Rests fault
  table-arm own same known is rests =
      arm known is (subst (λ (p : Program). IfOk r (λ cells. RestsOn p (kept_fault known) (items cells))) same rests)

  -- of a misread reference
  pub misread-arm : (targets : List Target) (at : Cell) (number : ℕ) (target : KeptTarget) → fault ≡ kept.Misread at number target
      → HasMet program (kept_fault fault) targets
      → IfOk r (λ cells. (number : ℕ) (recorded : FaultTarget) → HasMet program (misread at number recorded) targets
      → RestsOn program (misread at number recorded) (items cells)) → Rests fault
  misread-arm targets at number target is met rests = arm (kept.Misread at number target) is
      (IfOk-weaker r _ (λ cells. RestsOn program (misread at number (kept_target target)) (items cells))
      (λ cells known. known number (kept_target target) (subst (λ f. HasMet program (kept_fault f) targets) is met)) rests)

  -- of a name that is declared twice
  pub clash-arm : (own : Program) → own ≡ program → (at : Cell) (name : Name) → fault ≡ kept.LocalClash at name
      → IfOk r (λ cells. (name : Name) → RestsOn own (local_clash at name) (items cells)) → Rests fault
  clash-arm own same at name is rests = table-arm own same (kept.LocalClash at name) is
      (IfOk-weaker r _ (λ cells. RestsOn own (local_clash at name) (items cells)) (λ cells known. known name) rests)
