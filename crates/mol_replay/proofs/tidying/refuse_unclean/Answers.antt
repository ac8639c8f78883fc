use Rattle.std.proofs.Common.{Option, refl, subst}
use Rattle.std.specs.Prelude.{option_map}
use Rattle.mol_faults.specs.First.{IsFirst}
use Rattle.mol_faults_rules.specs.Kept.{kept_fault}
use Rattle.mol_faults_rules.specs.declared.fault.Fault.{Fault}
use Rattle.mol_replay.proofs.TidiedLeft.{memory-told}
use Rattle.mol_replay.proofs.tidying.refuse_unclean.Goals as goal
use Rattle.mol_replay.specs.Replays.{IsUnclean}

pub returns-in_err-first_fault_in-clause-refused : goal.returns-in_err-first_fault_in-clause-refused
returns-in_err-first_fault_in-clause-refused c = memory-told (IsUnclean c.args.tidied) c.from_residual.result c.from_residual.ensures.1

pub returns-in-None-clause-clean : goal.returns-in-None-clause-clean
returns-in-None-clause-clean c =
    subst (λ (o : Option Fault). IsFirst c.args.tidied (option_map kept_fault o)) c.in-None.is c.in_ok-first_fault_in.ensures

pub returns-in-Some-clause-refused : goal.returns-in-Some-clause-refused
returns-in-Some-clause-refused c = λ other. (
  c.in-Some.fault,
  refl,
  subst (λ (o : Option Fault). IsFirst c.args.tidied (option_map kept_fault o)) c.in-Some.is c.in_ok-first_fault_in.ensures,
)
