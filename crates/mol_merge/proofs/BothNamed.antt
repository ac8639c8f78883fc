-- Conflicts name both sides.
use Rattle.std.proofs.Common.{Result}
use Rattle.std.specs.Prelude.{Ok, Err, IfOk, OnOk}
use Rattle.mol_conflict_laws.proofs.BothSides.{conflicts_name_both}
use Rattle.mol_conflict_laws.specs.Laws.{BothLeaveClean}
use Rattle.mol_log.specs.declared.log.Log.{Log}
use Rattle.mol_log_rules.specs.Living.{HasNoDead}
use Rattle.mol_merge.specs.Outcomes.{AreMergeable, IsOutcome, NameBoth}
use Rattle.mol_merge.specs.declared.outcome.Outcome.{Outcome}
use Rattle.mol_merge.specs.declared.outcome.Outcome.TheVariants.{Merged, Conflicts}
use Rattle.mol_table_rules.specs.Program.{Program}
use Rattle.mol_table_rules.specs.Rules.{IsProgram}

module _ (base : Program) (first second : Log) (rules : IsProgram base) (alive : HasNoDead base) where
  both-clean : AreMergeable base first second → BothLeaveClean base first second
  both-clean are = record {
    rules = rules;
    alive = alive;
    both = record { first = are.first_replays.applies; second = are.second_replays.applies; apart = are.apart };
    clean_one = are.first_replays.clean;
    clean_other = are.second_replays.clean;
  }

  name-both : (outcome : Outcome) → IsOutcome base first second outcome → AreMergeable base first second → NameBoth first second outcome
  name-both (Merged merged) is are = tt {0}
  name-both (Conflicts list) is are = λ conflict stands named.
      conflicts_name_both.in_either_order base first second list conflict (both-clean are) is.are stands named

  pub both-named : {E : Type 0} (answer : Result Outcome E) → IfOk answer (IsOutcome base first second)
      → OnOk answer (AreMergeable base first second) → IfOk answer (NameBoth first second)
  both-named (Ok outcome) is are = name-both outcome is are
  both-named (Err fault) is are = tt {0}
