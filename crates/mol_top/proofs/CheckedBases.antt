-- What `check` makes of a base.
use Rattle.std.proofs.Common.{◌≡◌, ℕ, refl, List, length, ap}
use Rattle.mol_spell_rules.specs.Clean.{Clean}
use Rattle.mol_table_rules.specs.Rules.{IsProgram as KeepsRules}
use Rattle.mol_top.specs.Checking.{check_outcome}
use Rattle.mol_top.specs.CleanBases.{IsReadOf}
use Rattle.mol_top.specs.Command.{CheckWords, Command}
use Rattle.mol_top.specs.Output.{IsWork}
use Rattle.mol_top.specs.Outside.{IfTold, Store}
use Rattle.mol_top.specs.Prepared.{Prepares}
use Rattle.mol_top.specs.declared.clean_base.BaseProgram.{BaseProgram}
use Rattle.mol_top.specs.declared.output.Work.{Work}

pub check_prepared : (w : CheckWords) (old : Store) (read : BaseProgram) (work : Work) → IfTold old.held (λ h. IsReadOf w.base h read)
    → KeepsRules read.table → Clean read.table → IsWork work (check_outcome read.files) → Prepares (Command.check w) old work
check_prepared w old read work are rules clean is = λ h e. record {
  outcome = check_outcome read.files;
  comes = record {
    program = read.table;
    base = record { is = (are h e).program; rules = rules; clean = clean };
    is = ap check_outcome (are h e).files;
  };
  is = is;
}
