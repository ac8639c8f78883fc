use Rattle.std.proofs.Common.{◌≡◌, ◌∙◌, sym, ap, subst}
use Rattle.std.specs.Prelude.{IfErr, IfOk}
use Rattle.mol_table_rules.specs.Program.{Program}
use Rattle.mol_table_rules.specs.Tidy.{tidy}
use Rattle.mol_top.proofs.replaying.tidied_work.Goals as goal
use Rattle.mol_top.specs.ProgramWork.{IsFilesWork, StopsLarge}

pub files_work-requires : goal.files_work-requires
files_work-requires c = ap tidy c.in_ok-program.ensures ∙ c.requires ∙ sym c.in_ok-program.ensures

pub returns-clause-work : goal.returns-clause-work
returns-clause-work c =
    subst (λ (program : Program). IfOk c.files_work.result (IsFilesWork c.args.out.now program)) c.in_ok-program.ensures
    c.files_work.ensures.work

pub returns-clause-stop : goal.returns-clause-stop
returns-clause-stop c =
    subst (λ (program : Program). IfErr c.files_work.result (StopsLarge program)) c.in_ok-program.ensures c.files_work.ensures.stop
