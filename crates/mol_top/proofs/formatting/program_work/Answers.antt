use Rattle.std.proofs.Common.{◌≡◌, ◌∙◌, inl, sym, ap, subst}
use Rattle.std.specs.Prelude.{IfErr, IfOk}
use Rattle.mol_table_rules.specs.Program.{Program}
use Rattle.mol_table_rules.specs.Tidy.{tidy}
use Rattle.mol_top.proofs.formatting.program_work.Goals as goal
use Rattle.mol_top.specs.Outside.{store}
use Rattle.mol_top.specs.ProgramWork.{IsCleanWork, IsProgramStopped}

pub clean_work-requires : goal.clean_work-requires
clean_work-requires g c = ap tidy c.in-Ok.ensures ∙ c.requires ∙ sym c.in-Ok.ensures

pub returns-in-Ok-clause-work : goal.returns-in-Ok-clause-work
returns-in-Ok-clause-work g c =
    subst (λ (program : Program). IfOk c.clean_work.result (IsCleanWork c.args.out.now program (store g.F.Files c.args.files.now)))
    c.in-Ok.ensures c.clean_work.ensures.work

pub returns-in-Ok-clause-stop : goal.returns-in-Ok-clause-stop
returns-in-Ok-clause-stop g c =
    let old = store g.F.Files c.args.files.now in
    let new = store g.F.Files c.clean_work.new.files in
    subst (λ (program : Program). IfErr c.clean_work.result (IsProgramStopped c.args.out.now program old new)) c.in-Ok.ensures
    c.clean_work.ensures.stop

pub returns-in-Err-clause-stop : goal.returns-in-Err-clause-stop
returns-in-Err-clause-stop g c = inl (inl (record { status = c.out_of_memory.ensures.status; line = c.out_of_memory.ensures.line }))
