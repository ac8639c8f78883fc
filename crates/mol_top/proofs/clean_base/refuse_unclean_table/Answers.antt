use Rattle.std.proofs.Common.{◌≡◌, ◌∙◌, inl, sym, ap, subst}
use Rattle.std.specs.Prelude.{IfErr, OnOk}
use Rattle.mol_spell_rules.specs.Clean.{Clean}
use Rattle.mol_table_rules.specs.Program.{Program}
use Rattle.mol_table_rules.specs.Tidy.{tidy}
use Rattle.mol_top.proofs.clean_base.refuse_unclean_table.Goals as goal
use Rattle.mol_top.specs.Refused.{IsRefusalOfProgram}

pub refuse_unclean-requires : goal.refuse_unclean-requires
refuse_unclean-requires c = ap tidy c.in-Ok.ensures ∙ c.requires ∙ sym c.in-Ok.ensures

pub returns-in-Ok-clause-clean : goal.returns-in-Ok-clause-clean
returns-in-Ok-clause-clean c =
    subst (λ (program : Program). OnOk c.refuse_unclean.result (Clean program)) c.in-Ok.ensures c.refuse_unclean.ensures.clean

pub returns-in-Ok-clause-stop : goal.returns-in-Ok-clause-stop
returns-in-Ok-clause-stop c =
    subst (λ (program : Program). IfErr c.refuse_unclean.result (IsRefusalOfProgram program)) c.in-Ok.ensures c.refuse_unclean.ensures.stop

pub returns-in-Err-clause-stop : goal.returns-in-Err-clause-stop
returns-in-Err-clause-stop c = inl (record { status = c.out_of_memory.ensures.status; line = c.out_of_memory.ensures.line })
