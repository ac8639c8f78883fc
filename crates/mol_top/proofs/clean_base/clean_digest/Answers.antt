use Rattle.std.proofs.Common.{◌≡◌, ◌∙◌, inl, sym, ap, subst}
use Rattle.std.specs.Prelude.{IfErr, IfOk, OnOk}
use Rattle.mol_spell_files.specs.Bundle.{digest_of}
use Rattle.mol_spell_rules.specs.Clean.{Clean}
use Rattle.mol_table_rules.specs.Program.{Program}
use Rattle.mol_table_rules.specs.Tidy.{tidy}
use Rattle.mol_top.proofs.clean_base.clean_digest.Goals as goal
use Rattle.mol_top.specs.Refused.{IsRefusalOfProgram}

pub index_digest-requires : goal.index_digest-requires
index_digest-requires c = ap tidy c.in-Ok.ensures ∙ c.requires ∙ sym c.in-Ok.ensures

pub returns-in-Ok-clause-clean : goal.returns-in-Ok-clause-clean
returns-in-Ok-clause-clean c =
    subst (λ (program : Program). OnOk c.index_digest.result (Clean program)) c.in-Ok.ensures c.index_digest.ensures.clean

pub returns-in-Ok-clause-digest : goal.returns-in-Ok-clause-digest
returns-in-Ok-clause-digest c =
    subst (λ (program : Program). IfOk c.index_digest.result (λ digest. digest ≡ digest_of program)) c.in-Ok.ensures
    c.index_digest.ensures.digest

pub returns-in-Ok-clause-stop : goal.returns-in-Ok-clause-stop
returns-in-Ok-clause-stop c =
    subst (λ (program : Program). IfErr c.index_digest.result (IsRefusalOfProgram program)) c.in-Ok.ensures c.index_digest.ensures.stop

pub returns-in-Err-clause-stop : goal.returns-in-Err-clause-stop
returns-in-Err-clause-stop c = inl (record { status = c.out_of_memory.ensures.status; line = c.out_of_memory.ensures.line })
