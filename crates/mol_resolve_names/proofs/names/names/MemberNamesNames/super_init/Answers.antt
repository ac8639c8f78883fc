use Rattle.std.proofs.Common.{sym, subst}
use Rattle.std.proofs.lemmas.Result.{IfOk-weaker}
use Rattle.jav_names.specs.LookUps.{super_constructor}
use Rattle.mol_resolve_names.proofs.names_lemmas.ReadersOver.{reader-over}
use Rattle.mol_resolve_names.proofs.names.names.MemberNamesNames.super_init.Goals as goal
use Rattle.mol_resolve_names.specs.names.InMember.{reader_of}
use Rattle.mol_resolve_readings.specs.reads.Reads.{Reads}
use Rattle.mol_resolve_rules.specs.ReadStatements.{super_if}

pub returns-then-self : goal.returns-then-self
returns-then-self c =
    let reader = reader_of c.args.self.now in
    let above = super_constructor reader.view reader.class c.args.arity in
    IfOk-weaker c.super_init.result _ _ (λ node reads.
    subst (λ inside. Reads (super_if reader inside c.args.at c.args.args above) node c.args.faults.now c.super_init.new.faults)
    (sym c.if-self.true) (reads reader (reader-over c.args.self.now))) c.super_init.ensures
