use Rattle.std.proofs.lemmas.Result.{IfOk-weaker}
use Rattle.mol_resolve_names.proofs.names_lemmas.ReadersOver.{reader-over}
use Rattle.mol_resolve_names.proofs.names.names.MemberNamesNames.super_call.Goals as goal
use Rattle.mol_resolve_names.specs.names.InMember.{reader_of}

pub returns : goal.returns
returns c =
    let names = c.args.self.now in
    IfOk-weaker c.super_call.result _ _ (λ value reads. reads (reader_of names) (reader-over names)) c.super_call.ensures
