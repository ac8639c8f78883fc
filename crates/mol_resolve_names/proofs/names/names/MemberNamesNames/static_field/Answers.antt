use Rattle.std.proofs.lemmas.Result.{IfOk-weaker}
use Rattle.mol_resolve_names.proofs.names_lemmas.ReadersOver.{reader-over}
use Rattle.mol_resolve_names.proofs.names.names.MemberNamesNames.static_field.Goals as goal
use Rattle.mol_resolve_names.specs.names.InMember.{reader_of}

pub returns : goal.returns
returns c =
    let names = c.args.self.now in
    IfOk-weaker c.static_field.result _ _ (λ value reads. reads (reader_of names) (reader-over names)) c.static_field.ensures
