use Rattle.mol_resolve.proofs.file_members.member_reader.MemberReader.block.Goals as goal
use Rattle.mol_resolve.proofs.file_members_lemmas.MaybeThere.{none-read, some-read}
use Rattle.mol_resolve_rules.specs.ReadStatements.{read_body}

pub returns-in-None : goal.returns-in-None
returns-in-None g c =
    let reader = g.N.Names.reader c.args.self.now.names.now in
    none-read (read_body reader) c.args.block.now c.args.faults.now c.in-None.is

pub returns-in_ok-body-in-Some : goal.returns-in_ok-body-in-Some
returns-in_ok-body-in-Some g c =
    let reader = g.N.Names.reader c.args.self.now.names.now in
    some-read (read_body reader) c.args.block.now _ _ c.present.result _ _ c.in-Some.is c.in_ok-body-in-Some.ensures c.present.ensures
