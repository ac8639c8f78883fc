use Rattle.std.proofs.Common.{List, subst}
use Rattle.jav_scope.specs.declared.source.SourceUnit.{SourceUnit}
use Rattle.mol_resolve_names.specs.names.InMember.{reader_of}
use Rattle.mol_resolve_members.specs.places.Listings.{key_of}
use Rattle.mol_resolve.proofs.AtPlaces.{member-added, reads-at}
use Rattle.mol_resolve.proofs.file_reader.FileReader.read_member.Goals as goal
use Rattle.mol_resolve.specs.ReadAtPlaces.{ReadsAt}
use Rattle.mol_resolve_members.specs.sources.Sources.{files_of}

pub made-requires-clause-names : goal.made-requires-clause-names
made-requires-clause-names c =
    let names = reader_of c.in_ok-names.names in
    subst (λ (all : List SourceUnit). ReadsAt all (key_of c.args.at) c.args.member.now names) c.self.view_is
    (reads-at c.self.inside.sources.now (key_of c.args.at) c.args.member.now names c.in_ok-names.ensures)

pub returns : goal.returns
returns c =
    member-added (files_of c.args.self.now) (key_of c.args.at) c.args.member.now c.in_ok-made.made c.args.entities.now
    c.add_member.new.self c.args.faults.now c.made.new.faults c.in_ok-made.ensures c.add_member.ensures.classes
    c.in_ok-add_member.ensures.members c.in_ok-add_member.ensures.methods
