use Rattle.mol_resolve.proofs.AtPlaces.{AreMembersRead}
use Rattle.mol_resolve.proofs.file_reader.FileReader.read_members.Given as goal

abbrev pub invariant-loop-place : goal.invariant-loop-place
invariant-loop-place l =
    AreMembersRead l.self l.unit l.source l.place l.fn.entities l.entities l.fn.faults l.faults
