use Rattle.mol_resolve.proofs.FaultsMet.{AreFaultless}
use Rattle.mol_resolve.proofs.file_reader.FileReader.read_all.Given as goal

abbrev pub invariant-loop-unit : goal.invariant-loop-unit
invariant-loop-unit l = AreFaultless l.self l.unit-index l.entities
