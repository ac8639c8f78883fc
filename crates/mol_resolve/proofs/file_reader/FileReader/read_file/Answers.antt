use Rattle.std.proofs.lemmas.Result.{IfErr-weaker, IfOk-weaker}
use Rattle.mol_resolve.proofs.FaultsMet.{first-noted, none-noted, whole-noted}
use Rattle.mol_resolve.proofs.FilesAdded.{file-added}
use Rattle.mol_resolve.proofs.file_reader.FileReader.read_file.Goals as goal
use Rattle.mol_resolve_members.specs.sources.Sources.{file_of, files_of}

-- What is met in the file: the faults of its class and between members, then those of what its class extends, then those in members.
pub returns-clause-fault : goal.returns-clause-fault
returns-clause-fault c =
    IfErr-weaker c.unless_met.result _ _ (λ fault met wants.
    first-noted (files_of c.args.self.now) (c.args.unit, file_of c.args.source.now) c.read_members.new.faults fault
    (whole-noted (files_of c.args.self.now) (c.args.unit, file_of c.args.source.now) c.new-faults.result c.note_faults.new.faults
    c.read_class.new.faults c.read_members.new.faults c.new-faults.ensures c.in_ok-note_faults.ensures c.in_ok-read_class.ensures.faults
    c.in_ok-read_members.ensures.faults) met) c.unless_met.ensures.err

pub returns-clause-none : goal.returns-clause-none
returns-clause-none c =
    IfOk-weaker c.unless_met.result _ _ (λ done none.
    none-noted (files_of c.args.self.now) (c.args.unit, file_of c.args.source.now) c.read_members.new.faults
    (whole-noted (files_of c.args.self.now) (c.args.unit, file_of c.args.source.now) c.new-faults.result c.note_faults.new.faults
    c.read_class.new.faults c.read_members.new.faults c.new-faults.ensures c.in_ok-note_faults.ensures c.in_ok-read_class.ensures.faults
    c.in_ok-read_members.ensures.faults) none) c.unless_met.ensures.ok

pub returns-clause-added : goal.returns-clause-added
returns-clause-added c =
    IfOk-weaker c.unless_met.result _ _ (λ done none.
    file-added (files_of c.args.self.now) (c.args.unit, file_of c.args.source.now) c.args.entities.now c.read_class.new.entities
    c.read_members.new.entities c.in_ok-read_class.ensures.added c.in_ok-read_members.ensures.added) c.unless_met.ensures.ok
