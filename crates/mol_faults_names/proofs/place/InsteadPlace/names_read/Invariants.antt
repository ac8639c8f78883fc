use Rattle.std.proofs.Common.{◌≡◌, take, option_map}
use Rattle.jav_names.specs.Leftmost.{Leftmost as Read}
use Rattle.mol_base.specs.declared.ident.Id.{Id}
use Rattle.mol_faults_names.specs.Kept.{leftmost_of, locals_at, program_at, reader_at, reads_of}
use Rattle.mol_faults_names.specs.Reads.{names_read}
use Rattle.mol_scope.specs.first_names.Readings.{IsRead}
use Rattle.mol_faults_names.proofs.place.InsteadPlace.names_read.Given as goal

abbrev pub invariant-loop-at : goal.invariant-loop-at
invariant-loop-at l = (front : Read Id Id) → IsRead (leftmost_of l.first) front → option_map reads_of l.read
    ≡ names_read (program_at l.self) (reader_at l.self) (locals_at l.self) l.name (take l.at l.rest) front
