use Rattle.std.proofs.Common.{◌≡◌, ◌++◌, [], drop}
use Rattle.mol_log_body.specs.Bodies.{noted}
use Rattle.mol_log_body.proofs.write_bodies.add_notes.Given as goal

abbrev pub invariant-loop-note : goal.invariant-loop-note
invariant-loop-note l = l.words ++ noted (drop l.note-index l.notes) [] ≡ l.initial.words ++ noted l.notes []
