use Rattle.std.proofs.Common.{◌≡◌, [], length}
use Rattle.mol_log_body.specs.BodyReader as reader
use Rattle.mol_log_body.proofs.lists.open_stmt.Given as goal

abbrev pub decreases-loop-alloc : goal.decreases-loop-alloc
decreases-loop-alloc l = length l.words

abbrev pub invariant-loop-alloc : goal.invariant-loop-alloc
invariant-loop-alloc l = reader.opening l.first l.depth [] l.initial.words ≡ reader.opening l.first l.depth l.notes l.words
