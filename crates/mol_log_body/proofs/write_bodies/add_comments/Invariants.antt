use Rattle.std.proofs.Common.{◌≡◌, ◌++◌, drop}
use Rattle.mol_log_body.proofs.write_bodies.add_comments.Given as goal

abbrev pub invariant-loop-comment : goal.invariant-loop-comment
invariant-loop-comment l = l.words ++ drop l.comment-index l.comments ≡ l.initial.words ++ l.comments
