use Rattle.std.proofs.Common.{◌≡◌, ℕ, [], ◌+◌, ◌-◌, ◌*◌, ◌^◌, min}
use Rattle.mol_log_body.specs.BodyReader as reader
use Rattle.mol_log_body.proofs.stmt.+read_body.Given as goal

abbrev pub decreases-stmt : goal.decreases-stmt
decreases-stmt l = 8 * l.depth

abbrev pub decreases-statements : goal.decreases-statements
decreases-statements l = 8 * l.depth + 1

abbrev pub decreases-items : goal.decreases-items
decreases-items l = 8 * l.depth + 1

abbrev pub decreases-block : goal.decreases-block
decreases-block l = 8 * l.depth + 2

abbrev pub decreases-else_part : goal.decreases-else_part
decreases-else_part l = 8 * l.depth + 3

abbrev pub decreases-repetition : goal.decreases-repetition
decreases-repetition l = 8 * l.depth + 3

abbrev pub decreases-branches : goal.decreases-branches
decreases-branches l = 8 * l.depth + 4

abbrev pub decreases-conditional : goal.decreases-conditional
decreases-conditional l = 8 * l.depth + 5

abbrev pub decreases-node : goal.decreases-node
decreases-node l = 8 * l.depth + 6

abbrev pub invariant-statements-loop-turn : goal.invariant-statements-loop-turn
invariant-statements-loop-turn l = (n : ℕ) → l.count ≡ min n (2 ^ 64 - 1)
    → reader.statements (reader.level l.depth).stmt l.first n [] l.initial.scope l.initial.words
    ≡ reader.statements (reader.level l.depth).stmt l.leading (n - l._turn) l.all l.scope l.words
