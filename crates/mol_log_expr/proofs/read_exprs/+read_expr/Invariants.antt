use Rattle.std.proofs.Common.{◌≡◌, ℕ, [], ◌+◌, ◌-◌, ◌*◌, ◌^◌, min}
use Rattle.mol_log_words.specs.Reader.{repeat}
use Rattle.mol_log_expr.specs.ExpressionReader as reader
use Rattle.mol_log_expr.proofs.read_exprs.+read_expr.Given as goal

abbrev pub decreases-expr : goal.decreases-expr
decreases-expr l = 8 * l.depth

abbrev pub decreases-operand : goal.decreases-operand
decreases-operand l = 8 * l.depth + 1

abbrev pub decreases-argument : goal.decreases-argument
decreases-argument l = 8 * l.depth + 1

abbrev pub decreases-exprs : goal.decreases-exprs
decreases-exprs l = 8 * l.depth + 1

abbrev pub decreases-arguments : goal.decreases-arguments
decreases-arguments l = 8 * l.depth + 2

abbrev pub decreases-unary : goal.decreases-unary
decreases-unary l = 8 * l.depth + 3

abbrev pub decreases-call : goal.decreases-call
decreases-call l = 8 * l.depth + 4

abbrev pub decreases-outside : goal.decreases-outside
decreases-outside l = 8 * l.depth + 4

abbrev pub decreases-items : goal.decreases-items
decreases-items l = 8 * l.depth + 4

abbrev pub decreases-operator : goal.decreases-operator
decreases-operator l = 8 * l.depth + 4

abbrev pub decreases-part : goal.decreases-part
decreases-part l = 8 * l.depth + 4

abbrev pub invariant-arguments-loop-turn : goal.invariant-arguments-loop-turn
invariant-arguments-loop-turn l =
    repeat (reader.argument l.depth (reader.expr l.depth l.scope.locals)) l.count [] l.initial.words
    ≡ repeat (reader.argument l.depth (reader.expr l.depth l.scope.locals)) (l.count - l._turn) l.all l.words

abbrev pub invariant-exprs-loop-turn : goal.invariant-exprs-loop-turn
invariant-exprs-loop-turn l = (n : ℕ) → l.count
    ≡ min n (2 ^ 64 - 1) → repeat (reader.expr l.depth l.scope.locals l.role) n [] l.initial.words
    ≡ repeat (reader.expr l.depth l.scope.locals l.role) (n - l._turn) l.all l.words
