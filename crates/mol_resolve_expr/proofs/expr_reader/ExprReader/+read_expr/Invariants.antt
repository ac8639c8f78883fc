-- Each call goes to a lower expression, or to a function of a lower rank over the same ones.
use Rattle.std.proofs.Common.{ℕ, ◌+◌, ◌*◌, List, take, max}
use denote.Param.Weighed.{most}
use Rattle.jav_tree.proofs.expr.Expr.TheLaws.{the_size}
use Rattle.jav_tree.specs.declared.expr.Expr.{Expr}
use Rattle.mol_resolve_expr.specs.Parts.{all_of}
use Rattle.mol_resolve_expr.proofs.expr_reader.ExprReader.+read_expr.Given as goal
use Rattle.mol_resolve_readings.specs.locals.Scoped.{locals_of}
use Rattle.mol_resolve_readings.specs.reads.Reads.{Reads}

-- the greatest size of several
abbrev highest : List Expr → ℕ
highest es = most {X = Expr} (λ e. the_size e) es

abbrev pub decreases-value : goal.decreases-value
decreases-value g l = 4 * the_size l.e.now

abbrev pub decreases-unary : goal.decreases-unary
decreases-unary g l = 4 * the_size l.operand.now + 1

abbrev pub decreases-binary : goal.decreases-binary
decreases-binary g l = 4 * max (the_size l.first.now) (the_size l.second.now) + 1

abbrev pub decreases-choice : goal.decreases-choice
decreases-choice g l = 4 * max (the_size l.test.now) (max (the_size l.first.now) (the_size l.second.now)) + 1

abbrev pub decreases-all : goal.decreases-all
decreases-all g l = 4 * highest l.items.now + 1

abbrev pub decreases-listed : goal.decreases-listed
decreases-listed g l = 4 * highest l.items.now + 2

abbrev pub decreases-dot : goal.decreases-dot
decreases-dot g l = 4 * the_size l.on.now + 1

abbrev pub decreases-call_on : goal.decreases-call_on
decreases-call_on g l = 4 * max (the_size l.on.now) (highest l.args.now) + 2

abbrev pub decreases-call : goal.decreases-call
decreases-call g l = 4 * max (the_size l.on.now) (highest l.args.now) + 3

abbrev pub invariant-all-loop-item : goal.invariant-all-loop-item
invariant-all-loop-item g l =
    Reads (all_of (g.N.Names.reader l.self.names.now) (locals_of l.self.locals.now) (take l.item-index l.items)) l.values l.initial.faults l.faults
