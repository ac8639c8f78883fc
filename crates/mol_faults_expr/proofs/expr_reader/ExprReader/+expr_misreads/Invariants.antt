-- Each call goes to a lower expression, or to a function of a lower rank over the same ones.
use Rattle.std.proofs.Common.{◌≡◌, ℕ, ◌+◌, ◌*◌, List, max, take}
use denote.Param.Weighed.{most}
use Rattle.mol_faults_expr.proofs.expr_reader.ExprReader.+expr_misreads.Given as goal
use Rattle.mol_faults_expr.specs.Noted.{noted_after}
use Rattle.mol_faults_expr.specs.References.{all_references, argument_references}
use Rattle.mol_values_types.proofs.iexpr.Argument.TheLaws.{the_size as argument_size}
use Rattle.mol_values_types.proofs.iexpr.IExpr.TheLaws.{the_size}
use Rattle.mol_values_types.specs.declared.iexpr.Argument.{Argument}
use Rattle.mol_values_types.specs.declared.iexpr.IExpr.{IExpr}

-- the greatest size of several
abbrev highest : List IExpr → ℕ
highest es = most {X = IExpr} (λ e. the_size e) es

abbrev highest_argument : List Argument → ℕ
highest_argument args = most {X = Argument} (λ arg. argument_size arg) args

abbrev pub decreases-expr : goal.decreases-expr
decreases-expr g l = 8 * the_size l.e.now

abbrev pub decreases-before : goal.decreases-before
decreases-before g l = 8 * the_size l.e.now + 1

abbrev pub decreases-receiver : goal.decreases-receiver
decreases-receiver g l = 8 * the_size l.on.now + 2

abbrev pub decreases-value_field : goal.decreases-value_field
decreases-value_field g l = 8 * the_size l.on.now + 2

abbrev pub decreases-outside_field : goal.decreases-outside_field
decreases-outside_field g l = 8 * the_size l.on.now + 2

abbrev pub decreases-field : goal.decreases-field
decreases-field g l = 8 * the_size l.on.now + 3

abbrev pub decreases-received : goal.decreases-received
decreases-received g l = 8 * the_size l.on.now + 3

abbrev pub decreases-outside_field_alone : goal.decreases-outside_field_alone
decreases-outside_field_alone g l = 8 * the_size l.on.now + 3

abbrev pub decreases-field_alone : goal.decreases-field_alone
decreases-field_alone g l = 8 * the_size l.on.now + 4

abbrev pub decreases-note_expr : goal.decreases-note_expr
decreases-note_expr g l = 8 * the_size l.e.now + 1

abbrev pub decreases-all : goal.decreases-all
decreases-all g l = 8 * highest l.items.now + 2

abbrev pub decreases-arguments : goal.decreases-arguments
decreases-arguments g l = 8 * highest_argument l.args.now + 2

abbrev pub decreases-own_call : goal.decreases-own_call
decreases-own_call g l = 8 * highest_argument l.args.now + 3

abbrev pub decreases-static_call : goal.decreases-static_call
decreases-static_call g l = 8 * highest_argument l.args.now + 3

abbrev pub decreases-super_call : goal.decreases-super_call
decreases-super_call g l = 8 * highest_argument l.args.now + 3

abbrev pub decreases-creation : goal.decreases-creation
decreases-creation g l = 8 * highest_argument l.args.now + 3

abbrev pub decreases-outside_call : goal.decreases-outside_call
decreases-outside_call g l = 8 * highest l.args.now + 3

abbrev pub decreases-outside_super_call : goal.decreases-outside_super_call
decreases-outside_super_call g l = 8 * highest l.args.now + 3

abbrev pub decreases-outside_creation : goal.decreases-outside_creation
decreases-outside_creation g l = 8 * highest l.args.now + 3

abbrev pub decreases-new_array : goal.decreases-new_array
decreases-new_array g l = 8 * highest l.sizes.now + 3

abbrev pub decreases-array_of : goal.decreases-array_of
decreases-array_of g l = 8 * highest l.items.now + 3

abbrev pub decreases-braces : goal.decreases-braces
decreases-braces g l = 8 * highest l.items.now + 3

abbrev pub decreases-call_on : goal.decreases-call_on
decreases-call_on g l = 8 * max (the_size l.on.now) (highest_argument l.args.now) + 4

abbrev pub decreases-outside_call_on : goal.decreases-outside_call_on
decreases-outside_call_on g l = 8 * max (the_size l.on.now) (highest l.args.now) + 4

abbrev pub decreases-choice : goal.decreases-choice
decreases-choice g l = 8 * max (the_size l.test.now) (max (the_size l.first.now) (the_size l.second.now)) + 2

abbrev pub decreases-index : goal.decreases-index
decreases-index g l = 8 * max (the_size l.array.now) (the_size l.index.now) + 2

abbrev pub decreases-unary : goal.decreases-unary
decreases-unary g l = 8 * the_size l.operand.now + 2

abbrev pub decreases-cast : goal.decreases-cast
decreases-cast g l = 8 * the_size l.operand.now + 2

abbrev pub decreases-test : goal.decreases-test
decreases-test g l = 8 * the_size l.operand.now + 2

abbrev pub decreases-binary : goal.decreases-binary
decreases-binary g l = 8 * max (the_size l.left.now) (the_size l.right.now) + 2

abbrev pub decreases-assignment : goal.decreases-assignment
decreases-assignment g l = 8 * max (the_size l.left.now) (the_size l.right.now) + 2

abbrev pub invariant-all-loop-item : goal.invariant-all-loop-item
invariant-all-loop-item g l =
    let writer = g.N.Names.writer l.self.names.now in
    l.misreads ≡ noted_after writer l.initial.misreads (all_references writer (g.N.Names.locals l.self.names.now)
    (take l.item-index l.items))

abbrev pub invariant-arguments-loop-arg : goal.invariant-arguments-loop-arg
invariant-arguments-loop-arg g l =
    let writer = g.N.Names.writer l.self.names.now in
    l.misreads ≡ noted_after writer l.initial.misreads (argument_references writer (g.N.Names.locals l.self.names.now)
    (take l.arg-index l.args))
