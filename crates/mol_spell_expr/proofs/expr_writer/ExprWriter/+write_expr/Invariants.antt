-- Each call goes to a lower expression, or to a function of a lower rank over the same ones.
use Rattle.std.proofs.Common.{◌≡◌, ℕ, ◌+◌, ◌*◌, List, map, max, take}
use denote.Param.Weighed.{most}
use Rattle.mol_values_types.proofs.iexpr.Argument.TheLaws.{the_size as argument_size}
use Rattle.mol_values_types.proofs.iexpr.IExpr.TheLaws.{the_size}
use Rattle.mol_values_types.specs.declared.iexpr.Argument.{Argument}
use Rattle.mol_values_types.specs.declared.iexpr.IExpr.{IExpr}
use Rattle.mol_spell_expr.proofs.expr_writer.ExprWriter.+write_expr.Given as goal
use Rattle.mol_spell_expr.specs.Parts.{argument_tree, tree_of}

-- the greatest size of several
abbrev highest : List IExpr → ℕ
highest es = most {X = IExpr} (λ e. the_size e) es

abbrev highest_argument : List Argument → ℕ
highest_argument args = most {X = Argument} (λ arg. argument_size arg) args

abbrev pub decreases-expr : goal.decreases-expr
decreases-expr g l = 4 * the_size l.e.now

abbrev pub decreases-operand : goal.decreases-operand
decreases-operand g l = 4 * the_size l.e.now + 1

abbrev pub decreases-exprs : goal.decreases-exprs
decreases-exprs g l = 4 * highest l.items.now + 1

abbrev pub decreases-arguments : goal.decreases-arguments
decreases-arguments g l = 4 * highest_argument l.args.now + 1

abbrev pub decreases-listed : goal.decreases-listed
decreases-listed g l = 4 * highest l.items.now + 2

abbrev pub decreases-called : goal.decreases-called
decreases-called g l = 4 * highest_argument l.args.now + 2

abbrev pub decreases-unary : goal.decreases-unary
decreases-unary g l = 4 * the_size l.operand.now + 2

abbrev pub decreases-field_on : goal.decreases-field_on
decreases-field_on g l = 4 * the_size l.on.now + 3

abbrev pub decreases-binary : goal.decreases-binary
decreases-binary g l = 4 * max (the_size l.first.now) (the_size l.second.now) + 2

abbrev pub decreases-choice : goal.decreases-choice
decreases-choice g l = 4 * max (the_size l.test.now) (max (the_size l.first.now) (the_size l.second.now)) + 2

abbrev pub decreases-method_on : goal.decreases-method_on
decreases-method_on g l = 4 * max (the_size l.on.now) (highest_argument l.args.now) + 3

abbrev pub decreases-outside_on : goal.decreases-outside_on
decreases-outside_on g l = 4 * max (the_size l.on.now) (highest l.args.now) + 2

abbrev pub invariant-exprs-loop-item : goal.invariant-exprs-loop-item
invariant-exprs-loop-item g l =
    l.trees ≡ map (tree_of (g.N.Names.writer l.self.names.now) (g.N.Names.locals l.self.names.now)) (take l.item-index l.items)

abbrev pub invariant-arguments-loop-arg : goal.invariant-arguments-loop-arg
invariant-arguments-loop-arg g l =
    l.trees ≡ map (argument_tree (g.N.Names.writer l.self.names.now) (g.N.Names.locals l.self.names.now)) (take l.arg-index l.args)
