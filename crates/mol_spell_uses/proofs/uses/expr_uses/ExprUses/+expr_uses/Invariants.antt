-- Each call goes to a lower expression, or to a function of a lower rank over the same ones.
use Rattle.std.proofs.Common.{◌≡◌, ℕ, ◌+◌, ◌*◌, List, ◌++◌, max, take}
use denote.Param.Weighed.{most}
use Rattle.mol_spell_uses.proofs.uses.expr_uses.ExprUses.+expr_uses.Given as goal
use Rattle.mol_spell_uses.specs.uses.Uses.{all_uses, argument_uses}
use Rattle.mol_values_types.proofs.iexpr.Argument.TheLaws.{the_size as argument_size}
use Rattle.mol_values_types.proofs.iexpr.IExpr.TheLaws.{the_size}
use Rattle.mol_values_types.specs.declared.iexpr.Argument.{Argument}
use Rattle.mol_values_types.specs.declared.iexpr.IExpr.{IExpr}

-- the greatest size of several
abbrev highest : List IExpr → ℕ
highest es = most {X = IExpr} (λ e. the_size e) es

abbrev highest_argument : List Argument → ℕ
highest_argument args = most {X = Argument} (λ arg. argument_size arg) args

abbrev pub decreases-add_expr : goal.decreases-add_expr
decreases-add_expr g l = 4 * the_size l.e.now

abbrev pub decreases-add_two : goal.decreases-add_two
decreases-add_two g l = 4 * max (the_size l.first.now) (the_size l.second.now) + 1

abbrev pub decreases-add_choice : goal.decreases-add_choice
decreases-add_choice g l = 4 * max (the_size l.test.now) (max (the_size l.first.now) (the_size l.second.now)) + 2

abbrev pub decreases-add_cast : goal.decreases-add_cast
decreases-add_cast g l = 4 * the_size l.e.now + 1

abbrev pub decreases-add_test : goal.decreases-add_test
decreases-add_test g l = 4 * the_size l.e.now + 1

abbrev pub decreases-add_call_on : goal.decreases-add_call_on
decreases-add_call_on g l = 4 * max (the_size l.on.now) (highest_argument l.args.now) + 2

abbrev pub decreases-add_outside_on : goal.decreases-add_outside_on
decreases-add_outside_on g l = 4 * max (the_size l.on.now) (highest l.args.now) + 2

abbrev pub decreases-add_static_call : goal.decreases-add_static_call
decreases-add_static_call g l = 4 * highest_argument l.args.now + 2

abbrev pub decreases-add_creation : goal.decreases-add_creation
decreases-add_creation g l = 4 * highest_argument l.args.now + 2

abbrev pub decreases-add_typed : goal.decreases-add_typed
decreases-add_typed g l = 4 * highest l.items.now + 2

abbrev pub decreases-add_all : goal.decreases-add_all
decreases-add_all g l = 4 * highest l.items.now + 1

abbrev pub decreases-add_arguments : goal.decreases-add_arguments
decreases-add_arguments g l = 4 * highest_argument l.args.now + 1

abbrev pub invariant-add_all-loop-item : goal.invariant-add_all-loop-item
invariant-add_all-loop-item g l =
    l.uses ≡ l.initial.uses
    ++ all_uses (g.N.Names.writer l.self.names.now) (g.N.Names.locals l.self.names.now) (take l.item-index l.items)

abbrev pub invariant-add_arguments-loop-arg : goal.invariant-add_arguments-loop-arg
invariant-add_arguments-loop-arg g l =
    l.uses ≡ l.initial.uses
    ++ argument_uses (g.N.Names.writer l.self.names.now) (g.N.Names.locals l.self.names.now) (take l.arg-index l.args)
