-- Each call goes to a lower expression, or to a function of a lower rank over the same ones.
use Rattle.std.proofs.Common.{◌≡◌, ℕ, ◌+◌, ◌*◌, List, ◌++◌, drop, max}
use denote.Param.Weighed.{most}
use Rattle.mol_faults_mentions.specs.mentions.Parts.{each_argument, each_expr}
use Rattle.mol_faults_mentions.proofs.mentions.expressions.+expr.Given as goal
use Rattle.mol_values_types.proofs.iexpr.Argument.TheLaws.{the_size as argument_size}
use Rattle.mol_values_types.proofs.iexpr.IExpr.TheLaws.{the_size}
use Rattle.mol_values_types.specs.declared.iexpr.Argument.{Argument}
use Rattle.mol_values_types.specs.declared.iexpr.IExpr.{IExpr}

-- the greatest size of several
abbrev highest : List IExpr → ℕ
highest es = most {X = IExpr} (λ e. the_size e) es

abbrev highest_argument : List Argument → ℕ
highest_argument args = most {X = Argument} (λ arg. argument_size arg) args

abbrev pub decreases-add_expr : goal.decreases-add_expr
decreases-add_expr l = 4 * the_size l.e.now

abbrev pub decreases-add_member : goal.decreases-add_member
decreases-add_member l = 4 * the_size l.on.now + 1

abbrev pub decreases-add_call : goal.decreases-add_call
decreases-add_call l = 4 * highest_argument l.args.now + 2

abbrev pub decreases-add_call_on : goal.decreases-add_call_on
decreases-add_call_on l = 4 * max (the_size l.on.now) (highest_argument l.args.now) + 2

abbrev pub decreases-add_outside_on : goal.decreases-add_outside_on
decreases-add_outside_on l = 4 * max (the_size l.on.now) (highest l.args.now) + 2

abbrev pub decreases-add_typed : goal.decreases-add_typed
decreases-add_typed l = 4 * highest l.items.now + 2

abbrev pub decreases-add_two : goal.decreases-add_two
decreases-add_two l = 4 * max (the_size l.first.now) (the_size l.second.now) + 1

abbrev pub decreases-add_choice : goal.decreases-add_choice
decreases-add_choice l = 4 * max (the_size l.test.now) (max (the_size l.first.now) (the_size l.second.now)) + 2

abbrev pub decreases-add_cast : goal.decreases-add_cast
decreases-add_cast l = 4 * the_size l.e.now + 1

abbrev pub decreases-add_test : goal.decreases-add_test
decreases-add_test l = 4 * the_size l.e.now + 1

abbrev pub decreases-add_all : goal.decreases-add_all
decreases-add_all l = 4 * highest l.items.now + 1

abbrev pub decreases-add_arguments : goal.decreases-add_arguments
decreases-add_arguments l = 4 * highest_argument l.args.now + 1

abbrev pub decreases-add_argument : goal.decreases-add_argument
decreases-add_argument l = 4 * argument_size l.arg.now

abbrev pub invariant-add_all-loop-item : goal.invariant-add_all-loop-item
invariant-add_all-loop-item l = l.mentions ++ each_expr (drop l.item-index l.items) ≡ l.initial.mentions ++ each_expr l.items

abbrev pub invariant-add_arguments-loop-arg : goal.invariant-add_arguments-loop-arg
invariant-add_arguments-loop-arg l =
    l.mentions ++ each_argument (drop l.arg-index l.args) ≡ l.initial.mentions ++ each_argument l.args
