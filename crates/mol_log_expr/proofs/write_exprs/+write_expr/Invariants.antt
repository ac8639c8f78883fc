use Rattle.std.proofs.Common.{◌≡◌, ◌++◌, map, drop}
use Rattle.mol_log_expr.specs.ExpressionWords.{argument_words, expr_words, joined}
use Rattle.mol_log_expr.proofs.write_exprs.+write_expr.Given as goal

abbrev pub invariant-add_arguments-loop-arg : goal.invariant-add_arguments-loop-arg
invariant-add_arguments-loop-arg l = l.words ++ joined (map argument_words (drop l.arg-index l.args))
    ≡ l.initial.words ++ joined (map argument_words l.args)

abbrev pub invariant-add_exprs-loop-e : goal.invariant-add_exprs-loop-e
invariant-add_exprs-loop-e l = l.words ++ joined (map expr_words (drop l.e-index l.es)) ≡ l.initial.words ++ joined (map expr_words l.es)
