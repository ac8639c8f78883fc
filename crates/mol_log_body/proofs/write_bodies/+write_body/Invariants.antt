use Rattle.std.proofs.Common.{◌≡◌, ◌++◌, map, drop}
use Rattle.mol_log_expr.specs.ExpressionWords.{joined}
use Rattle.mol_log_body.specs.BodyWords.{statement_words}
use Rattle.mol_log_body.proofs.write_bodies.+write_body.Given as goal

abbrev pub invariant-add_stmts-loop-stmt : goal.invariant-add_stmts-loop-stmt
invariant-add_stmts-loop-stmt l = l.words ++ joined (map statement_words (drop l.stmt-index l.stmts))
    ≡ l.initial.words ++ joined (map statement_words l.stmts)
