use Rattle.std.proofs.Common.{◌≡◌, ◌++◌, map, drop}
use Rattle.mol_log_expr.specs.ExpressionWords.{joined}
use Rattle.mol_log_body.specs.BodyWords.{declarator_words}
use Rattle.mol_log_body.proofs.write_bodies.add_declarators.Given as goal

abbrev pub invariant-loop-name : goal.invariant-loop-name
invariant-loop-name l = l.words ++ joined (map declarator_words (drop l.name-index l.names))
    ≡ l.initial.words ++ joined (map declarator_words l.names)
