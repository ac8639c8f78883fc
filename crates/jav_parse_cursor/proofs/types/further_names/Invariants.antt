use Rattle.std.proofs.Common.{◌≡◌, ◌-◌, [], ◌∷◌, List}
use Rattle.mol_base.specs.Token.{Token}
use Rattle.jav_lex.specs.Token.{seen}
use Rattle.jav_parse_cursor.specs.TypeRules.{further_names}
use Rattle.jav_parse_cursor.proofs.types.further_names.Given as goal

abbrev pub invariant-loop-turn : goal.invariant-loop-turn
invariant-loop-turn l = (names : List Token) × (further_names l.fn.limits.turns (seen l.first ∷ []) l.fn.tokens ≡ further_names (l._turn-end - l._turn) names l.tokens)
