use Rattle.std.proofs.Common.{◌≡◌, ◌-◌, ◌≤◌, ◌<◌, Some, []}
use Rattle.jav_parse_unit.specs.WordRules.{words, fit_class, no_words}
use Rattle.jav_parse_unit.proofs.words.class_words.Given as goal

abbrev pub invariant-loop-turn : goal.invariant-loop-turn
invariant-loop-turn l = words fit_class l.fn.limits.turns no_words l.fn.tokens ≡ words fit_class (l._turn-end - l._turn) l.all l.tokens
