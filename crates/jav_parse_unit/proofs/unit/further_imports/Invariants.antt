use Rattle.std.proofs.Common.{◌≡◌, ◌-◌, ◌≤◌, ◌<◌, Some, []}
use Rattle.jav_parse_unit.specs.UnitRules.{further_imports, no_imports}
use Rattle.jav_parse_unit.proofs.unit.further_imports.Given as goal

abbrev pub invariant-loop-turn : goal.invariant-loop-turn
invariant-loop-turn l = further_imports l.limits l.limits.turns (no_imports l.fn.before) l.fn.tokens ≡ further_imports l.limits (l._turn-end - l._turn) (record { names = l.names; notes = l.notes }) l.tokens
