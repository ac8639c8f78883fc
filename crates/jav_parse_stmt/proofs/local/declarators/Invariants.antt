use Rattle.std.proofs.Common.{◌≡◌, map}
use Rattle.jav_parse_stmt.specs.LocalRules.{declarator}
use Rattle.jav_parse_stmt.proofs.local.declarators.Given as goal

abbrev pub invariant-loop-name : goal.invariant-loop-name
invariant-loop-name l = l.all ≡ map declarator l.yielded
