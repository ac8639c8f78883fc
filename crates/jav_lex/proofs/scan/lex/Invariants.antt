use Rattle.std.proofs.Common.{◌-◌}
use Rattle.jav_lex.specs.Token.{all_seen}
use Rattle.jav_lex.proofs.Along.{Along}
use Rattle.jav_lex.proofs.scan.lex.Given as goal

abbrev pub invariant-loop-at : goal.invariant-loop-at
invariant-loop-at l = Along l.bytes l.clean (all_seen l.tokens) l.at

abbrev pub decreases-loop-at : goal.decreases-loop-at
decreases-loop-at l = l.clean - l.at
