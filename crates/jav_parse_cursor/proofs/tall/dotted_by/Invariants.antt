use Rattle.std.proofs.Common.{◌≡◌, ◌+◌, ◌/◌, ◌<◌, ◌^◌, length}
use Rattle.jav_lex.specs.Token.{all_seen}
use Rattle.jav_parse_cursor.specs.Nodes.{dotted_by}
use Rattle.jav_parse_cursor.proofs.tall.dotted_by.Given as goal

abbrev pub invariant-loop-after : goal.invariant-loop-after
invariant-loop-after l = record {
  same : dotted_by l.left (all_seen l.after) ≡ dotted_by l.fn.first (all_seen l.rest);
  small : l.left.height + length l.after < 2 ^ 63;
  height : l.left.height + length l.after / 2 ≡ l.fn.first.height + length l.rest / 2;
}

abbrev pub decreases-loop-after : goal.decreases-loop-after
decreases-loop-after l = length l.after
