use Rattle.std.proofs.Common.{◌≡◌, ◌++◌, ◌∷◌, length, string_bytes}
use Rattle.jav_lex.specs.Token.{seen, all_seen}
use Rattle.jav_parse_cursor.specs.Nodes.{text_of}
use Rattle.jav_parse_cursor.proofs.types.Names.joined.Given as goal

abbrev pub invariant-loop-after : goal.invariant-loop-after
invariant-loop-after l = string_bytes l.text ++ text_of (all_seen l.after) ≡ text_of l.self

abbrev pub decreases-loop-after : goal.decreases-loop-after
decreases-loop-after l = length l.after
