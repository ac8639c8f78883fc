use Rattle.std.proofs.Common.{◌≡◌, ◌++◌, take}
use Rattle.std.specs.List.{flat_map}
use Rattle.jav_tree.specs.Layout.{member_lines}
use Rattle.jav_tree.specs.Lines.{line_end}
use Rattle.jav_print.proofs.page.Page.members.Given as goal

abbrev pub invariant-loop-each : goal.invariant-loop-each
invariant-loop-each l = l.self ≡ l.initial.self ++ flat_map (λ m. line_end ++ member_lines l.class m) (take l.each-index l.rest)
