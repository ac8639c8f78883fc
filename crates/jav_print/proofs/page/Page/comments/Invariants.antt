use Rattle.std.proofs.Common.{◌≡◌, ◌++◌, take}
use Rattle.std.specs.List.{flat_map}
use Rattle.jav_tree.specs.Lines.{comment_line}
use Rattle.jav_print.proofs.page.Page.comments.Given as goal

abbrev pub invariant-loop-comment : goal.invariant-loop-comment
invariant-loop-comment l = l.self ≡ l.fn.self ++ flat_map (comment_line l.depth) (take l.comment-index l.comments)
