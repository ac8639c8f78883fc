use Rattle.std.proofs.Common.{◌≡◌, ◌++◌, codes, take}
use Rattle.std.specs.List.{flat_map}
use Rattle.jav_tree.specs.StatementText.{declarator_text}
use Rattle.jav_print.proofs.page.Page.declarators.Given as goal

abbrev pub invariant-loop-each : goal.invariant-loop-each
invariant-loop-each l = l.self ≡ l.initial.self ++ flat_map (λ d. codes ", " ++ declarator_text d) (take l.each-index l.rest)
