use Rattle.std.proofs.Common.{◌≡◌, ◌++◌, take}
use Rattle.std.specs.List.{flat_map}
use Rattle.jav_print.proofs.Pages.{next_text, size_text}
use Rattle.jav_print.proofs.page.Page.+write.Given as goal

abbrev pub invariant-trees-loop-item : goal.invariant-trees-loop-item
invariant-trees-loop-item l = l.self ≡ l.initial.self ++ flat_map next_text (take l.item-index l.rest)

abbrev pub invariant-sizes-loop-size : goal.invariant-sizes-loop-size
invariant-sizes-loop-size l = l.self ≡ l.initial.self ++ flat_map size_text (take l.size-index l.sizes)
