use Rattle.std.proofs.Common.{◌≡◌, ◌++◌, take}
use Rattle.std.specs.List.{flat_map}
use Rattle.jav_tree.specs.Layout.{import_line}
use Rattle.jav_print.proofs.page.Page.import_lines.Given as goal

abbrev pub invariant-loop-import : goal.invariant-loop-import
invariant-loop-import l = l.self ≡ l.fn.self ++ flat_map import_line (take l.import-index l.imports)
