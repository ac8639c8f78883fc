use Rattle.std.proofs.Common.{◌≡◌, ◌++◌}
use Rattle.jav_tree.specs.Layout.{class_text, unit_text}
use Rattle.jav_print.proofs.FileTexts.{unit_done}
use Rattle.jav_print.proofs.ModifierTexts.{on_ok}
use Rattle.jav_print.proofs.page.Page.unit.Goals as goal

pub returns : goal.returns
returns c = on_ok c.class.result (c.class.new.self ≡ c.imports.new.self ++ class_text c.args.unit.now.class) (c.class.new.self ≡ c.args.self.now ++ unit_text c.args.unit.now)
    (λ last. unit_done c.args.unit.now c.items.result.now c.as_str.result.now c.items-2.result.now c.args.self.now c.comments.new.self c.put.new.self c.put-2.new.self c.put-3.new.self c.imports.new.self c.class.new.self
    c.items.ensures c.as_str.ensures c.items-2.ensures c.in_ok-comments.ensures c.in_ok-put.ensures c.in_ok-put-2.ensures c.in_ok-put-3.ensures c.in_ok-imports.ensures last)
    c.class.ensures
