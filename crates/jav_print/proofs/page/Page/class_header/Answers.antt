use Rattle.std.proofs.Common.{◌≡◌, ◌++◌, codes}
use Rattle.jav_print.specs.Modifiers.{class_header}
use Rattle.jav_print.proofs.FileTexts.{header_done}
use Rattle.jav_print.proofs.ModifierTexts.{on_ok}
use Rattle.jav_print.proofs.page.Page.class_header.Goals as goal

pub returns : goal.returns
returns c = on_ok c.put-3.result (c.put-3.new.self ≡ c.parent.new.self ++ codes " {\n") (c.put-3.new.self ≡ c.args.self.now ++ class_header c.args.class.now)
    (λ last. header_done c.args.class.now c.items.result.now c.items-2.result.now c.as_str.result.now c.args.self.now c.comments.new.self c.modifiers.new.self c.put.new.self c.put-2.new.self c.parent.new.self c.put-3.new.self
    c.items.ensures c.items-2.ensures c.as_str.ensures c.in_ok-comments.ensures c.in_ok-modifiers.ensures c.in_ok-put.ensures c.in_ok-put-2.ensures c.in_ok-parent.ensures last)
    c.put-3.ensures
