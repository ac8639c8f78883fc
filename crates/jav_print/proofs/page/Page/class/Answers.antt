use Rattle.std.proofs.Common.{◌≡◌, ◌++◌, codes}
use Rattle.jav_tree.specs.Layout.{class_text}
use Rattle.jav_print.proofs.FileTexts.{class_done}
use Rattle.jav_print.proofs.ModifierTexts.{on_ok}
use Rattle.jav_print.proofs.page.Page.class.Goals as goal

pub returns : goal.returns
returns c = on_ok c.put.result (c.put.new.self ≡ c.last_comments.new.self ++ codes "}\n") (c.put.new.self ≡ c.args.self.now ++ class_text c.args.class.now)
    (λ last. class_done c.args.class.now c.items.result.now c.items-2.result.now c.items-3.result.now c.args.self.now c.class_header.new.self c.members.new.self c.last_comments.new.self c.put.new.self
    c.items.ensures c.items-2.ensures c.items-3.ensures c.in_ok-class_header.ensures c.in_ok-members.ensures c.in_ok-last_comments.ensures last)
    c.put.ensures
