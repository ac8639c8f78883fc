use Rattle.std.proofs.Common.{◌≡◌, ◌++◌, List, ℕ, OnOk, subst}
use Rattle.jav_tree.specs.Lines.{listed}
use Rattle.jav_print.proofs.WrittenTexts.{written_texts}
use Rattle.jav_print.proofs.page.Page.exprs.Goals as goal

pub returns : goal.returns
returns c = subst (λ (texts : List (List ℕ)). OnOk c.trees.result (c.trees.new.self ≡ c.args.self.now ++ listed texts)) (written_texts c.args.items.now) c.trees.ensures
