use Rattle.std.proofs.Common.{◌≡◌, ◌++◌, List, ℕ, OnOk, subst}
use Rattle.jav_print.proofs.WrittenTexts.{written_text}
use Rattle.jav_print.proofs.page.Page.expr.Goals as goal

pub returns : goal.returns
returns c = subst (λ (text : List ℕ). OnOk c.tree.result (c.tree.new.self ≡ c.args.self.now ++ text)) (written_text c.args.e.now) c.tree.ensures
