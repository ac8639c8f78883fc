use Rattle.std.proofs.Common.{◌≡◌, ◌∙◌, ap, sym, Result, Ok, Err, IfOk}
use Rattle.jav_tree.specs.declared.unit.Unit.{Unit as Source}
use Rattle.jav_tree.specs.Layout.{unit_text}
use Rattle.jav_tree.specs.Parens.{unit_without_parens}
use Rattle.jav_tree.proofs.PrintedUnits.{unit_without_twice, unit_without_text}
use Rattle.jav_tree.proofs.unit.Unit.drop_parens.Goals as goal

settled_ok : {E : Type 0} (u : Source) (r : Result Source E) → IfOk r (λ b. b ≡ unit_without_parens u) → IfOk r (λ b. unit_without_parens b ≡ b)
settled_ok u (Ok b) e = ap unit_without_parens e ∙ unit_without_twice u ∙ sym e
settled_ok u (Err e) h = h

layout_ok : {E : Type 0} (u : Source) (r : Result Source E) → IfOk r (λ b. b ≡ unit_without_parens u) → IfOk r (λ b. unit_text b ≡ unit_text u)
layout_ok u (Ok b) e = ap unit_text e ∙ unit_without_text u
layout_ok u (Err e) h = h

pub returns-clause-settled : goal.returns-clause-settled
returns-clause-settled c = settled_ok c.args.self.now _ c.without_parens.ensures

pub returns-clause-layout : goal.returns-clause-layout
returns-clause-layout c = layout_ok c.args.self.now _ c.without_parens.ensures
