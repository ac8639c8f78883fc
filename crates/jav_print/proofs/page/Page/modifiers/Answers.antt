use Rattle.std.proofs.Common.{◌≡◌, ◌++◌, codes}
use Rattle.jav_tree.specs.Layout.{words_text}
use Rattle.jav_print.specs.Modifiers.{modifier_text, with_kept}
use Rattle.jav_print.proofs.ModifierTexts.{modifiers_done, on_ok}
use Rattle.jav_print.proofs.page.Page.modifiers.Goals as goal

pub returns : goal.returns
returns c = on_ok c.modifier-8.result (c.modifier-8.new.self ≡ c.modifier-7.new.self ++ modifier_text c.has-6.result (codes "volatile ")) (c.modifier-8.new.self ≡ c.args.self.now ++ words_text (with_kept c.args.is_static c.args.is_abstract c.args.words.now))
    (λ last. modifiers_done c.args.is_static c.args.is_abstract c.args.words.now c.has.result c.has-2.result c.has-3.result c.stands.result c.stands-2.result c.has-4.result c.has-5.result c.has-6.result c.args.self.now c.modifier.new.self c.modifier-2.new.self c.modifier-3.new.self c.modifier-4.new.self c.modifier-5.new.self c.modifier-6.new.self c.modifier-7.new.self c.modifier-8.new.self
    c.has.ensures c.has-2.ensures c.has-3.ensures c.stands.ensures c.stands-2.ensures c.has-4.ensures c.has-5.ensures c.has-6.ensures
    c.in_ok-modifier.ensures c.in_ok-modifier-2.ensures c.in_ok-modifier-3.ensures c.in_ok-modifier-4.ensures c.in_ok-modifier-5.ensures c.in_ok-modifier-6.ensures c.in_ok-modifier-7.ensures last)
    c.modifier-8.ensures
