use Rattle.std.specs.Prelude.{◌||◌}
use Rattle.std.proofs.Common.{ap, sym, ◌∙◌}
use Rattle.mol_base.specs.Lexical.Names.{is_word_literal}
use Rattle.mol_base.proofs.IsReserved.{is_reserved-split}
use Rattle.mol_base.proofs.reserved.is_reserved.Goals as goal

pub returns-then-is_keyword : goal.returns-then-is_keyword
returns-then-is_keyword c =
    c.if-is_keyword.true ∙ sym (is_reserved-split c.args.name.now ∙ ap (λ b. b || is_word_literal c.args.name.now) (sym c.is_keyword.ensures ∙ c.if-is_keyword.true))

pub returns-else-is_keyword : goal.returns-else-is_keyword
returns-else-is_keyword c =
    c.is_word_literal.ensures ∙ sym (is_reserved-split c.args.name.now ∙ ap (λ b. b || is_word_literal c.args.name.now) (sym c.is_keyword.ensures ∙ c.if-is_keyword.false))
