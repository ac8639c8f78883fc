use Rattle.std.proofs.Common.{◌∙◌, sym}
use Rattle.mol_merge_laws.proofs.Tags.{apart-turned}
use Rattle.mol_unite.proofs.Together.{as-given, as-turned}
use Rattle.mol_unite.proofs.uniting.lesser_first.Goals as goal

pub returns-then-comes_first : goal.returns-then-comes_first
returns-then-comes_first c =
    as-given c.args.base.now c.args.first.now c.args.second.now c.in_turn.result (sym c.comes_first.ensures ∙ c.if-comes_first.true)
    c.in_turn.ensures

pub in_turn-requires-else-comes_first-clause-apart : goal.in_turn-requires-else-comes_first-clause-apart
in_turn-requires-else-comes_first-clause-apart c = apart-turned c.args.first.now c.args.second.now c.requires.apart

pub returns-else-comes_first : goal.returns-else-comes_first
returns-else-comes_first c =
    as-turned c.args.base.now c.args.first.now c.args.second.now c.in_turn-else-comes_first.result (sym c.comes_first.ensures ∙ c.if-comes_first.false)
    c.in_turn-else-comes_first.ensures
