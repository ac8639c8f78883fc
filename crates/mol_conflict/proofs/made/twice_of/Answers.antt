use Rattle.std.proofs.Common.{◌∙◌, sym}
use Rattle.std.proofs.lemmas.Result.{IfOk-weaker}
use Rattle.mol_conflict.proofs.Making.{held-first, held-second, some-held}
use Rattle.mol_conflict.proofs.made.twice_of.Goals as goal
use Rattle.mol_conflict.specs.Made.{is_later}

pub values_of-requires-clause-first : goal.values_of-requires-clause-first
values_of-requires-clause-first c = some-held c.requires.1

pub values_of-requires-clause-second : goal.values_of-requires-clause-second
values_of-requires-clause-second c = some-held c.requires.0

pub returns-then-is_later : goal.returns-then-is_later
returns-then-is_later c =
    IfOk-weaker c.values_of.result _ _
    (λ kind is. held-second c.args.at.now c.requires
    ((λ i. is_later (sym c.writer.ensures i) (sym c.writer-2.ensures i)) ∙ sym c.is_later.ensures ∙ c.if-is_later.true) is)
    c.values_of.ensures

pub returns : goal.returns
returns c =
    IfOk-weaker c.values_of-2.result _ _
    (λ kind is. held-first c.args.at.now c.requires
    ((λ i. is_later (sym c.writer.ensures i) (sym c.writer-2.ensures i)) ∙ sym c.is_later.ensures ∙ c.if-is_later.false) is)
    c.values_of-2.ensures
