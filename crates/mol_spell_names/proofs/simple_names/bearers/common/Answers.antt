use Rattle.std.proofs.Common.{◌∙◌, ◌&&◌, Some, sym}
use Rattle.mol_spell_names.proofs.simple_names_lemmas.Shared.{common-none, common-same}
use Rattle.mol_spell_names.proofs.simple_names.bearers.common.Goals as goal
use Rattle.mol_spell_names.specs.simple_names.Bearers.{may_be}

pub returns-then-is_same : goal.returns-then-is_same
returns-then-is_same c = λ what.
    common-same c.in-Some-Some.first c.in-Some-Some.second what (sym c.is_same.ensures ∙ c.if-is_same.true)
    ∙ (λ i. may_be (Some (sym c.in-Some-Some.is-0 i)) what && may_be (Some (sym c.in-Some-Some.is-1 i)) what)

pub returns-else-is_same : goal.returns-else-is_same
returns-else-is_same c = λ what.
    common-none c.in-Some-Some.first c.in-Some-Some.second what (sym c.is_same.ensures ∙ c.if-is_same.false)
    ∙ (λ i. may_be (Some (sym c.in-Some-Some.is-0 i)) what && may_be (Some (sym c.in-Some-Some.is-1 i)) what)
