use Rattle.std.proofs.Common.{◌∙◌, sym}
use Rattle.mol_table_numbers.specs.Agreement.{AgreeAt}
use Rattle.mol_table_numbers.proofs.Agreeing.{all_slots}
use Rattle.mol_table_numbers.proofs.sameness.agree_if_living.Goals as goal

pub returns : goal.returns
returns c =
    let here = sym c.is_living_entity.ensures ∙ c.if-not-is_living_entity.false in
    let there = sym c.is_living_entity-2.ensures ∙ c.if-not-is_living_entity-2.false in (
      λ is. record {
        living = λ _. there;
        agree = λ _ slot. all_slots (AgreeAt c.args.one.now c.args.other.now c.args.id.now) (c.agree.ensures.0 is) slot;
      },
      λ agree. c.agree.ensures.1 (λ k d within. agree.agree here _),
    )
