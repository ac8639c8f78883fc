use Rattle.std.proofs.Common.{◌∙◌}
use Rattle.mol_spell.proofs.units.class_parts.ClassHead.of.Goals as goal

pub returns : goal.returns
returns c = λ i. record {
  front = (c.in_ok-front.ensures ∙ c.front_of.ensures) i;
  words = (c.in_ok-words.ensures ∙ c.words_of.ensures) i;
  name = (c.in_ok-name.ensures ∙ c.name_of.ensures) i;
  tail = (c.in_ok-tail.ensures ∙ c.tail_of.ensures) i;
}
