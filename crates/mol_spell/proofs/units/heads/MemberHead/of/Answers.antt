use Rattle.std.proofs.Common.{◌∙◌}
use Rattle.mol_spell.proofs.units.heads.MemberHead.of.Goals as goal

pub returns : goal.returns
returns c = λ i. record { front = (c.in_ok-front.ensures ∙ c.front_of.ensures) i; words = (c.in_ok-words.ensures ∙ c.words_of.ensures) i }
