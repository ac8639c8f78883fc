use Rattle.std.proofs.Common.{sym, ◌∙◌, ap}
use Rattle.std.specs.Prelude.{◌==◌}
use Rattle.std.specs.List.{position}
use Rattle.std.proofs.lemmas.Option.{none-some}
use Rattle.mol_base.proofs.Pieces.{position-front, parts_at, joined_at}
use Rattle.mol_base.proofs.split.split_at_byte.Goals as goal

pub returns-in-Some-clause-only : goal.returns-in-Some-clause-only
returns-in-Some-clause-only c = λ front back lacks is. parts_at c.args.byte front back c.args.bytes.now c.in-Some.at lacks is c.in-Some.ensures.place

pub returns-in-None-clause-only : goal.returns-in-None-clause-only
returns-in-None-clause-only c = λ front back lacks is. absurd (none-some _ (c.in-None.ensures.place ∙ ap (position (λ b. b == c.args.byte)) (sym is) ∙ position-front c.args.byte front back lacks))

pub returns-in-Some-clause-parts : goal.returns-in-Some-clause-parts
returns-in-Some-clause-parts c = joined_at c.args.byte c.args.bytes.now c.in-Some.at c.in-Some.ensures.place
