use Rattle.std.proofs.Common.{◌∙◌, ap}
use Rattle.mol_spell.proofs.units.cells.tail_of.Goals as goal
use Rattle.mol_values_types.specs.declared.words.Notes.{Notes}

pub returns-in-Some : goal.returns-in-Some
returns-in-Some c = c.items.ensures ∙ ap (λ (notes : Notes). notes.tail) c.in-Some.ensures

pub returns-in-None : goal.returns-in-None
returns-in-None c = ap (λ (notes : Notes). notes.tail) c.in-None.ensures
