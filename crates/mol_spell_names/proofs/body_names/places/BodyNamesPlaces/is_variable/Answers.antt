use Rattle.std.proofs.Common.{◌∙◌, Option, is_some, ap}
use Rattle.mol_spell_names.proofs.body_names_lemmas.FoundHere.{variable-found}
use Rattle.mol_spell_names.proofs.body_names.places.BodyNamesPlaces.is_variable.Goals as goal
use Rattle.mol_scope.specs.declared.variables.variable.Variable.{Variable}

pub returns : goal.returns
returns g c = c.is_some.ensures ∙ ap (λ (found : Option Variable). is_some found) c.variable.ensures ∙ variable-found _
