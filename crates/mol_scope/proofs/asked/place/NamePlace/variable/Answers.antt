use Rattle.std.proofs.Common.{◌∙◌}
use Rattle.mol_scope.proofs.asked_lemmas.NamesAnswered.{field-is, local-is, param-is}
use Rattle.mol_scope.proofs.asked.place.NamePlace.variable.Goals as goal

pub returns-in-Local : goal.returns-in-Local
returns-in-Local c = λ locals read at is. c.local.ensures ∙ local-is c.args.self.now locals at c.in-Local.place read (is ∙ c.in-Local.is)

pub returns-in-Param : goal.returns-in-Param
returns-in-Param c = λ locals read at is. c.param.ensures ∙ param-is c.args.self.now locals at c.in-Param.place read (is ∙ c.in-Param.is)

pub returns-in-Field : goal.returns-in-Field
returns-in-Field c = λ locals read at is. field-is c.args.self.now locals at c.in-Field.field read (is ∙ c.in-Field.is)
