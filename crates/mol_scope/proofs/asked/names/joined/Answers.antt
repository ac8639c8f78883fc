use Rattle.std.proofs.Common.{Some, ap}
use Rattle.mol_scope.proofs.asked_lemmas.NamesAnswered.{joined-is}
use Rattle.mol_spell_rules.specs.references.References.{outside_target}
use Rattle.mol_scope.proofs.asked.names.joined.Goals as goal

pub returns : goal.returns
returns c = ap (λ text. Some (outside_target text)) (joined-is c.args.front.now c.args.rest)
