use Rattle.std.proofs.Common.{◌∙◌, ◌&&◌, Some, ap}
use Rattle.mol_spell_names.proofs.simple_names.bearers.kept_at.Goals as goal
use Rattle.mol_spell_names.specs.simple_names.Bearers.{may_be}

pub returns-in-Some : goal.returns-in-Some
returns-in-Some c = λ what.
    c.common.ensures what ∙ ap (λ found. may_be found what && may_be (Some c.args.bearer) what) c.in-Some.ensures

pub returns-in-None : goal.returns-in-None
returns-in-None c = λ what. ap (λ found. may_be found what && may_be (Some c.args.bearer) what) c.in-None.ensures
