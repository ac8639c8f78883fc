use Rattle.std.proofs.Common.{◌≡◌, ◌++◌, take}
use Rattle.mol_spell_uses.proofs.body_uses.values.add_params.Given as goal
use Rattle.mol_spell_uses.specs.body_uses.PartUses.{params_uses}
use Rattle.mol_spell_rules.specs.Writers.{Writer}

abbrev pub invariant-loop-param : goal.invariant-loop-param
invariant-loop-param l = (writer : Writer) → l.uses ≡ l.initial.uses ++ params_uses writer (take l.param-index l.params)
