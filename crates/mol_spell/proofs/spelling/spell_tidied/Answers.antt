use Rattle.std.proofs.Common.{◌≡◌, ◌∙◌, List, map}
use Rattle.std.proofs.lemmas.Result.{IfOk-weaker}
use Rattle.mol_spell_rules.specs.SpelledUnits.{spelling}
use Rattle.mol_spell.proofs.spelling.spell_tidied.Goals as goal
use Rattle.mol_spell.specs.Spelt.{spelled_of, unit_at}
use Rattle.mol_spell.specs.declared.spelt_unit.SpeltUnit.{SpeltUnit}
use Rattle.mol_spell.specs.keys.Keys.{key_of}

pub returns : goal.returns
returns c =
    let program = c.args.program.now in
    let files = map (unit_at program) (map key_of c.in_ok-keys.keys.items) in
    IfOk-weaker c.units_of.result (λ (units : List SpeltUnit). map spelled_of units ≡ files)
    (λ (units : List SpeltUnit). map spelled_of units ≡ spelling program) (λ units are. are ∙ c.in_ok-keys.ensures) c.units_of.ensures
