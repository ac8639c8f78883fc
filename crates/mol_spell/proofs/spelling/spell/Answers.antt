use Rattle.std.proofs.Common.{◌≡◌, map, subst}
use Rattle.std.specs.Prelude.{IfOk}
use Rattle.mol_spell_rules.specs.SpelledUnits.{spelling}
use Rattle.mol_spell.proofs.FilesSpelt.{spelled-once_tidied}
use Rattle.mol_spell.proofs.spelling.spell.Goals as goal
use Rattle.mol_spell.specs.Spelt.{spelled_of}
use Rattle.mol_table_rules.specs.Program.{Program}

pub returns : goal.returns
returns c =
    let spells = λ (program : Program). IfOk c.spell_tidied.result (λ units. map spelled_of units ≡ spelling program) in
    spelled-once_tidied c.spell_tidied.result c.args.table.now c.in_ok-tidied.tidied c.in_ok-tidied.ensures.ok c.in_ok-tidied.ensures.tidied
    (subst spells c.in_ok-index.ensures c.spell_tidied.ensures)
