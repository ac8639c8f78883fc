use Rattle.std.proofs.Common.{◌∙◌, map, sym, ap}
use Rattle.std.proofs.lemmas.Result.{IfOk-weaker}
use Rattle.mol_spell_rules.specs.SpelledUnits.{units_of}
use Rattle.mol_spell.proofs.FilesSpelt.{files-spelt}
use Rattle.mol_spell.proofs.spelling.file_keys.Goals as goal
use Rattle.mol_spell.specs.keys.Keys.{key_of}

pub returns : goal.returns
returns c =
    let program = c.args.program.now in
    IfOk-weaker c.unit_keys.result _ _ (λ keys are.
    files-spelt program (map key_of keys.items) are ∙ ap units_of (sym c.requires)) (rw c.table.ensures at c.unit_keys.ensures)
