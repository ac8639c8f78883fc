use Rattle.std.proofs.Common.{◌∙◌, ◌++◌, sym, ap}
use Rattle.std.specs.Option.{option_to_list}
use Rattle.mol_spell_names.proofs.simple_names_lemmas.ImportSets.{put-in, set_of}
use Rattle.mol_spell_names.proofs.simple_names.imports.insert.Goals as goal

pub returns-in_ok-insert : goal.returns-in_ok-insert
returns-in_ok-insert c = λ items was.
    put-in items c.in-Some.text _ _ c.in_ok-insert.ensures.keys was
    ∙ ap (λ text. set_of (option_to_list text ++ items)) (sym c.in-Some.is)
