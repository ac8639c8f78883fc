use Rattle.std.proofs.Common.{◌∙◌, ℕ, Option, Some, ap}
use Rattle.std.specs.Option.{option_flatten}
use Rattle.std.specs.Str.{bytes_eq}
use Rattle.mol_spell_places.specs.scope_names.Places.{entry_at}
use Rattle.mol_spell_places.proofs.scope_names_lemmas.PlacesPut.{put-found}
use Rattle.mol_spell_places.proofs.scope_names.nearest.put.Goals as goal

pub returns-clause-ok : goal.returns-clause-ok
returns-clause-ok c = λ asked.
    ap (λ (o : Option (Option ℕ)). option_flatten o) (c.in_ok-before.ensures.updates.0 (record c.args.name { now = asked }))
    ∙ put-found (bytes_eq c.args.name.now asked) (Some c.args.place) (entry_at c.args.places.now.entries asked)
