use Rattle.std.proofs.Common.{◌∙◌, ℕ, Option, ap}
use Rattle.std.specs.Option.{option_flatten}
use Rattle.std.specs.Str.{bytes_eq}
use Rattle.mol_spell_places.specs.scope_names.Places.{entry_at}
use Rattle.mol_spell_places.proofs.scope_names_lemmas.PlacesPut.{put-found}
use Rattle.mol_spell_places.proofs.scope_names.nearest.put_back.Goals as goal

pub returns-in-Some : goal.returns-in-Some
returns-in-Some c = λ asked.
    ap (λ (o : Option (Option ℕ)). option_flatten o)
    (((c.get_mut.follows.holds c.args.before).3 c.requires).0 (record c.args.name { now = asked }))
    ∙ put-found (bytes_eq c.args.name.now asked) c.args.before (entry_at c.args.places.now.entries asked)
