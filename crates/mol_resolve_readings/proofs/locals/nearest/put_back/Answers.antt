use Rattle.std.proofs.Common.{◌∙◌, ℕ, Option, ap}
use Rattle.std.specs.Map.{lookup}
use Rattle.std.specs.Option.{option_flatten}
use Rattle.std.specs.Str.{bytes_eq}
use Rattle.mol_resolve_readings.proofs.locals_lemmas.Found.{put-found}
use Rattle.mol_resolve_readings.proofs.locals.nearest.put_back.Goals as goal

pub returns-in-Some : goal.returns-in-Some
returns-in-Some c = λ asked.
    ap (λ (o : Option (Option ℕ)). option_flatten o) (((c.get_mut.follows.holds c.args.before).3 c.requires).0 asked)
    ∙ put-found (bytes_eq c.args.name.now asked) c.args.before (lookup (bytes_eq asked) c.args.nearest.now.entries)
