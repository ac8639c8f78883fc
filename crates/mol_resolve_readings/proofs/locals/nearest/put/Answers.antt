use Rattle.std.proofs.Common.{◌∙◌, ℕ, Option, Some, ap}
use Rattle.std.specs.Map.{lookup}
use Rattle.std.specs.Option.{option_flatten}
use Rattle.std.specs.Str.{bytes_eq}
use Rattle.mol_resolve_readings.proofs.locals_lemmas.Found.{put-found}
use Rattle.mol_resolve_readings.proofs.locals.nearest.put.Goals as goal

pub returns-clause-ok : goal.returns-clause-ok
returns-clause-ok c = λ asked.
    ap (λ (o : Option (Option ℕ)). option_flatten o) (c.in_ok-before.ensures.updates.0 asked)
    ∙ put-found (bytes_eq c.args.name asked) (Some c.args.number) (lookup (bytes_eq asked) c.args.nearest.now.entries)
