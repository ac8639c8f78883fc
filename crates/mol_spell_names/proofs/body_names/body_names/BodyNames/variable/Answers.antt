use Rattle.std.proofs.Common.{◌∙◌}
use Rattle.jav_scope.specs.Answers.{answered}
use Rattle.jav_names.specs.LookUps.{variable}
use Rattle.mol_spell_places.specs.body_locals.Kept.{locals_of}
use Rattle.mol_spell_names.proofs.body_names_lemmas.PlacesRead.{place-is, view-is}
use Rattle.mol_spell_names.proofs.body_names.body_names.BodyNames.variable.Goals as goal
use Rattle.mol_resolve_rules.specs.ProgramReaders.{class_header}
use Rattle.mol_scope.specs.variables.Keys.{found_in, variable_key}

pub returns : goal.returns
returns g c =
    let place = c.args.self.now in
    let program = place.members.now in
    let imports = g.F.FileNames.imports place.file.now in
    let reads = place-is program imports place.class place.method (locals_of c.args.locals.now) _ _ c.names.ensures place.are_params in
    c.found.ensures (class_header program place.class imports)
    ∙ (λ i. found_in (answered variable_key (variable (view-is program imports place.class place.method i) (reads i) c.args.name.now)))
