use Rattle.std.proofs.Common.{◌<◌, ◌∙◌, List, length, get_or, sym, arith}
use Rattle.std.proofs.lemmas.Option.{slice_get-get_or}
use Rattle.mol_faults_entities.specs.declared.override_faults.declaration.Declaration.{Declaration}
use Rattle.mol_faults_entities.proofs.override_faults_lemmas.PairsAbove.{eq-is}
use Rattle.mol_faults_entities.proofs.override_faults_lemmas.RunsMarked.{run-longer}
use Rattle.mol_faults_entities.proofs.override_faults.runs.run_start.Goals as goal

pub returns-then-eq-clause-run : goal.returns-then-eq-clause-run
returns-then-eq-clause-run c =
    let rows : List Declaration = c.args.rows.now in
    let first : Declaration = get_or rows c.args.start c.index-rows-start.result in
    let row : Declaration = get_or rows c.args.place c.index-rows-place.result in
    let within : c.args.start < length rows = omega (arith, c.requires.start, c.requires.place) in
    run-longer rows c.args.start c.args.place first row (slice_get-get_or rows c.args.start c.index-rows-start.result within)
    (slice_get-get_or rows c.args.place c.index-rows-place.result c.requires.place)
    (eq-is first.method row.method (sym c.eq.ensures ∙ c.if-eq.true)) c.requires.run
