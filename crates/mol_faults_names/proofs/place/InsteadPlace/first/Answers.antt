use Rattle.std.proofs.Common.{sym, subst}
use Rattle.jav_names.specs.LookUps.{leftmost}
use Rattle.mol_scope.proofs.asked_lemmas.PlacesRead.{place-is}
use Rattle.mol_scope.specs.asked.Places.{program_of, reader_of}
use Rattle.mol_faults_names.specs.Kept.{locals_at}
use Rattle.mol_scope.specs.first_names.Readings.{IsRead}
use Rattle.mol_scope.specs.declared.first_names.reading.Leftmost.TheVariants as answers
use Rattle.mol_resolve_rules.specs.ProgramViews.{program_view}
use Rattle.mol_resolve_rules.specs.Readers.{place_of}
use Rattle.mol_faults_names.proofs.place.InsteadPlace.first.Goals as goal

pub returns-in-Variable : goal.returns-in-Variable
returns-in-Variable c = λ name rest is.
    let place = c.args.self.now.names.now in
    let view = program_view (program_of place) in
    subst (λ at. IsRead (answers.Variable c.in-Variable.variable) (leftmost view at name rest))
    (place-is place (locals_at c.args.self.now) c.requires.at) (c.in-Variable.ensures name rest is)

pub returns-in-Type : goal.returns-in-Type
returns-in-Type c = λ name rest is.
    let place = c.args.self.now.names.now in
    let view = program_view (program_of place) in
    let locals = locals_at c.args.self.now in
    subst (λ first. IsRead first (leftmost view (place_of (reader_of place) locals) name rest)) (sym c.of.ensures)
    (subst (λ at. IsRead (answers.Type c.in-Type.first) (leftmost view at name rest)) (place-is place locals c.requires.at)
    (c.in-Type.ensures name rest is))
