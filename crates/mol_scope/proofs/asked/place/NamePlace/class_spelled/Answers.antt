use Rattle.std.proofs.Common.{◌∙◌, ap, length, suc, sym}
use Rattle.mol_scope.proofs.asked_lemmas.NamesAnswered.{type-first, variable-first}
use Rattle.mol_scope.proofs.asked_lemmas.PathsSpelled.{spelled-before, spelled_by}
use Rattle.mol_scope.specs.asked.Places.{program_of, reader_of}
use Rattle.mol_resolve_rules.specs.ProgramViews.{program_view}
use Rattle.mol_resolve_rules.specs.Readers.{place_of}
use Rattle.mol_scope.proofs.asked.place.NamePlace.class_spelled.Goals as goal

pub returns-in-Variable : goal.returns-in-Variable
returns-in-Variable c = λ locals names follow at is.
    let place = c.args.self.now in
    let read = variable-first place locals at names.first names.rest _ (c.in-Variable.ensures names.first names.rest is) in
    sym (ap (spelled_by (suc (length names.rest))) read.1)
    ∙ spelled-before (program_view (program_of place)) (place_of (reader_of place) locals) names.first names.rest follow

pub returns-in-Type : goal.returns-in-Type
returns-in-Type c = λ locals names follow at is.
    let place = c.args.self.now in
    let type = type-first place locals at names.first names.rest c.in-Type.first (c.in-Type.ensures names.first names.rest is) in
    c.spelled_by.ensures
    ∙ (λ i. spelled_by (ap length is i) (type i))
    ∙ spelled-before (program_view (program_of place)) (place_of (reader_of place) locals) names.first names.rest follow
