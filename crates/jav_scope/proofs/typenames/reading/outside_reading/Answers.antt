use Rattle.std.proofs.Common.{subst}
use Rattle.jav_scope.specs.Entries.{classes_in}
use Rattle.jav_names.specs.DottedNames.{Name}
use Rattle.jav_names.specs.UnitViews.{header_of}
use Rattle.jav_scope.specs.typenames.Readings.{IsCut}
use Rattle.jav_scope.proofs.typenames_lemmas.OutsideRead.{imported-read, written-read}
use Rattle.jav_scope.proofs.typenames.reading.outside_reading.Goals as goal

pub returns-in-Some : goal.returns-in-Some
returns-in-Some c = λ source at.
    let first = c.first_name.result.0.now in
    let rest = c.first_name.result.1.now in
    let parts : IsCut c.args.text.now first rest =
    subst (λ (text : Name). IsCut text first rest) c.as_str.ensures c.first_name.ensures in
    imported-read (classes_in c.args.scope.now) (header_of (c.args.unit, source.unit)) c.args.text.now first rest parts
    (c.requires.outside source at) c.in-Some.full.now (c.in-Some.ensures source at)

pub returns-in-None : goal.returns-in-None
returns-in-None c = λ source at.
    let first = c.first_name.result.0.now in
    let rest = c.first_name.result.1.now in
    let parts : IsCut c.args.text.now first rest =
    subst (λ (text : Name). IsCut text first rest) c.as_str.ensures c.first_name.ensures in
    written-read (classes_in c.args.scope.now) (header_of (c.args.unit, source.unit)) c.args.text.now first rest parts
    (c.requires.outside source at) (c.in-None.ensures source at)
