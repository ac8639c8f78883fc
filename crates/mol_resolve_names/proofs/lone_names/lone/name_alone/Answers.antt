use Rattle.std.proofs.Common.{refl}
use Rattle.jav_scope.specs.Entries.{view_in}
use Rattle.mol_resolve_names.specs.chains.InMembers.{reader_in}
use Rattle.mol_resolve_readings.specs.locals.Scoped.{locals_of}
use Rattle.mol_resolve_readings.specs.meant.Kept.{view_meant}
use Rattle.mol_resolve_members.proofs.sources_lemmas.Sourced.{sources_viewed}
use Rattle.mol_resolve_names.proofs.lone_names_lemmas.NamesMeant.{found-alone, none-alone, outside-alone}
use Rattle.mol_resolve_names.proofs.lone_names.lone.name_alone.Goals as goal

pub returns-in_ok-value-in-Found : goal.returns-in_ok-value-in-Found
returns-in_ok-value-in-Found c = λ source in_constructor.
    let sources = c.args.finder.now in
    found-alone sources c.args.params.now (reader_in sources c.args.class source c.args.params.now in_constructor)
    (locals_of c.args.locals.now) (record { ids = refl; params = refl }) (view_in sources) (sources_viewed.same_view sources)
    c.args.name.now c.args.at c.in-Found.variable (view_meant c.in_ok-value-in-Found.field-0) c.args.faults.now (c.in-Found.ensures source)
    c.in_ok-value-in-Found.ensures

pub returns-in_ok-outside_name-in-Outside : goal.returns-in_ok-outside_name-in-Outside
returns-in_ok-outside_name-in-Outside c = λ source in_constructor.
    let sources = c.args.finder.now in
    outside-alone sources c.args.params.now (reader_in sources c.args.class source c.args.params.now in_constructor)
    (locals_of c.args.locals.now) (record { ids = refl; params = refl }) (view_in sources) (sources_viewed.same_view sources)
    c.args.name.now c.args.at (view_meant c.in_ok-outside_name-in-Outside.field-0) c.args.faults.now (c.in-Outside.ensures source)
    c.in_ok-outside_name-in-Outside.ensures

pub returns-in-NotFound : goal.returns-in-NotFound
returns-in-NotFound c = λ source in_constructor.
    let sources = c.args.finder.now in
    none-alone sources c.args.params.now (reader_in sources c.args.class source c.args.params.now in_constructor)
    (locals_of c.args.locals.now) (record { ids = refl; params = refl }) (view_in sources) (sources_viewed.same_view sources)
    c.args.name.now c.args.at c.args.faults.now c.note.new.self (c.in-NotFound.ensures source) c.note.ensures
