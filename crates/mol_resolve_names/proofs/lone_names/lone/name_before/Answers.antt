use Rattle.std.proofs.Common.{refl}
use Rattle.std.proofs.lemmas.Result.{IfOk-weaker}
use Rattle.jav_scope.specs.Entries.{view_in}
use Rattle.mol_resolve_names.specs.chains.InMembers.{reader_in}
use Rattle.mol_resolve_readings.specs.locals.Scoped.{locals_of}
use Rattle.mol_resolve_readings.specs.meant.Kept.{view_meant, view_part}
use Rattle.mol_resolve_members.proofs.sources_lemmas.Sourced.{sources_viewed}
use Rattle.mol_resolve_names.proofs.lone_names_lemmas.NamesMeant.{found-before, none-before, outside-before}
use Rattle.mol_resolve_names.proofs.lone_names.lone.name_before.Goals as goal

pub returns-in_ok-value-in-Found : goal.returns-in_ok-value-in-Found
returns-in_ok-value-in-Found c = λ source in_constructor follow at begins.
    let sources = c.args.finder.now in
    found-before sources c.args.params.now (reader_in sources c.args.class source c.args.params.now in_constructor)
    (locals_of c.args.locals.now) (record { ids = refl; params = refl }) (view_in sources) (sources_viewed.same_view sources)
    c.args.name.now follow c.in-Found.variable (view_meant c.in_ok-value-in-Found.field-0) (c.in-Found.ensures source)
    c.in_ok-value-in-Found.ensures

pub returns-in-Outside : goal.returns-in-Outside
returns-in-Outside c = IfOk-weaker c.outside.result _ _ (λ value read source in_constructor follow at begins.
    let sources = c.args.finder.now in
    let reader = reader_in sources c.args.class source c.args.params.now in_constructor in
    let locals = locals_of c.args.locals.now in
    outside-before sources c.args.params.now reader locals (record { ids = refl; params = refl }) (view_in sources)
    (sources_viewed.same_view sources) c.args.name.now follow (view_part value) (c.in-Outside.ensures source)
    (read source reader locals follow at) begins) c.outside.ensures

pub returns-in-NotFound : goal.returns-in-NotFound
returns-in-NotFound c = IfOk-weaker c.outside-in-NotFound.result _ _ (λ value read source in_constructor follow at begins.
    let sources = c.args.finder.now in
    let reader = reader_in sources c.args.class source c.args.params.now in_constructor in
    let locals = locals_of c.args.locals.now in
    none-before sources c.args.params.now reader locals (record { ids = refl; params = refl }) (view_in sources)
    (sources_viewed.same_view sources) c.args.name.now follow (view_part value) (c.in-NotFound.ensures source)
    (read source reader locals follow at) begins) c.outside-in-NotFound.ensures
