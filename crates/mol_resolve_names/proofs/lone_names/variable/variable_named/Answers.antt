use Rattle.std.proofs.Common.{◌∙◌, ◌<◌, List, Some, length, refl, sym, ap, subst}
use Rattle.std.proofs.lemmas.Option.{slice_get_read}
use Rattle.jav_scope.specs.Entries.{view_in}
use Rattle.jav_names.specs.seen.Kept.{view_type}
use Rattle.jav_names.specs.UnitViews.{place_in}
use Rattle.mol_resolve_names.proofs.chains_lemmas.ParameterPlaces.{first-named}
use Rattle.mol_resolve_names.specs.chains.InMembers.{names_of_params}
use Rattle.mol_resolve_readings.specs.locals.Scoped.{locals_of}
use Rattle.mol_resolve_readings.specs.declared.locals.local.Local.{Local as Kept}
use Rattle.mol_resolve_names.proofs.lone_names_lemmas.VariablesNamed.{field-answered, local-answered, local-typed, nothing-answered, outside-answered, parameter-answered}
use Rattle.mol_resolve_names.proofs.lone_names.variable.variable_named.Goals as goal
use Rattle.mol_resolve_rules.specs.Locals.{names_in_scope}

pub returns-in-Some : goal.returns-in-Some
returns-in-Some c = λ source.
    let locals = locals_of c.args.locals.now in
    let declared = c.declared-declared.result.now in
    let number = c.in-Some.number in
    let item = c.index-declared-number.result in
    local-answered c.args.finder.now c.args.params.now locals (view_in c.args.finder.now)
    (place_in (c.args.class, source.unit) (names_in_scope locals) (names_of_params c.args.params.now)) c.args.name.now
    number _ c.in-Some.ensures.is
    (local-typed c.args.locals.now declared number item c.declared-declared.ensures
    (subst (λ (all : List Kept). number < length all) (sym c.declared-declared.ensures) (c.in-Some.ensures.inside number refl))
    c.index-declared-number.is ∙ ap (λ (local : Kept). Some (view_type local.ty)) c.index-declared-number.is)

pub returns-in-Some-place_of : goal.returns-in-Some-place_of
returns-in-Some-place_of c = λ source.
    let locals = locals_of c.args.locals.now in
    let params = c.args.params.now in
    parameter-answered c.args.finder.now params locals (view_in c.args.finder.now)
    (place_in (c.args.class, source.unit) (names_in_scope locals) (names_of_params params)) c.args.name.now c.in_default.ensures.is
    c.in-Some-place_of.place _ (c.in-Some-place_of.ensures.is ∙ first-named c.args.name.now params)
    (slice_get_read params (length params) c.in-Some-place_of.place c.index-params-place.result refl c.in-Some-place_of.ensures.inside
    c.index-params-place.is)

pub returns-in-Found : goal.returns-in-Found
returns-in-Found c = λ source.
    let locals = locals_of c.args.locals.now in
    let params = c.args.params.now in
    field-answered c.args.finder.now params locals (view_in c.args.finder.now)
    (place_in (c.args.class, source.unit) (names_in_scope locals) (names_of_params params)) c.args.name.now c.in_default.ensures.is
    (c.in_default-place_of.ensures.is ∙ first-named c.args.name.now params) c.in-Found.field c.in-Found.ensures

pub returns-in-Outside : goal.returns-in-Outside
returns-in-Outside c = λ source.
    let locals = locals_of c.args.locals.now in
    let params = c.args.params.now in
    outside-answered c.args.finder.now params locals (view_in c.args.finder.now)
    (place_in (c.args.class, source.unit) (names_in_scope locals) (names_of_params params)) c.args.name.now c.in_default.ensures.is
    (c.in_default-place_of.ensures.is ∙ first-named c.args.name.now params) c.in-Outside.ensures

pub returns-in-NotFound : goal.returns-in-NotFound
returns-in-NotFound c = λ source.
    let locals = locals_of c.args.locals.now in
    let params = c.args.params.now in
    nothing-answered c.args.finder.now params locals (view_in c.args.finder.now)
    (place_in (c.args.class, source.unit) (names_in_scope locals) (names_of_params params)) c.args.name.now c.in_default.ensures.is
    (c.in_default-place_of.ensures.is ∙ first-named c.args.name.now params) c.in-NotFound.ensures
