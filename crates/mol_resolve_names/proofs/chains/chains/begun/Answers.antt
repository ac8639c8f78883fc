use Rattle.std.proofs.Common.{◌≡◌, ◌∙◌, ◌||◌, ℕ, Bool, List, ◌∷◌, suc, length, get_or, is_some, sym, ap}
use Rattle.std.specs.List.{position}
use Rattle.jav_scope.specs.Entries.{view_in}
use Rattle.jav_names.specs.DottedNames.{Name, Names}
use Rattle.jav_names.specs.LookUps.{first_place, last_place}
use Rattle.jav_names.specs.UnitViews.{place_in}
use Rattle.mol_resolve_names.proofs.chains_lemmas.ChainsBegun.{declared-begun, undeclared-begun}
use Rattle.mol_resolve_names.proofs.chains_lemmas.LocalsNamed.{some-local}
use Rattle.mol_resolve_names.proofs.chains_lemmas.ParameterPlaces.{first-named}
use Rattle.mol_resolve_names.proofs.chains.chains.begun.Goals as goal
use Rattle.mol_resolve_names.specs.chains.InMembers.{has_name, names_of_params}
use Rattle.mol_resolve_names.specs.declared.chains.parameter.Parameter.{Parameter}
use Rattle.mol_resolve_readings.specs.locals.Scoped.{locals_of, nearest_local}
use Rattle.mol_resolve_readings.specs.reads.Chains.{chain_by}
use Rattle.mol_resolve_rules.specs.Locals.{Locals, names_in_scope}

first-is : (names : Names) (item first : Name) (rest : Names) → item ≡ get_or names 0 item → names ≡ first ∷ rest → item ≡ first
first-is names item first rest at is = at ∙ ap (λ (names : Names). get_or names 0 item) is

declared-is : (locals : Locals ℕ) (params : List Parameter) (item first : Name) (b : Bool) → item ≡ first
    → b ≡ (is_some (nearest_local locals item) || is_some (position (has_name item) params))
    → (is_some (last_place first (names_in_scope locals)) || is_some (first_place first (names_of_params params))) ≡ b
declared-is locals params item first b same is =
    ap (λ (name : Name). is_some (last_place name (names_in_scope locals)) || is_some (first_place name (names_of_params params))) (sym same)
    ∙ (λ i. sym (some-local locals item) i || is_some (sym (first-named item params) i)) ∙ sym is

pub returns-then-is_declared : goal.returns-then-is_declared
returns-then-is_declared c = λ source first rest at is.
    let locals = locals_of c.args.locals.now in
    let params = c.args.params.now in
    let item = c.first-item.result in
    let place = place_in (c.args.unit, source.unit) (names_in_scope locals) (names_of_params params) in
    let same = first-is c.args.names.now item first rest c.first-item.is is in
    declared-begun (view_in c.args.scope.now) place first rest
    (suc (length rest)) (declared-is locals params item first c.is_declared.result same c.is_declared.ensures ∙ c.if-is_declared.true)

pub returns-else-is_declared : goal.returns-else-is_declared
returns-else-is_declared c = λ source first rest at is.
    let locals = locals_of c.args.locals.now in
    let params = c.args.params.now in
    let item = c.first-item.result in
    let place = place_in (c.args.unit, source.unit) (names_in_scope locals) (names_of_params params) in
    let same = first-is c.args.names.now item first rest c.first-item.is is in
    c.class_of.ensures source first rest at is ∙ sym (ap (chain_by (suc (length rest)))
    (undeclared-begun (view_in c.args.scope.now) place first rest
    (declared-is locals params item first c.is_declared.result same c.is_declared.ensures ∙ c.if-is_declared.false)))
