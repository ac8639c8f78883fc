use Rattle.std.proofs.Common.{◌≡◌, ◌∙◌, ◌<◌, ℕ, List, length, ap, sym, subst, get_or, slice_get}
use Rattle.jav_names.specs.DottedNames.{Names}
use Rattle.jav_names.specs.Leftmost.{Leftmost}
use Rattle.jav_names.specs.LookUps.{variable, leftmost_type, simple_type}
use Rattle.jav_names.specs.UnitViews.{MemberKey, header_of, place_in}
use Rattle.jav_scope.specs.Answers.{answered, variable_ref, leftmost_answered}
use Rattle.jav_scope.specs.Entries.{classes_in, view_in}
use Rattle.jav_scope.specs.declared.source.SourceUnit.{SourceUnit}
use Rattle.jav_scope.proofs.VariablesFound.{first-variable, first-outside, first-nothing}
use Rattle.jav_scope.proofs.scope.Scope.leftmost.Goals as goal

pub leftmost_type-requires-clause-unit : goal.leftmost_type-requires-clause-unit
leftmost_type-requires-clause-unit c = subst (λ (all : List SourceUnit). c.args.unit < length all) (sym c.self.view_is) c.requires.unit

pub returns-in-Found : goal.returns-in-Found
returns-in-Found c = λ source first rest at is.
    let place = place_in (c.args.unit, source.unit) c.args.locals.now c.args.params.now in
    let classes = classes_in c.args.self.now in
    let otherwise : Leftmost ℕ MemberKey = leftmost_type classes first rest
    (simple_type classes (header_of (c.args.unit, source.unit)) first) in
    let name : c.index-names-0.result ≡ first = c.index-names-0.is ∙ ap (λ (all : Names). get_or all 0 c.index-names-0.result) is in
    first-variable otherwise (variable (view_in c.args.self.now) place first) c.in-Found.variable
    (c.in-Found.ensures source at ∙ ap (λ n. answered variable_ref (variable (view_in c.args.self.now) place n)) name)

pub returns-in-Outside : goal.returns-in-Outside
returns-in-Outside c = λ source first rest at is.
    let place = place_in (c.args.unit, source.unit) c.args.locals.now c.args.params.now in
    let classes = classes_in c.args.self.now in
    let otherwise : Leftmost ℕ MemberKey = leftmost_type classes first rest
    (simple_type classes (header_of (c.args.unit, source.unit)) first) in
    let name : c.index-names-0.result ≡ first = c.index-names-0.is ∙ ap (λ (all : Names). get_or all 0 c.index-names-0.result) is in
    c.leftmost_type.ensures source first rest (ap (λ (all : List SourceUnit). slice_get all c.args.unit) c.self.view_is ∙ at) is
    ∙ ap (λ (all : List SourceUnit). leftmost_answered (leftmost_type {M = MemberKey} (classes_in all) first rest
    (simple_type (classes_in all) (header_of (c.args.unit, source.unit)) first))) c.self.view_is
    ∙ first-outside otherwise (variable (view_in c.args.self.now) place first)
    (c.in-Outside.ensures source at ∙ ap (λ n. answered variable_ref (variable (view_in c.args.self.now) place n)) name)

pub returns-in-NotFound : goal.returns-in-NotFound
returns-in-NotFound c = λ source first rest at is.
    let place = place_in (c.args.unit, source.unit) c.args.locals.now c.args.params.now in
    let classes = classes_in c.args.self.now in
    let otherwise : Leftmost ℕ MemberKey = leftmost_type classes first rest
    (simple_type classes (header_of (c.args.unit, source.unit)) first) in
    let name : c.index-names-0.result ≡ first = c.index-names-0.is ∙ ap (λ (all : Names). get_or all 0 c.index-names-0.result) is in
    c.leftmost_type-in-NotFound.ensures source first rest (ap (λ (all : List SourceUnit). slice_get all c.args.unit) c.self.view_is ∙ at) is
    ∙ ap (λ (all : List SourceUnit). leftmost_answered (leftmost_type {M = MemberKey} (classes_in all) first rest
    (simple_type (classes_in all) (header_of (c.args.unit, source.unit)) first))) c.self.view_is
    ∙ first-nothing otherwise (variable (view_in c.args.self.now) place first)
    (c.in-NotFound.ensures source at ∙ ap (λ n. answered variable_ref (variable (view_in c.args.self.now) place n)) name)
