use Rattle.std.proofs.Common.{◌≡◌, ◌∙◌, ◌-◌, ◌+◌, ℕ, suc, length, sym, ap, subst, arith}
use Rattle.jav_scope.proofs.ClimbSteps.{climb-found, climb-up, climb-outside, climb-nowhere}
use Rattle.jav_scope.specs.Answers.{answered}
use Rattle.jav_scope.specs.Climbs.{climb, above}
use Rattle.jav_scope.specs.declared.found.Found.TheVariants as answer
use Rattle.mol_base.specs.declared.ident.Id.{Id}
use Rattle.mol_resolve_rules.specs.ProgramViews.{program_view}
use Rattle.mol_table_rules.specs.Program.{Program}
use Rattle.mol_table_rules.specs.Rules.{IsProgram}
use Rattle.mol_scope_members.specs.inherited.Soughts.{found_in_class}
use Rattle.mol_scope_members.proofs.inherited_lemmas.NearestClimbed.{climb-near, climb-short}
use Rattle.mol_scope_members.proofs.inherited.climbed.climbed.Goals as goal

-- as many steps are left as there are classes, and one more
pub loop-left-init : goal.loop-left-init
loop-left-init c =
    let view = program_view c.args.members.now in
    let all : c.count-left.result ≡ length view.classes.items =
    c.count-left.ensures.count ∙ ap (λ (p : Program). length (program_view p).classes.items) c.classes.ensures in
    let enough : suc (length view.classes.items) ≡ c.count-left.result + 1 = omega (arith, all) in
    ap (λ n. climb n view (found_in_class view c.args.sought) c.args.class.now) enough

-- none of the classes that are left has it
pub returns-then-next-left : goal.returns-then-next-left
returns-then-next-left c =
    let view = program_view c.args.members.now in
    sym (ap (answered (λ (id : Id). id)) (c.loop-left.invariant
    ∙ climb-short c.args.members.now (subst IsProgram c.table.ensures c.rules.ensures) (found_in_class view c.args.sought) c.loop-left.at
    c.nearest-next.result c.nearest-next.ensures c.loop-left.left (omega (arith, c.if-next-left.true))))

pub returns-in-Some : goal.returns-in-Some
returns-in-Some c =
    let view = program_view c.args.members.now in
    let here = found_in_class view c.args.sought in
    let next = c.nearest-next.result in
    let more : ℕ = c.loop-left.left - next.steps in
    let all : c.loop-left.left ≡ next.steps + more = omega (arith, c.if-next-left.false) in
    let near : climb (suc (length view.classes.items)) view here c.args.class.now ≡ climb more view here next.class =
    c.loop-left.invariant ∙ ap (λ n. climb n view here c.loop-left.at) all
    ∙ climb-near c.args.members.now (subst IsProgram c.table.ensures c.rules.ensures) here c.loop-left.at next c.nearest-next.ensures more in
    sym (ap (answered (λ (id : Id). id)) near
    ∙ climb-found view here (λ (id : Id). id) more next.class c.in-Some.found (omega (arith, c.if-next-left.false)) (sym c.in-Some.ensures))

-- what is above is next
pub loop-left-preserved : goal.loop-left-preserved
loop-left-preserved c =
    let view = program_view c.args.members.now in
    let here = found_in_class view c.args.sought in
    let next = c.nearest-next.result in
    let more : ℕ = c.loop-left.left - next.steps in
    let all : c.loop-left.left ≡ next.steps + more = omega (arith, c.if-next-left.false) in
    let near : climb (suc (length view.classes.items)) view here c.args.class.now ≡ climb more view here next.class =
    c.loop-left.invariant ∙ ap (λ n. climb n view here c.loop-left.at) all
    ∙ climb-near c.args.members.now (subst IsProgram c.table.ensures c.rules.ensures) here c.loop-left.at next c.nearest-next.ensures more in
    let up : answer.Found c.in-Found.above ≡ answered (λ (id : Id). id) (above view next.class) =
    c.in-Found.ensures ∙ ap (λ (p : Program). answered (λ (id : Id). id) (above (program_view p) next.class)) c.table-in-loop-left.ensures in
    let less : more - 1 ≡ c.loop-left.left - (next.steps + 1) = omega (arith, c.if-next-left.false) in
    near
    ∙ climb-up view here (λ (id : Id). id) more next.class c.in-Found.above (omega (arith, c.if-next-left.false)) (sym c.in_default.ensures) up
    ∙ ap (λ n. climb n view here c.in-Found.above) less

pub returns-in-Outside : goal.returns-in-Outside
returns-in-Outside c =
    let view = program_view c.args.members.now in
    let here = found_in_class view c.args.sought in
    let next = c.nearest-next.result in
    let more : ℕ = c.loop-left.left - next.steps in
    let all : c.loop-left.left ≡ next.steps + more = omega (arith, c.if-next-left.false) in
    let near : climb (suc (length view.classes.items)) view here c.args.class.now ≡ climb more view here next.class =
    c.loop-left.invariant ∙ ap (λ n. climb n view here c.loop-left.at) all
    ∙ climb-near c.args.members.now (subst IsProgram c.table.ensures c.rules.ensures) here c.loop-left.at next c.nearest-next.ensures more in
    let up : answer.Outside ≡ answered (λ (id : Id). id) (above view next.class) =
    c.in-Outside.ensures ∙ ap (λ (p : Program). answered (λ (id : Id). id) (above (program_view p) next.class)) c.table-in-loop-left.ensures in
    sym (ap (answered (λ (id : Id). id)) near
    ∙ climb-outside view here (λ (id : Id). id) more next.class (omega (arith, c.if-next-left.false)) (sym c.in_default.ensures) up)

pub returns-in-NotFound : goal.returns-in-NotFound
returns-in-NotFound c =
    let view = program_view c.args.members.now in
    let here = found_in_class view c.args.sought in
    let next = c.nearest-next.result in
    let more : ℕ = c.loop-left.left - next.steps in
    let all : c.loop-left.left ≡ next.steps + more = omega (arith, c.if-next-left.false) in
    let near : climb (suc (length view.classes.items)) view here c.args.class.now ≡ climb more view here next.class =
    c.loop-left.invariant ∙ ap (λ n. climb n view here c.loop-left.at) all
    ∙ climb-near c.args.members.now (subst IsProgram c.table.ensures c.rules.ensures) here c.loop-left.at next c.nearest-next.ensures more in
    let up : answer.NotFound ≡ answered (λ (id : Id). id) (above view next.class) =
    c.in-NotFound.ensures ∙ ap (λ (p : Program). answered (λ (id : Id). id) (above (program_view p) next.class)) c.table-in-loop-left.ensures in
    sym (ap (answered (λ (id : Id). id)) near
    ∙ climb-nowhere view here (λ (id : Id). id) more next.class (omega (arith, c.if-next-left.false)) (sym c.in_default.ensures) up)
