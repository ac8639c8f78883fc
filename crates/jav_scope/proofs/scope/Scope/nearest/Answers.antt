use Rattle.std.proofs.Common.{◌≡◌, ◌∙◌, ◌-◌, ◌+◌, ℕ, suc, length, find, Option, Some, None, sym, ap, arith}
use Rattle.jav_names.specs.index.Seeking.{is_sought}
use Rattle.jav_names.specs.declared.index.entry.Entry.{Entry}
use Rattle.jav_scope.specs.Answers.{answered, entry_ref}
use Rattle.jav_scope.specs.Climbs.{climb}
use Rattle.jav_scope.specs.Entries.{view_in}
use Rattle.jav_scope.specs.MemberLists.{found_in}
use Rattle.jav_scope.specs.declared.found.Found.TheVariants as answer
use Rattle.jav_scope.proofs.AboveClasses.{counted}
use Rattle.jav_scope.proofs.ClimbSteps.{climb-found, climb-up, climb-outside, climb-nowhere}
use Rattle.jav_scope.proofs.scope.Scope.nearest.Goals as goal

-- as many steps are left as there are classes, and one more
pub loop-step-init : goal.loop-step-init
loop-step-init c =
    let all : length c.self.inside.superclasses.items ≡ length c.args.self.now =
    ap length c.self.invariant.superclasses ∙ counted c.self.inside.names ∙ ap length c.self.view_is in
    let enough : suc (length c.args.self.now) ≡ (c.len-steps.result + 1) - 0 = omega (arith, c.len-steps.ensures, all) in
    ap (λ n. climb n (view_in c.args.self.now) (found_in c.args.members.now c.args.arity c.args.name.now) c.args.class) enough

pub returns-in-Some : goal.returns-in-Some
returns-in-Some c =
    let here : ℕ → Option Entry = found_in c.args.members.now c.args.arity c.args.name.now in
    let left : ℕ = (c.len-steps.result + 1) - c.loop-step._step in
    let is : here c.loop-step.at ≡ Some c.in-Some.entry.now =
    sym (c.in-Some.ensures ∙ ap (λ name. find (is_sought c.loop-step.at c.args.arity name) c.args.members.now) c.bytes.ensures.bytes) in
    ap (λ member. answer.Found member) c.member_of.ensures
    ∙ sym (ap (answered entry_ref) c.loop-step.invariant
    ∙ climb-found (view_in c.args.self.now) here entry_ref left c.loop-step.at c.in-Some.entry.now (omega (arith, c.loop-step-test.true))
    is)

-- what is above is next
pub loop-step-preserved : goal.loop-step-preserved
loop-step-preserved c =
    let view = view_in c.args.self.now in
    let here : ℕ → Option Entry = found_in c.args.members.now c.args.arity c.args.name.now in
    let left : ℕ = (c.len-steps.result + 1) - c.loop-step._step in
    let none : here c.loop-step.at ≡ None =
    sym (c.in_default.ensures ∙ ap (λ name. find (is_sought c.loop-step.at c.args.arity name) c.args.members.now) c.bytes.ensures.bytes) in
    c.loop-step.invariant
    ∙ climb-up view here entry_ref left c.loop-step.at c.in-Found.above (omega (arith, c.loop-step-test.true)) none c.in-Found.ensures
    ∙ ap (λ n. climb n view here c.in-Found.above) (omega arith)

pub returns-in-Outside : goal.returns-in-Outside
returns-in-Outside c =
    let view = view_in c.args.self.now in
    let here : ℕ → Option Entry = found_in c.args.members.now c.args.arity c.args.name.now in
    let left : ℕ = (c.len-steps.result + 1) - c.loop-step._step in
    let none : here c.loop-step.at ≡ None =
    sym (c.in_default.ensures ∙ ap (λ name. find (is_sought c.loop-step.at c.args.arity name) c.args.members.now) c.bytes.ensures.bytes) in
    sym (ap (answered entry_ref) c.loop-step.invariant
    ∙ climb-outside view here entry_ref left c.loop-step.at (omega (arith, c.loop-step-test.true)) none c.in-Outside.ensures)

pub returns-in-NotFound : goal.returns-in-NotFound
returns-in-NotFound c =
    let view = view_in c.args.self.now in
    let here : ℕ → Option Entry = found_in c.args.members.now c.args.arity c.args.name.now in
    let left : ℕ = (c.len-steps.result + 1) - c.loop-step._step in
    let none : here c.loop-step.at ≡ None =
    sym (c.in_default.ensures ∙ ap (λ name. find (is_sought c.loop-step.at c.args.arity name) c.args.members.now) c.bytes.ensures.bytes) in
    sym (ap (answered entry_ref) c.loop-step.invariant
    ∙ climb-nowhere view here entry_ref left c.loop-step.at (omega (arith, c.loop-step-test.true)) none c.in-NotFound.ensures)

-- no step is left
pub returns : goal.returns
returns c =
    let view = view_in c.args.self.now in
    let here : ℕ → Option Entry = found_in c.args.members.now c.args.arity c.args.name.now in
    let over : (c.len-steps.result + 1) - c.loop-step._step ≡ 0 = omega (arith, c.loop-step-test.false) in
    sym (ap (answered entry_ref) (c.loop-step.invariant ∙ ap (λ n. climb n view here c.loop-step.at) over))
