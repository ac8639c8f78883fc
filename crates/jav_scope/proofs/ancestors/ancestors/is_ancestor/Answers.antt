use Rattle.std.proofs.Common.{◌≡◌, ◌-◌, ◌+◌, ℕ, Bool, true, false, ◌||◌, length, sym, ◌∙◌, ap, arith, nat_cmp}
use Rattle.std.specs.List.{list_any}
use Rattle.std.specs.Ordering.{is_eq}
use Rattle.jav_names.specs.LookUps.{is_ancestor}
use Rattle.jav_names.proofs.UnitsOrdered.{nat_cmp-IsKeyOrder, classes_of-ordered}
use Rattle.jav_names.proofs.Ways.{same_key}
use Rattle.jav_scope.specs.Entries.{units_of, view_in}
use Rattle.jav_scope.specs.ancestors.Steps.{steps_up}
use Rattle.jav_scope.proofs.ancestors_lemmas.Ascended.{met-ancestors}
use Rattle.jav_scope.proofs.ancestors_lemmas.Stepped.{stepped, ended, many-classes, apart}
use Rattle.jav_scope.proofs.ancestors.ancestors.is_ancestor.Goals as goal

pub loop-step-init : goal.loop-step-init
loop-step-init c =
    ap (λ n. list_any (λ k. is_eq (nat_cmp k c.args.above)) (steps_up n (view_in c.args.scope.now) c.args.class c.args.class))
    (let whole : c.args.count ≡ c.args.count - 0 = omega arith in whole)

pub returns-in-None : goal.returns-in-None
returns-in-None c =
    let view = view_in c.args.scope.now in
    let test : ℕ → Bool = λ n. is_eq (nat_cmp n c.args.above) in
    let left : ℕ = c.args.count - c.loop-step._step in
    sym (ap (list_any test) (ended view c.args.class c.loop-step.at left (omega (arith, c.loop-step-test.true)) c.in-None.ensures))
    ∙ sym c.loop-step.invariant
    ∙ met-ancestors view (classes_of-ordered (units_of c.args.scope.now)) c.args.class test c.args.count
    (many-classes c.args.scope.now ∙ sym c.requires)

pub returns-then-next-above : goal.returns-then-next-above
returns-then-next-above c =
    let view = view_in c.args.scope.now in
    let test : ℕ → Bool = λ n. is_eq (nat_cmp n c.args.above) in
    let left : ℕ = c.args.count - c.loop-step._step in
    let more = steps_up (left - 1) view c.args.class c.in-Some.next in
    sym (ap (list_any test)
    (stepped view c.args.class c.loop-step.at left c.in-Some.next (omega (arith, c.loop-step-test.true)) c.in-Some.ensures)
    ∙ ap (λ b. b || list_any test more) ((same_key nat_cmp-IsKeyOrder c.in-Some.next c.args.above).1 c.if-next-above.true))
    ∙ sym c.loop-step.invariant
    ∙ met-ancestors view (classes_of-ordered (units_of c.args.scope.now)) c.args.class test c.args.count
    (many-classes c.args.scope.now ∙ sym c.requires)

pub loop-step-preserved : goal.loop-step-preserved
loop-step-preserved c =
    let view = view_in c.args.scope.now in
    let test : ℕ → Bool = λ n. is_eq (nat_cmp n c.args.above) in
    let left : ℕ = c.args.count - c.loop-step._step in
    let more = steps_up (left - 1) view c.args.class c.in-Some.next in
    let less : left - 1 ≡ c.args.count - (c.loop-step._step + 1) = omega arith in
    c.loop-step.invariant
    ∙ ap (list_any test)
    (stepped view c.args.class c.loop-step.at left c.in-Some.next (omega (arith, c.loop-step-test.true)) c.in-Some.ensures)
    ∙ ap (λ b. b || list_any test more) (apart c.in-Some.next c.args.above c.if-next-above.false)
    ∙ ap (λ n. list_any test (steps_up n view c.args.class c.in-Some.next)) less

pub returns : goal.returns
returns c =
    let view = view_in c.args.scope.now in
    let test : ℕ → Bool = λ n. is_eq (nat_cmp n c.args.above) in
    let over : c.args.count - c.loop-step._step ≡ 0 = omega (arith, c.loop-step-test.false) in
    sym (ap (λ n. list_any test (steps_up n view c.args.class c.loop-step.at)) over)
    ∙ sym c.loop-step.invariant
    ∙ met-ancestors view (classes_of-ordered (units_of c.args.scope.now)) c.args.class test c.args.count
    (many-classes c.args.scope.now ∙ sym c.requires)
