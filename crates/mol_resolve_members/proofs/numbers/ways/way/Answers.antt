use Rattle.std.proofs.Common.{◌≡◌, ◌+◌, ◌-◌, ℕ, suc, [], None, List, length, set, sym, ◌∙◌, ap, subst, arith}
use Rattle.std.proofs.lemmas.List.{length-set}
use Rattle.jav_scope.specs.Entries.{view_in}
use Rattle.jav_names.specs.LookUps.{class_above}
use Rattle.mol_resolve_members.specs.numbers.Marks.{unmarked}
use Rattle.mol_resolve_members.proofs.numbers_lemmas.Walks.{Walks, begins, goes_on, marked-size, next, unmet-after, way-whole}
use Rattle.mol_resolve_members.proofs.numbers.ways.way.Goals as goal

pub loop-step-init : goal.loop-step-init
loop-step-init c =
    let met = c.args.met.now.items in
    let all : length c.args.scope.now ≡ c.len-steps.result - 0 = omega (arith, c.len-steps.ensures, c.requires.size) in
    subst (λ (way : List ℕ). Walks c.args.scope.now c.args.class c.args.walk met (c.len-steps.result - 0) way met c.args.class)
    (sym c.new-way.ensures.items)
    (subst (λ left. Walks c.args.scope.now c.args.class c.args.walk met left [] met c.args.class) all
    (begins c.args.scope.now c.args.class c.args.walk met c.requires.size c.requires.class c.requires.unmet))

pub above_unmet-requires : goal.above_unmet-requires
above_unmet-requires c = ap length c.as_slice.ensures.value
    ∙ length-set c.loop-step.met.items c.loop-step.at c.args.walk ∙ c.loop-step.invariant.size

pub loop-step-preserved : goal.loop-step-preserved
loop-step-preserved c =
    let sources = c.args.scope.now in
    let met = c.args.met.now.items in
    let left : ℕ = c.len-steps.result - (c.loop-step._step + 1) in
    let some : c.len-steps.result - c.loop-step._step ≡ suc left = omega (arith, c.loop-step-test.true) in
    let walks = subst (λ steps. Walks sources c.args.class c.args.walk met steps c.loop-step.way.items c.loop-step.met.items c.loop-step.at)
    some c.loop-step.invariant in
    subst (λ (way : List ℕ). Walks sources c.args.class c.args.walk met left way (set c.loop-step.met.items c.loop-step.at c.args.walk)
    c.in-Some.above) (sym c.in_ok-push.ensures.items)
    (goes_on sources c.args.class c.args.walk left met c.loop-step.way.items c.loop-step.met.items c.loop-step.at walks c.in-Some.above
    (c.in-Some.ensures ∙ ap (λ (marks : List ℕ). unmarked marks c.args.walk (class_above (view_in sources) c.loop-step.at))
    c.as_slice.ensures.value))

pub returns-in-None : goal.returns-in-None
returns-in-None c =
    let sources = c.args.scope.now in
    let met = c.args.met.now.items in
    let left : ℕ = c.len-steps.result - (c.loop-step._step + 1) in
    let some : c.len-steps.result - c.loop-step._step ≡ suc left = omega (arith, c.loop-step-test.true) in
    let walks = subst (λ steps. Walks sources c.args.class c.args.walk met steps c.loop-step.way.items c.loop-step.met.items c.loop-step.at)
    some c.loop-step.invariant in
    record {
      way = c.in_ok-push.ensures.items
          ∙ sym (next sources c.args.class c.args.walk left met c.loop-step.way.items c.loop-step.met.items c.loop-step.at walks None
          (c.in-None.ensures ∙ ap (λ (marks : List ℕ). unmarked marks c.args.walk (class_above (view_in sources) c.loop-step.at))
          c.as_slice.ensures.value))
          ∙ way-whole sources c.args.class;
      size = marked-size sources c.args.class c.args.walk left met c.loop-step.way.items c.loop-step.met.items c.loop-step.at walks
          ∙ sym c.requires.size;
      unmet = unmet-after sources c.args.class c.args.walk left met c.loop-step.way.items c.loop-step.met.items c.loop-step.at walks;
    }

pub returns : goal.returns
returns c =
    let sources = c.args.scope.now in
    let over : c.len-steps.result - c.loop-step._step ≡ 0 = omega (arith, c.loop-step-test.false) in
    let walks = subst (λ steps. Walks sources c.args.class c.args.walk c.args.met.now.items steps c.loop-step.way.items
    c.loop-step.met.items c.loop-step.at) over c.loop-step.invariant in
    record {
      way = c.in_ok-push-2.ensures.items ∙ sym walks.on ∙ way-whole sources c.args.class;
      size = walks.size ∙ sym c.requires.size;
      unmet = walks.unmet;
    }
