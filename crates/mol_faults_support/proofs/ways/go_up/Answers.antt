use Rattle.std.proofs.Common.{◌≡◌, ◌∙◌, ◌+◌, ◌++◌, ◌∷◌, [], Bool, true, false, cond, not, List, refl, sym, ap, subst, true≢false}
use Rattle.std.specs.List.{list_any}
use Rattle.mol_base.specs.declared.ident.Id.{Id}
use Rattle.mol_faults_support.proofs.Among.{tested}
use Rattle.mol_faults_support.proofs.Going.{Goes, goes-start, goes-met, goes-end, goes-out, goes-more}
use Rattle.mol_faults_support.proofs.ways.go_up.Goals as goal
use Rattle.mol_values_types.specs.Order.{id_eq}

not-true : (b : Bool) → not b ≡ true → b ≡ false
not-true true is = absurd (true≢false (sym is))
not-true false is = refl

not-false : (b : Bool) → not b ≡ false → b ≡ true
not-false true is = refl
not-false false is = absurd (true≢false is)

pub loop-init : goal.loop-init
loop-init c = goes-start c.args.table.now c.args.steps c.args.met.now.keys c.args.class.now

pub returns-in_default : goal.returns-in_default
returns-in_default c =
    goes-end c.args.table.now c.args.steps c.args.met.now.keys c.args.class.now c.loop.met.keys c.loop.counter
    (subst (λ o. Goes c.args.table.now c.args.steps c.args.met.now.keys c.args.class.now c.loop.met.keys o c.loop.counter)
    c.in_default.is c.loop.invariant)

pub returns : goal.returns
returns c =
    goes-out c.args.table.now c.args.steps c.args.met.now.keys c.args.class.now c.loop.met.keys c.loop.at c.loop.counter
    c.loop-test.false c.loop.invariant

pub returns-then-not-is_new : goal.returns-then-not-is_new
returns-then-not-is_new c =
    let program = c.args.table.now in
    let now = c.loop.met.keys in
    let next = c.in-Some.next in
    let goes = subst (λ o. Goes program c.args.steps c.args.met.now.keys c.args.class.now now o c.loop.counter) c.in-Some.is
    c.loop.invariant in
    let seen = not-false (list_any (id_eq next) now) (sym c.in_ok-is_new.ensures.added ∙ c.if-not-is_new.true) in
    c.in_ok-is_new.ensures.keys ∙ ap (λ b. cond b now (now ++ next ∷ [])) seen
    ∙ goes-met program c.args.steps c.args.met.now.keys c.args.class.now now next c.loop.counter goes (sym (tested now next) ∙ seen)

pub loop-preserved : goal.loop-preserved
loop-preserved c =
    let program = c.args.table.now in
    let now = c.loop.met.keys in
    let next = c.in-Some.next in
    let goes = subst (λ o. Goes program c.args.steps c.args.met.now.keys c.args.class.now now o c.loop.counter) c.in-Some.is
    c.loop.invariant in
    let new = not-true (list_any (id_eq next) now) (sym c.in_ok-is_new.ensures.added ∙ c.if-not-is_new.false) in
    let keys = c.in_ok-is_new.ensures.keys ∙ ap (λ b. cond b now (now ++ next ∷ [])) new in
    let more = goes-more program c.args.steps c.args.met.now.keys c.args.class.now now next c.loop.counter c.loop-test.true goes
    (sym (tested now next) ∙ new) in
    subst (λ (ids : List Id). Goes program c.args.steps c.args.met.now.keys c.args.class.now ids c.living_parent-at.result
    (c.loop.counter + 1)) (sym keys)
    (subst (λ o. Goes program c.args.steps c.args.met.now.keys c.args.class.now (now ++ next ∷ []) o (c.loop.counter + 1))
    (sym c.living_parent-at.ensures) more)
