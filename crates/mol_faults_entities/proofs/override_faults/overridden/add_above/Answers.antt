use Rattle.std.proofs.Common.{◌≡◌, ◌≤◌, ◌∙◌, Some, sym, ap, subst, arith}
use Rattle.std.specs.FinMap.{len}
use Rattle.mol_base.specs.declared.ident.Id.{Id}
use Rattle.mol_faults_entities.proofs.override_faults_lemmas.GoingUp.{IsGoingUp, ids-count, up-begun, up-ended, up-more, up-out, up-round}
use Rattle.mol_faults_entities.proofs.override_faults_lemmas.PairsAbove.{eq-is}
use Rattle.mol_faults_entities.proofs.override_faults.overridden.add_above.Goals as goal

pub loop-turn-init : goal.loop-turn-init
loop-turn-init c = up-begun c.args.table.now c.args.paths.now.positions.entries c.args.orders.now.by_key.items c.args.row.now
    c.living_parent-at.result c.args.pairs.now.items c.living_parent-at.ensures

pub returns-in_default : goal.returns-in_default
returns-in_default c =
    let program = c.args.table.now in
    let positions = c.args.paths.now.positions.entries in
    let rows = c.args.orders.now.by_key.items in
    up-ended program positions rows c.args.row.now c.ids-known.ensures.rules c.loop-turn.turn c.loop-turn.mark c.args.pairs.now.items
    c.loop-turn.pairs.items
    (subst (λ o. IsGoingUp program positions rows c.args.row.now c.loop-turn.turn o c.loop-turn.mark c.args.pairs.now.items
    c.loop-turn.pairs.items) c.in_default.is c.loop-turn.invariant)

pub returns : goal.returns
returns c =
    let program = c.args.table.now in
    let known = c.ids-known in
    let many = ids-count program known.result.now known.ensures.ascending known.ensures.known in
    let all : len program.known ≤ c.loop-turn.turn = omega (arith, many, c.loop-turn-test.false) in
    up-out program c.args.paths.now.positions.entries c.args.orders.now.by_key.items c.args.row.now c.ids-known.ensures.rules
    c.loop-turn.turn c.loop-turn.at c.loop-turn.mark c.args.pairs.now.items c.loop-turn.pairs.items all c.loop-turn.invariant

pub returns-then-eq : goal.returns-then-eq
returns-then-eq c =
    let program = c.args.table.now in
    let positions = c.args.paths.now.positions.entries in
    let rows = c.args.orders.now.by_key.items in
    let row = c.args.row.now in
    let old = c.args.pairs.now.items in
    let before = c.loop-turn.pairs.items in
    let turn = c.loop-turn.turn in
    let mark : Id = c.loop-turn.mark in
    let class : Id = c.in-Some.class in
    let here : c.loop-turn.at ≡ Some mark =
    c.in-Some.is ∙ ap (λ (id : Id). Some id) (eq-is class mark (sym c.eq.ensures ∙ c.if-eq.true)) in
    up-round program positions rows row c.ids-known.ensures.rules turn mark old before
    (subst (λ o. IsGoingUp program positions rows row turn o mark old before) here c.loop-turn.invariant)

pub loop-turn-preserved : goal.loop-turn-preserved
loop-turn-preserved c =
    let program = c.args.table.now in
    let positions = c.args.paths.now.positions.entries in
    let rows = c.args.orders.now.by_key.items in
    let row = c.args.row.now in
    let old = c.args.pairs.now.items in
    let before = c.loop-turn.pairs.items in
    let turn = c.loop-turn.turn in
    let mark : Id = c.loop-turn.mark in
    let class : Id = c.in-Some.class in
    up-more program positions rows row c.requires.paths c.requires.placed turn class mark c.position-position.result old before
    c.add_along.new.pairs.items
    (subst (λ o. IsGoingUp program positions rows row turn o mark old before) c.in-Some.is c.loop-turn.invariant)
    c.position-position.ensures c.in_ok-add_along.ensures c.living_parent-at-in-loop-turn.result c.next_mark-mark.result
    c.living_parent-at-in-loop-turn.ensures c.next_mark-mark.ensures
