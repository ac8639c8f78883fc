use Rattle.std.proofs.Common.{◌≡◌, ◌+◌, ◌-◌, None, Some, List, length, sym, ◌∙◌, ap, subst, arith}
use Rattle.jav_scope.specs.ancestors.Steps.{next_up}
use Rattle.jav_scope.specs.Entries.{view_in}
use Rattle.jav_scope.specs.declared.source.SourceUnit.{SourceUnit}
use Rattle.mol_resolve_faults.specs.beside.Beside.{Faulty}
use Rattle.mol_resolve_faults.specs.beside.Classes.{either}
use Rattle.mol_resolve_faults.specs.beside.Kept.{faulty_of}
use Rattle.mol_resolve_members.specs.members.Rows.{kept_row}
use Rattle.mol_resolve_classes.proofs.related_lemmas.FaultsAbove.{IsSoFar, begun, faulty_from, from-all, gone_on, next-below, stopped, used_up}
use Rattle.mol_resolve_classes.proofs.related.related.Related.faulty_upwards.Goals as goal

pub loop-step-init : goal.loop-step-init
loop-step-init c = begun c.args.self.now c.args.unit (kept_row c.args.row.now) c.len-steps.result

pub faulty_below-requires : goal.faulty_below-requires
faulty_below-requires c =
    let up : Some c.in-Some.next ≡ next_up (view_in c.args.self.now) c.args.unit c.loop-step.at =
    c.in-Some.ensures ∙ ap (λ (all : List SourceUnit). next_up (view_in all) c.args.unit c.loop-step.at) c.self.view_is in
    next-below c.args.self.now c.args.unit c.loop-step.at c.in-Some.next up

pub loop-step-preserved : goal.loop-step-preserved
loop-step-preserved c =
    let sources = c.args.self.now in
    let unit = c.args.unit in
    let row = kept_row c.args.row.now in
    let steps = c.len-steps.result in
    let left = steps - c.loop-step._step in
    let next = c.in-Some.next in
    let up : Some next ≡ next_up (view_in sources) unit c.loop-step.at =
    c.in-Some.ensures ∙ ap (λ (all : List SourceUnit). next_up (view_in all) unit c.loop-step.at) c.self.view_is in
    let fewer : left - 1 ≡ steps - (c.loop-step._step + 1) = omega arith in
    let on = gone_on sources unit row steps left c.loop-step.at (faulty_of c.loop-step.faulty) (omega (arith, c.loop-step-test.true))
    c.loop-step.invariant next (faulty_of c.faulty_below.result) up c.faulty_below.ensures in
    subst (λ (faulty : Faulty). IsSoFar sources unit row steps faulty (steps - (c.loop-step._step + 1)) next) (sym c.or-faulty.ensures)
    (subst (λ n. IsSoFar sources unit row steps (either (faulty_of c.loop-step.faulty) (faulty_of c.faulty_below.result)) n next) fewer on)

pub returns-in-None : goal.returns-in-None
returns-in-None c =
    let sources = c.args.self.now in
    let unit = c.args.unit in
    let row = kept_row c.args.row.now in
    let steps = c.len-steps.result in
    let up : None ≡ next_up (view_in sources) unit c.loop-step.at =
    c.in-None.ensures ∙ ap (λ (all : List SourceUnit). next_up (view_in all) unit c.loop-step.at) c.self.view_is in
    let many : steps ≡ length sources =
    omega (arith, c.len-steps.ensures, c.self.invariant.size, ap (λ (all : List SourceUnit). length all) c.self.view_is) in
    sym (stopped sources unit row steps (steps - c.loop-step._step) c.loop-step.at (faulty_of c.loop-step.faulty)
    (omega (arith, c.loop-step-test.true)) c.loop-step.invariant up)
    ∙ ap (λ n. faulty_from sources unit row n unit) many
    ∙ from-all sources unit row

pub returns : goal.returns
returns c =
    let sources = c.args.self.now in
    let unit = c.args.unit in
    let row = kept_row c.args.row.now in
    let steps = c.len-steps.result in
    let over : steps - c.loop-step._step ≡ 0 = omega (arith, c.loop-step-test.false) in
    let many : steps ≡ length sources =
    omega (arith, c.len-steps.ensures, c.self.invariant.size, ap (λ (all : List SourceUnit). length all) c.self.view_is) in
    sym (used_up sources unit row steps c.loop-step.at (faulty_of c.loop-step.faulty)
    (subst (λ n. IsSoFar sources unit row steps (faulty_of c.loop-step.faulty) n c.loop-step.at) over c.loop-step.invariant))
    ∙ ap (λ n. faulty_from sources unit row n unit) many
    ∙ from-all sources unit row
