use Rattle.std.proofs.Common.{◌≡◌, ◌+◌, ◌≤◌, ◌<◌, ◌∙◌, ◌++◌, ◌∷◌, [], List, sym, subst, suc, Some, arith}
use Rattle.std.specs.FinMap.{len}
use Rattle.mol_base.specs.declared.ident.Id.{Id}
use Rattle.mol_table_rules.specs.Ancestors.{unmet}
use Rattle.mol_table_rules.specs.Heights.{upward}
use Rattle.mol_table.specs.Maps.{program_in}
use Rattle.mol_table_numbers.proofs.TopsSearched.{Walks, walks-start, walks-more, walks-end, walks-out, len-known}
use Rattle.mol_table_numbers.proofs.search.way.Goals as goal

pub loop-init : goal.loop-init
loop-init c = subst (λ ids. Walks (program_in c.args.maps.now) c.args.class ids (Some c.args.class) 0) (sym c.new-classes.ensures.items) (walks-start (program_in c.args.maps.now) c.args.class)

pub loop-preserved : goal.loop-preserved
loop-preserved c =
    let maps = c.args.maps.now in
    let program = program_in maps in
    let class = c.args.class in
    let classes = c.loop.classes.items in
    let next = c.in-Some.next in
    let steps = c.loop.counter in
    let long = len-known maps c.requires.ordered c.len-end.ensures.unique in
    let within : steps < suc (len program.known) = omega (arith, long, c.loop-test.true, c.len-end.ensures.len) in
    let here : Walks program class classes (Some next) steps = subst (λ o. Walks program class classes o steps) c.in-Some.is c.loop.invariant in
    let is : c.unmet-at.result ≡ unmet (classes ++ next ∷ []) (upward program (Some next)) =
    c.unmet-at.ensures ∙ (λ i. unmet ((c.deref.ensures.value ∙ c.in_ok-push.ensures.items) i) (c.living_parent.ensures i)) in
    subst (λ (ids : List Id). Walks program class ids c.unmet-at.result (steps + 1)) (sym c.in_ok-push.ensures.items)
    (subst (λ o. Walks program class (classes ++ next ∷ []) o (steps + 1)) (sym is) (walks-more program class next classes steps within here))

pub returns-in_default : goal.returns-in_default
returns-in_default c =
    let program = program_in c.args.maps.now in
    walks-end program c.args.class c.loop.classes.items c.loop.counter (subst (λ o. Walks program c.args.class c.loop.classes.items o c.loop.counter) c.in_default.is c.loop.invariant)

pub returns : goal.returns
returns c =
    let maps = c.args.maps.now in
    let program = program_in maps in
    let long = len-known maps c.requires.ordered c.len-end.ensures.unique in
    let far : suc (len program.known) ≤ c.loop.counter = omega (arith, long, c.loop-test.false, c.len-end.ensures.len) in
    walks-out program c.args.class c.loop.classes.items c.loop.at c.loop.counter far c.loop.invariant
