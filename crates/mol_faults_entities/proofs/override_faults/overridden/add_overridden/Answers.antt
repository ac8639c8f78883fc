use Rattle.std.proofs.Common.{List, sym, subst}
use Rattle.std.specs.List.Sorted.{IsSorted}
use Rattle.mol_faults_entities.specs.override_faults.Overridden.{AreOfOneMethod, methods_cmp, naming_at}
use Rattle.mol_faults_entities.specs.declared.override_faults.declaration.Declaration.{Declaration}
use Rattle.mol_faults_entities.proofs.override_faults_lemmas.NamedAlike.{none-over, nothing-added, one-method}
use Rattle.mol_faults_entities.proofs.override_faults.overridden.add_overridden.Goals as goal

pub are_rivals-requires : goal.are_rivals-requires
are_rivals-requires c = subst (IsSorted methods_cmp) (sym c.as_slice.ensures.value) c.requires.sorted.by_method

pub returns-then-not-are_rivals : goal.returns-then-not-are_rivals
returns-then-not-are_rivals c =
    let program = c.args.table.now in
    let orders = c.args.orders.now in
    let rows = orders.by_key.items in
    let row = c.args.row.now in
    let pairs = c.args.pairs.now.items in
    let alone : AreOfOneMethod orders.by_method.items (naming_at row) =
    subst (λ (ds : List Declaration). AreOfOneMethod ds (naming_at row)) c.as_slice.ensures.value
    (c.are_rivals.ensures.0 c.if-not-are_rivals.true) in
    let none = none-over program rows row c.requires.stands
    (one-method rows orders.by_method.items c.requires.sorted.same (naming_at row) alone) in
    nothing-added program rows row pairs none
