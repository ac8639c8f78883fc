-- Rows that `==` takes for equal are one, and rows are ordered as their pairs are.
use Rattle.std.proofs.Common.{◌≡◌, Bool, true, refl, sym, ap, ◌∙◌, true≢false}
use Rattle.std.proofs.lemmas.Bool.{and_parts}
use Rattle.std.specs.Ordering.{ordering_then}
use Rattle.std.specs.declared.cmp.Ordering.{Ordering}
use Rattle.std.specs.declared.cmp.Ordering.TheVariants.{Less, Equal, Greater}
use Rattle.mol_base.specs.Order.{id_cmp}
use Rattle.mol_conflict.proofs.Slots.{slot_order, slots-alike}
use Rattle.mol_conflict.specs.Found.{pair_of}
use Rattle.mol_conflict.specs.contracts.pair.PairOrd as rows_order
use Rattle.mol_conflict.specs.contracts.pair.PairPartialEq as rows_equality
use Rattle.mol_conflict.specs.declared.pair.Pair.{Pair as Row}
use Rattle.mol_conflict.specs.declared.pair.Pair.TheVariants.{Twice, GoneChanged, GoneUsed}
use Rattle.mol_merge_rules.specs.PairConflicts.{pair_cmp}
use Rattle.mol_op.specs.ChangeLaws.{tied}
use Rattle.mol_table_rules.proofs.CellOrder.{cell_cmp-IsAntisymmetric}
use Rattle.mol_table_rules.proofs.Living.{id_tied}
use Rattle.mol_values_types.proofs.Ties.{cell_eq, cell_ties, id_ties}
use Rattle.mol_values_types.specs.Order.{cell_cmp, id_eq}
use Rattle.mol_values_types.specs.declared.cell.Cell.{Cell}

-- ---- equal rows

abbrev row_eq : Row → Row → Bool
row_eq = rows_equality.TheImpl.eq-value.it

cell-same : (first second : Cell) → cell_eq first second ≡ true → first ≡ second
cell-same first second is =
    cell_cmp-IsAntisymmetric first second (tied (cell_cmp first second) (sym (cell_ties first second) ∙ is))

pub row-same : (first second : Row) → row_eq first second ≡ true → first ≡ second
row-same (Twice first) (Twice second) is = ap (λ at. Twice at) (cell-same first second is)
row-same (GoneChanged first) (GoneChanged second) is =
    ap (λ id. GoneChanged id) (id_tied first second (sym (id_ties first second) ∙ is))
row-same (GoneUsed first user) (GoneUsed second other) is =
    let both = and_parts (id_eq first second) (cell_eq user other) is in
    let id = id_tied first second (sym (id_ties first second) ∙ both.0) in
    let at = cell-same user other both.1 in
    λ i. GoneUsed (id i) (at i)
row-same first second is = absurd (true≢false (sym is))

-- ---- the order of rows

abbrev pub row_order : Row → Row → Ordering
row_order = rows_order.TheImpl.cmp-value.it

then-again : (a b : Ordering) → ordering_then a (ordering_then a b) ≡ ordering_then a b
then-again Less b = refl
then-again Equal b = refl
then-again Greater b = refl

then-equal : (o : Ordering) → ordering_then o Equal ≡ o
then-equal Less = refl
then-equal Equal = refl
then-equal Greater = refl

cells-alike : (first second : Cell)
    → cell_cmp first second ≡ ordering_then (id_cmp first.id second.id) (slot_order first.slot second.slot)
cells-alike first second = ap (ordering_then (id_cmp first.id second.id)) (sym (slots-alike first.slot second.slot))

pub ordered-alike : (first second : Row) → pair_cmp (pair_of first) (pair_of second) ≡ row_order first second
ordered-alike (Twice first) (Twice second) =
    ap (ordering_then (id_cmp first.id second.id)) (cells-alike first second)
    ∙ then-again (id_cmp first.id second.id) (slot_order first.slot second.slot)
ordered-alike (GoneChanged first) (GoneChanged second) = then-again (id_cmp first second) Equal ∙ then-equal (id_cmp first second)
ordered-alike (GoneUsed first user) (GoneUsed second other) = ap (ordering_then (id_cmp first second)) (cells-alike user other)
ordered-alike first second = refl
