-- What is known once values are written.
use Rattle.std.specs.Prelude.{◌≡◌, ℕ, ◌+◌, ◌<◌, Bool, true, false, cond, List, [], ◌∷◌, drop, length, Option, None, Some, is_some, IsSome}
use Rattle.std.proofs.Common.{suc, refl, sym, ap, ◌∙◌, arith, get_or}
use Rattle.std.proofs.Math.Seq.{drop-cons}
use Rattle.std.specs.FinMap.{get, insert, get-insert}
use Rattle.std.specs.Ordering.{eq_by_cmp}
use Rattle.mol_base.specs.declared.ident.Id.{Id}
use Rattle.mol_table_rules.specs.Room.{AreKnown}
use Rattle.mol_values_types.specs.Order.{cell_cmp}
use Rattle.mol_table_rules.proofs.CellOrder.{cell_cmp-total, cell_cmp-IsAntisymmetric}
use Rattle.mol_table_rules.specs.Program.{Program, Knowns, Cells, cell}
use Rattle.mol_table_rules.specs.Rules.{IsProgram}
use Rattle.mol_values_types.specs.Slots.{has_slot}
use Rattle.mol_table_rules.specs.Writes.{kept_or, with_params, with_value}
use Rattle.mol_values_types.specs.declared.cell.Cell.{Cell}
use Rattle.mol_values_types.specs.declared.cell.Slot.TheVariants as slots
use Rattle.mol_values_types.specs.declared.kind.MethodKind.{MethodKind}
use Rattle.mol_values_types.specs.declared.known.Known.{Known}
use Rattle.mol_values_types.specs.declared.known.Known.TheVariants as knowns
use Rattle.mol_values_types.specs.declared.param.Param.{Param}
use Rattle.mol_values_types.specs.declared.value.Value.{Value}
use Rattle.mol_table_rules.proofs.Counts.{tied}

-- a list from a place on begins with the item at that place
pub drop-item : {A : Type 0} (xs : List A) (i : ℕ) (x : A) → i < length xs → x ≡ get_or xs i x → drop i xs ≡ x ∷ drop (i + 1) xs
drop-item xs i x within is =
    let next : suc i ≡ i + 1 = omega arith in
    drop-cons xs i x within ∙ ap (λ y. y ∷ drop (suc i) xs) (sym is) ∙ ap (λ k. x ∷ drop k xs) next

kept-known : (known : Knowns) (id : Id) (what : Known) → IsSome (get known id) → kept_or known id what ≡ known
kept-known known id what is = ap (λ b. cond b known (insert known id what)) is

-- parameters that are known stay as they are
pub with_params-known : (params : List Param) (known : Knowns) (method : Id) → AreKnown known params → with_params known method params ≡ known
with_params-known [] known method are = refl
with_params-known (param ∷ params) known method are =
    ap (λ k. with_params k method params) (kept-known known param.id (knowns.Param method) (are 0 param (omega arith)))
    ∙ with_params-known params known method (λ k d within. are (suc k) d (omega arith))

-- ---- a write into a cell that is there leaves the cells that there are

pub cells-kept : (cells : Cells) (at q : Cell) (value : Value) → IsSome (get cells at) → is_some (get (insert cells at value) q) ≡ is_some (get cells q)
cells-kept cells at q value there = ap is_some (get-insert cell_cmp-total cells at value q) ∙ by (eq_by_cmp cell_cmp q at) refl where
  by : (b : Bool) → eq_by_cmp cell_cmp q at ≡ b → is_some (cond b (Some value) (get cells q)) ≡ is_some (get cells q)
  by true e = sym (ap (λ c. is_some (get cells c)) (cell_cmp-IsAntisymmetric q at (tied _ e)) ∙ there)
  by false e = refl

method-by : (o : Option Known) → has_slot o slots.Kind ≡ true → (kind : MethodKind) × (o ≡ Some (knowns.Method kind))
method-by None e = absurd cc
method-by (Some knowns.Class) e = absurd cc
method-by (Some (knowns.Method kind)) e = (kind, refl)
method-by (Some (knowns.Decl method)) e = absurd cc
method-by (Some knowns.Field) e = absurd cc
method-by (Some (knowns.Param method)) e = absurd cc

-- what is a method after such a write was one before
pub method-kept : (program : Program) → IsProgram program → (at : Cell) (value : Value) → IsSome (get program.cells at) → IsProgram (with_value program at value)
    → (id : Id) (kind : MethodKind) → get (with_value program at value).known id ≡ Some (knowns.Method kind) → (was : MethodKind) × (get program.known id ≡ Some (knowns.Method was))
method-kept program rules at value there new id kind is =
    method-by (get program.known id)
    (sym (rules.whole id slots.Kind) ∙ sym (cells-kept program.cells at (cell id slots.Kind) value there)
    ∙ new.whole id slots.Kind ∙ ap (λ known. has_slot known slots.Kind) is)
