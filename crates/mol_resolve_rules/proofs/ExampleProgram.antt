-- The view of a small program, and static types in it: the class `:1` Cart, its field `:2` count of type `int`, and the declaration `:3`
-- of the method `:4` total.
use Rattle.std.proofs.Common.{◌≡◌, ℕ, true, false, List, [], ◌∷◌, None, codes, refl, sym, ap, ◌∙◌}
use Rattle.std.specs.FinMap.{from_sorted, entries-from_sorted, get-from_sorted}
use Rattle.mol_base.specs.Order.{id_cmp}
use Rattle.mol_base.specs.declared.ident.Id.{Id}
use Rattle.mol_table_rules.specs.Program.{Program, cell}
use Rattle.mol_values_types.specs.Order.{cell_cmp}
use Rattle.mol_values_types.specs.declared.cell.Cell.{Cell}
use Rattle.mol_values_types.specs.declared.cell.Slot.TheVariants as slots
use Rattle.mol_values_types.specs.declared.iexpr.IExpr.{IExpr}
use Rattle.mol_values_types.specs.declared.iexpr.IExpr.TheFolds.{fold-roll-IExpr}
use Rattle.mol_values_types.specs.declared.iexpr.IExpr.TheOpen.{IExpr-F}
use Rattle.mol_values_types.specs.declared.iexpr.IExpr.TheVariants as exprs
use Rattle.mol_values_types.specs.declared.itype.IType.TheFolds.{fold-roll-IType}
use Rattle.mol_values_types.specs.declared.itype.IType.TheOpen.{IType-F}
use Rattle.mol_values_types.specs.declared.itype.IType.TheVariants as types
use Rattle.mol_values_types.specs.declared.kind.MethodKind.TheVariants.{Instance}
use Rattle.mol_values_types.specs.declared.known.Known.{Known}
use Rattle.mol_values_types.specs.declared.known.Known.TheVariants as knowns
use Rattle.mol_values_types.specs.declared.value.Value.{Value}
use Rattle.mol_values_types.specs.declared.value.Value.TheVariants as values
use Rattle.jav_names.specs.OnValues.{StaticType, primitive_value}
use Rattle.jav_names.specs.Views.{ViewType, primitive_type, instance_method}
use Rattle.mol_resolve_rules.specs.ProgramViews.{seen, seen_step, program_view}
use Rattle.mol_resolve_rules.specs.StaticTypes as static
use Rattle.mol_resolve_rules.specs.StaticTypes.{static_type_of}

abbrev base : ℕ → Id
base number = record { tag = []; num = number }

-- ---- the program; a class `:5` is known and does not live

abbrev known : List (Id × Known)
known = (base 1, knowns.Class) ∷ (base 2, knowns.Field) ∷ (base 3, knowns.Decl (base 4)) ∷ (base 4, knowns.Method Instance)
    ∷ (base 5, knowns.Class) ∷ []

-- the cells that the view looks at
abbrev cells : List (Cell × Value)
cells = (cell (base 1) slots.Live, values.Live true) ∷ (cell (base 1) slots.Package, values.Package (codes "shop"))
    ∷ (cell (base 1) slots.Name, values.Name (codes "Cart"))
    ∷ (cell (base 2) slots.Live, values.Live true) ∷ (cell (base 2) slots.Owner, values.Owner (base 1))
    ∷ (cell (base 2) slots.Name, values.Name (codes "count")) ∷ (cell (base 2) slots.Words, values.Words (record { texts = [] }))
    ∷ (cell (base 2) slots.Value, values.Value types.Int None)
    ∷ (cell (base 3) slots.Live, values.Live true) ∷ (cell (base 3) slots.Owner, values.Owner (base 1))
    ∷ (cell (base 4) slots.Name, values.Name (codes "total")) ∷ (cell (base 4) slots.Result, values.Result types.Int)
    ∷ (cell (base 4) slots.Params, values.Params []) ∷ (cell (base 5) slots.Live, values.Live false) ∷ []

abbrev program : Program
program = record { cells = from_sorted cells; known = from_sorted known }

seen-Int : seen types.Int ≡ primitive_type (codes "int")
seen-Int = ap seen (sym types.rolls-Int) ∙ fold-roll-IType (ViewType Id) seen_step IType-F.Int

-- ---- its view

classes : (program_view program).classes.items ≡ record { key = base 1; «package» = codes "shop"; name = codes "Cart" } ∷ []
classes = rw (
  entries-from_sorted id_cmp known tt,
  get-from_sorted cell_cmp cells (cell (base 1) slots.Live) tt,
  get-from_sorted cell_cmp cells (cell (base 1) slots.Package) tt,
  get-from_sorted cell_cmp cells (cell (base 1) slots.Name) tt,
  get-from_sorted cell_cmp cells (cell (base 5) slots.Live) tt,
) refl

fields : (program_view program).fields
    ≡ record { key = base 2; owner = base 1; name = codes "count"; is_static = false; type = primitive_type (codes "int") } ∷ []
fields = rw (
  entries-from_sorted id_cmp known tt,
  get-from_sorted cell_cmp cells (cell (base 2) slots.Live) tt,
  get-from_sorted cell_cmp cells (cell (base 2) slots.Owner) tt,
  get-from_sorted cell_cmp cells (cell (base 2) slots.Name) tt,
  get-from_sorted cell_cmp cells (cell (base 2) slots.Words) tt,
  get-from_sorted cell_cmp cells (cell (base 2) slots.Value) tt,
  seen-Int,
) refl

declarations : (program_view program).declarations ≡ record {
  key = base 3;
  owner = base 1;
  name = codes "total";
  arity = 0;
  kind = instance_method;
  result = primitive_type (codes "int");
} ∷ []
declarations = rw (
  entries-from_sorted id_cmp known tt,
  get-from_sorted cell_cmp cells (cell (base 3) slots.Live) tt,
  get-from_sorted cell_cmp cells (cell (base 3) slots.Owner) tt,
  get-from_sorted cell_cmp cells (cell (base 4) slots.Name) tt,
  get-from_sorted cell_cmp cells (cell (base 4) slots.Params) tt,
  get-from_sorted id_cmp known (base 4) tt,
  get-from_sorted cell_cmp cells (cell (base 4) slots.Result) tt,
  seen-Int,
) refl

-- ---- static types

abbrev static_type : IExpr → StaticType Id
static_type = static_type_of program (base 1) []

own_field : static_type (exprs.Own (base 2)) ≡ primitive_value
own_field =
    ap static_type (sym (exprs.rolls-Own (base 2)))
    ∙ fold-roll-IExpr _ _ (static.expr_step program (base 1) []) (static.argument_step program (base 1) []) (IExpr-F.Own (base 2))
    ∙ rw (get-from_sorted cell_cmp cells (cell (base 2) slots.Value) tt, seen-Int) refl
