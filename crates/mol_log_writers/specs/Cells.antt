-- The cells that an operation writes.
use Rattle.std.specs.Option.{option_map_or}
use Rattle.std.specs.Prelude.{List, [], ◌++◌, map, Option}
use Rattle.mol_base.specs.declared.ident.Id.{Id}
use Rattle.mol_log_writers.specs.declared.written.Written.{Written}
use Rattle.mol_op.specs.Changes.{Write}
use Rattle.mol_op.specs.Rows.{op_writes}
use Rattle.mol_op.specs.declared.op.Op.{Op}
use Rattle.mol_table_rules.specs.Program.{cell}
use Rattle.mol_values_types.specs.Slots.{slots_of}
use Rattle.mol_values_types.specs.declared.cell.Cell.{Cell}
use Rattle.mol_values_types.specs.declared.cell.Slot.{Slot}
use Rattle.mol_values_types.specs.declared.kind.Kind.TheVariants as kinds

-- the cells of its writes, in their order
abbrev pub written_cells : Op → List Cell
written_cells op = map (λ (write : Write). write.0) (op_writes op)

-- the cells of an identity in some slots
abbrev pub slot_cells : Id → List Slot → List Cell
slot_cells id slots = map (cell id) slots

-- all cells of a declaration, if there is one
abbrev pub maybe_decl_cells : Option Id → List Cell
maybe_decl_cells decl = option_map_or (λ id. slot_cells id (slots_of kinds.Decl)) decl []

-- the cells of what the code finds to be written
abbrev pub cells_in : Written → List Cell
cells_in written = slot_cells written.id written.slots.now ++ maybe_decl_cells written.decl
