-- Small programs from lists of what they know and of their cells.
use Rattle.std.proofs.Common.{◌≡◌, ◌≢◌, ℕ, List, [], codes, ap, ◌∙◌}
use Rattle.std.specs.Prelude.{T, length}
use Rattle.std.specs.FinMap.{find, from_sorted, is_sorted, get, get-from_sorted, entries-from_sorted, len, len-entries}
use Rattle.mol_base.specs.Order.{id_cmp}
use Rattle.mol_base.specs.declared.ident.Id.{Id}
use Rattle.mol_table_rules.specs.Program.{Program, value_at, cell}
use Rattle.mol_values_types.specs.Order.{cell_cmp}
use Rattle.mol_values_types.specs.declared.cell.Cell.{Cell}
use Rattle.mol_values_types.specs.declared.cell.Slot.{Slot}
use Rattle.mol_values_types.specs.declared.kind.MethodKind.TheVariants.{Instance, Constructor}
use Rattle.mol_values_types.specs.declared.known.Known.{Known}
use Rattle.mol_values_types.specs.declared.value.Value.{Value}

abbrev pub base : ℕ → Id
base number = record { tag = []; num = number }

abbrev pub ann : ℕ → Id
ann number = record { tag = codes "ann"; num = number }

abbrev pub bob : ℕ → Id
bob number = record { tag = codes "bob"; num = number }

pub is-instance : Instance ≢ Constructor
is-instance same = absurd cc

abbrev pub program_of : List (Id × Known) → List (Cell × Value) → Program
program_of known cells = record { cells = from_sorted cells; known = from_sorted known }

pub holds-in : (known : List (Id × Known)) (cells : List (Cell × Value)) → T (is_sorted cell_cmp cells) → (id : Id) (slot : Slot)
    → value_at (program_of known cells) id slot ≡ find cell_cmp (cell id slot) cells
holds-in known cells sorted id slot = get-from_sorted cell_cmp cells (cell id slot) sorted

pub known-in : (known : List (Id × Known)) (cells : List (Cell × Value)) → T (is_sorted id_cmp known) → (id : Id)
    → get (program_of known cells).known id ≡ find id_cmp id known
known-in known cells sorted id = get-from_sorted id_cmp known id sorted

-- how many identities are known
pub len-in : (known : List (Id × Known)) (cells : List (Cell × Value)) → T (is_sorted id_cmp known)
    → len (program_of known cells).known ≡ length known
len-in known cells sorted =
    len-entries (program_of known cells).known ∙ ap (λ (es : List (Id × Known)). length es) (entries-from_sorted id_cmp known sorted)
