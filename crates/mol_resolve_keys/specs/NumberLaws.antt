-- Numbers in place of the identities of a program.
use Rattle.std.specs.Prelude.{◌≡◌, ℕ, Option}
use Rattle.mol_base.specs.declared.ident.Id.{Id}
use Rattle.jav_tree.specs.declared.expr.Expr.{Expr}
use Rattle.jav_tree.specs.declared.stmt.Block.{Block}
use Rattle.jav_tree.specs.declared.types.TypeName.{TypeName}
use Rattle.jav_names.specs.Types.{OwnStands}
use Rattle.jav_names_laws.specs.HasKeys.{HasKeys}
use Rattle.mol_resolve_keys.specs.Alike.{ReadersAlike}
use Rattle.mol_resolve_keys.specs.NumberedPrograms.{keys_of, numbered_view, numbered}
use Rattle.mol_resolve_rules.specs.Outcomes.{mapped}
use Rattle.mol_resolve_rules.specs.ProgramViews.{program_view, program_ids}
use Rattle.mol_resolve_rules.specs.Readers.{Reader}
use Rattle.mol_resolve_rules.specs.ReadStatements.{read_initial, read_body}
use Rattle.mol_resolve_rules.specs.ReadTypes.{type_tree, read_type}
use Rattle.mol_table_rules.specs.Program.{Program}
use Rattle.mol_table_rules.specs.Rules.{IsProgram}
use Rattle.mol_values_types.specs.Renamed.{rename_type, rename_expr, rename_block}
use Rattle.mol_values_types.specs.declared.iblock.IBlock.{IBlock}
use Rattle.mol_values_types.specs.declared.iexpr.IExpr.{IExpr}
use Rattle.mol_values_types.specs.declared.itype.IType.{IType}

-- Renaming each identity as itself changes nothing.
pub record RenamedAsThemselves : Type 0 where
  pub types : (type : IType) → rename_type (λ id. id) type ≡ type
  pub expressions : (e : IExpr) → rename_expr (λ id. id) e ≡ e
  pub blocks : (block : IBlock) → rename_block (λ id. id) block ≡ block

-- What trees are read as at a place in a program is what they are read as with numbers in place of identities, with the same faults at the
-- same places.
pub record ReadsByNumbers (program : Program) (reader : Reader Id Id) : Type 0 where
  pub types : (type : TypeName) → type_tree reader type ≡ type_tree (numbered program reader) type
  pub declared_types : (at : ℕ) (type : TypeName) → mapped (λ read. read.tree) (read_type reader at type)
      ≡ mapped (λ read. read.tree) (read_type (numbered program reader) at type)
  pub first_values : (init : Option Expr) → read_initial reader init ≡ read_initial (numbered program reader) init
  pub bodies : (block : Block) → read_body reader block ≡ read_body (numbered program reader) block

-- A program with numbers differs from it in keys alone, and its places are alike, so that trees are read as the same.
pub record ProgramsNumbered : Type 0 where
  pub views : (program : Program) → IsProgram program → HasKeys (keys_of program) (program_view program) (numbered_view program)
  pub readers : (program : Program) (reader : Reader Id Id) → IsProgram program → reader.view ≡ program_view program
      → reader.ids ≡ program_ids program → OwnStands (program_view program).classes reader.header
      → ReadersAlike (keys_of program) (λ id. id) reader (numbered program reader)
  pub readings : (program : Program) (reader : Reader Id Id) → IsProgram program → reader.view ≡ program_view program
      → reader.ids ≡ program_ids program → OwnStands (program_view program).classes reader.header → ReadsByNumbers program reader
