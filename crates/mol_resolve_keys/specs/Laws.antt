-- That readings of trees do not depend on keys.
use Rattle.std.specs.Prelude.{◌≡◌, ℕ, Option, option_map}
use Rattle.mol_base.specs.declared.ident.Id.{Id}
use Rattle.jav_tree.specs.declared.expr.Expr.{Expr}
use Rattle.jav_tree.specs.declared.stmt.Block.{Block}
use Rattle.jav_tree.specs.declared.types.TypeName.{TypeName}
use Rattle.jav_names_laws.specs.Keys.{Keys, type_as}
use Rattle.mol_resolve_keys.specs.Alike.{locals_as, meant_as, renamed_meant, ReadersAlike}
use Rattle.mol_resolve_rules.specs.Locals.{Locals}
use Rattle.mol_resolve_rules.specs.Outcomes.{mapped}
use Rattle.mol_resolve_rules.specs.Readers.{Reader}
use Rattle.mol_resolve_rules.specs.ReadStatements.{block_reading, read_initial, read_body}
use Rattle.mol_resolve_rules.specs.ReadTrees.{Mode, reading, read_expr}
use Rattle.mol_resolve_rules.specs.ReadTypes.{type_tree, seen_type, read_type}
use Rattle.mol_values_types.specs.Renamed.{rename_type, rename_expr, rename_block, rename_body}

-- What trees are read as by the first reader is what they are read as by the second, renamed, with the same faults at the same places.
pub record TreesReadAlike {C M D N : Type 0} (keys : Keys C M D N) (name : Id → Id) (first : Reader C M)
    (second : Reader D N) : Type 0 where
  -- types: as a program keeps them, and as rules on names look at them
  pub types : (type : TypeName) → type_tree first type ≡ option_map (rename_type name) (type_tree second type)
  pub seen_types : (type : TypeName) → type_as keys.class (seen_type first type) ≡ seen_type second type
  pub declared_types : (at : ℕ) (type : TypeName) → mapped (λ read. read.tree) (read_type first at type)
      ≡ mapped (λ read. rename_type name read.tree) (read_type second at type)
  -- expressions: alone, and before a dot
  pub meanings : (locals : Locals C) (mode : Mode) (e : Expr) → mapped (meant_as keys.class) ((reading first e).means locals mode)
      ≡ mapped (renamed_meant name) ((reading second e).means (locals_as keys.class locals) mode)
  pub expressions : (locals : Locals C) (e : Expr) → read_expr first locals e
      ≡ mapped (rename_expr name) (read_expr second (locals_as keys.class locals) e)
  -- blocks, and the locals after them
  pub blocks : (locals : Locals C) (block : Block) → (block_reading first block locals).outcome
      ≡ mapped (rename_block name) (block_reading second block (locals_as keys.class locals)).outcome
  pub locals : (locals : Locals C) (block : Block) → locals_as keys.class (block_reading first block locals).locals
      ≡ (block_reading second block (locals_as keys.class locals)).locals
  -- what members hold
  pub first_values : (init : Option Expr) → read_initial first init ≡ mapped (option_map (rename_expr name)) (read_initial second init)
  pub bodies : (block : Block) → read_body first block ≡ mapped (rename_body name) (read_body second block)

-- Readers that are alike read trees alike. Keys are of these types.
abbrev pub ReadingsAlike : Type 0 → Type 0 → Type 0 → Type 0 → Type 0
ReadingsAlike C M D N = (keys : Keys C M D N) (name : Id → Id) (first : Reader C M) (second : Reader D N)
    → ReadersAlike keys name first second → TreesReadAlike keys name first second
