-- What statements are made of, by their parts as they are read (JLS 14).
use Rattle.std.specs.Prelude.{ℕ, List, [], ◌∷◌, ◌++◌, Option, option_map}
use Rattle.jav_names.specs.DottedNames.{Name}
use Rattle.mol_resolve_rules.specs.ReadTrees.{Meant}
use Rattle.mol_values_types.specs.Blocks.{block_of, branch_of}
use Rattle.mol_values_types.specs.declared.iblock.IBlock.{IBlock}
use Rattle.mol_values_types.specs.declared.iblock.IBody.{IBody}
use Rattle.mol_values_types.specs.declared.iblock.IDeclarator.{IDeclarator}
use Rattle.mol_values_types.specs.declared.iblock.IElse.{IElse}
use Rattle.mol_values_types.specs.declared.iblock.IElse.TheVariants as elses
use Rattle.mol_values_types.specs.declared.iblock.IIf.{IIf}
use Rattle.mol_values_types.specs.declared.iblock.IStmt.{IStmt}
use Rattle.mol_values_types.specs.declared.iblock.IStmtNode.{IStmtNode}
use Rattle.mol_values_types.specs.declared.iexpr.IExpr.{IExpr}

-- one more item after others
abbrev pub put_last : {A : Type 0} → List A × A → List A
put_last parts = parts.0 ++ parts.1 ∷ []

-- the tree of an expression that is read, where it has one
abbrev pub tree_part : Option (Meant ℕ) → Option IExpr
tree_part = option_map (λ (value : Meant ℕ). value.tree)

-- with the comments before its end
abbrev pub block : List Name → List IStmt → IBlock
block tail items = block_of items tail

-- with the comments before it
abbrev pub statement : List Name → IStmtNode → IStmt
statement notes node = record { notes = notes; node = node }

abbrev pub declarator : Name → Option IExpr → IDeclarator
declarator name init = record { name = name; init = init }

abbrev pub branches : (IExpr × IBlock) × IElse → IIf
branches parts = branch_of parts.0.0 parts.0.1 parts.1

abbrev pub else_if : IIf → IElse
else_if branches = elses.If branches

-- a statement in a block of its own
abbrev pub else_block : IStmt → IElse
else_block statement = elses.Block (block_of (statement ∷ []) [])

abbrev pub body : IBlock → IBody
body block = record { block = block }
