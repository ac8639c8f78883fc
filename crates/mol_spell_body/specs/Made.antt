-- What statements are made of, by their parts as they are written (JLS 14).
use Rattle.std.specs.Prelude.{Bool, List, Option}
use Rattle.jav_tree.specs.Blocks.{block_of}
use Rattle.jav_tree.specs.declared.expr.Expr.{Expr}
use Rattle.jav_tree.specs.declared.stmt.Block.{Block}
use Rattle.jav_tree.specs.declared.stmt.Declarator.{Declarator}
use Rattle.jav_tree.specs.declared.stmt.Else.{Else}
use Rattle.jav_tree.specs.declared.stmt.Else.TheVariants as otherwise
use Rattle.jav_tree.specs.declared.stmt.Let.{Let}
use Rattle.jav_tree.specs.declared.stmt.Stmt.{Stmt}
use Rattle.jav_tree.specs.declared.stmt.StmtNode.{StmtNode}
use Rattle.jav_tree.specs.declared.stmt.StmtNode.TheVariants as node
use Rattle.jav_tree.specs.declared.types.TypeName.{TypeName}
use Rattle.jav_names.specs.DottedNames.{Name}
use Rattle.mol_spell_rules.specs.SpelledStatements.{bare}

-- with the comments before its end
abbrev pub block : List Name → List Stmt → Block
block tail items = block_of items tail

-- with the comments before it
abbrev pub statement : List Name → StmtNode → Stmt
statement notes made = record { notes = notes; at = 0; node = made }

abbrev pub declarator : Name → Option Expr → Declarator
declarator name init = record { name = name; init = init }

abbrev pub let_of : Bool → TypeName → List Declarator → Let
let_of is_final type names = record { is_final = is_final; ty = type; names = names }

-- an `if` of its test, and of the branch and what follows it
abbrev pub branches : (Expr × Block) × Else → StmtNode
branches parts = node.If parts.0.0 parts.0.1 parts.1

abbrev pub else_if : StmtNode → Else
else_if branch = otherwise.If (bare branch)
