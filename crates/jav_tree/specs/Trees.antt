-- Which tokens are a whole tree, within the limits: no list of arguments or parameters and no array type or array creation
-- has more than `limit` items, and nothing is higher than `max_height`.
use Rattle.std.specs.Prelude.{◌≡◌, ℕ, ◌≤◌, List, None}
use Rattle.mol_base.specs.Token.{Token}
use Rattle.jav_tree.specs.declared.types.TypeName.{TypeName}
use Rattle.jav_tree.specs.declared.expr.Expr.{Expr}
use Rattle.jav_tree.specs.declared.stmt.Block.{Block}
use Rattle.jav_tree.specs.declared.stmt.Stmt.{Stmt}
use Rattle.jav_tree.specs.declared.unit.Member.{Member}
use Rattle.jav_tree.specs.declared.unit.Unit.{Unit as Source}
use Rattle.jav_tree.specs.Blocks.{block_of}
use Rattle.jav_tree.specs.Types.{WholeType}
use Rattle.jav_tree.specs.Expressions.{Expression}
use Rattle.jav_tree.specs.Statements.{ConstructorBlock}
use Rattle.jav_tree.specs.Members.{Declared}
use Rattle.jav_tree.specs.Units.{SourceFile}

-- a source file
abbrev pub IsUnit : ℕ → ℕ → Source → List Token → Type 0
IsUnit limit max_height u ts = (h : ℕ) × (h ≤ max_height) × SourceFile limit h u ts

-- the declaration of one member, or of several fields, outside a class: a constructor may have any name
abbrev pub IsMember : ℕ → ℕ → List Member → List Token → Type 0
IsMember limit max_height ms ts = (h : ℕ) × (h ≤ max_height) × Declared limit None h ms ts

-- the block of a body, which may begin with `super(..)`
abbrev pub IsBody : ℕ → ℕ → Block → List Token → Type 0
IsBody limit max_height b ts = (h : ℕ) × (items : List Stmt) × (tail : List (List ℕ)) × (h ≤ max_height) × ConstructorBlock limit h items tail ts × (b ≡ block_of items tail)

-- an expression; items in braces are none
abbrev pub IsExpr : ℕ → ℕ → Expr → List Token → Type 0
IsExpr limit max_height e ts = (h : ℕ) × (h ≤ max_height) × Expression limit 1 h e ts

-- a type; `void` is none
abbrev pub IsType : ℕ → TypeName → List Token → Type 0
IsType limit to ts = WholeType limit to ts
