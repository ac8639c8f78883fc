-- That printed text parses back: it lexes into tokens that the grammar makes into the tree as printed, but for places.
use Rattle.std.specs.Prelude.{ℕ, ◌<◌, ◌≤◌, List}
use Rattle.mol_base.specs.Source.{IsSource}
use Rattle.mol_base.specs.Token.{Token}
use Rattle.jav_tree.specs.declared.expr.Expr.{Expr}
use Rattle.jav_tree.specs.declared.stmt.Block.{Block}
use Rattle.jav_tree.specs.declared.types.TypeName.{TypeName}
use Rattle.jav_tree.specs.declared.unit.Unit.{Unit as Source}
use Rattle.jav_tree.specs.ExpressionText.{expr_text}
use Rattle.jav_tree.specs.Layout.{body_alone, unit_text}
use Rattle.jav_tree.specs.Parens.{expr_without_parens, block_without_parens, unit_without_parens}
use Rattle.jav_tree.specs.Places.{SameExpr, SameBlock, SameUnit}
use Rattle.jav_tree.specs.Printable.{IsPrintable, IsPrintableBody, IsPrintableExpr, IsPrintableType, IsWithinLimits}
use Rattle.jav_tree.specs.Trees.{IsUnit, IsBody, IsExpr, IsType}
use Rattle.jav_tree.specs.TypeText.{type_text}
use Rattle.jav_tree.specs.Widths.{expr_width, block_width, type_width}
use Rattle.jav_tree.specs.WithParens.{expr_with_parens, block_with_parens, unit_with_parens, expr_printed_height, block_printed_height}

-- A text lexes into tokens that are a source file within these limits. It is the tree as printed but for places, so
-- without parentheses it is the tree that was printed.
pub record UnitParsesBack (limit max_height : ℕ) (text : List ℕ) (u : Source) : Type 0 where
  pub tokens : List Token
  pub tree : Source
  pub source : IsSource text tokens
  pub parsed : IsUnit limit max_height tree tokens
  pub as_printed : SameUnit tree (unit_with_parens u)
  pub dropped : SameUnit (unit_without_parens tree) (unit_without_parens u)

-- the same of a body
pub record BodyParsesBack (limit max_height : ℕ) (text : List ℕ) (b : Block) : Type 0 where
  pub tokens : List Token
  pub tree : Block
  pub source : IsSource text tokens
  pub parsed : IsBody limit max_height tree tokens
  pub as_printed : SameBlock tree (block_with_parens b)
  pub dropped : SameBlock (block_without_parens tree) (block_without_parens b)

-- of an expression
pub record ExprParsesBack (limit max_height : ℕ) (text : List ℕ) (e : Expr) : Type 0 where
  pub tokens : List Token
  pub tree : Expr
  pub source : IsSource text tokens
  pub parsed : IsExpr limit max_height tree tokens
  pub as_printed : SameExpr tree (expr_with_parens e)
  pub dropped : SameExpr (expr_without_parens tree) (expr_without_parens e)

-- and of a type, which has neither places nor parentheses
pub record TypeParsesBack (limit : ℕ) (text : List ℕ) (to : TypeName) : Type 0 where
  pub tokens : List Token
  pub source : IsSource text tokens
  pub parsed : IsType limit to tokens

-- What is printable, and within limits that a u32 counts as printed, parses back from a text.
abbrev pub UnitBack : List ℕ → Source → Type 0
UnitBack text u = (limit max_height : ℕ) → max_height < 0xffff_ffff → IsPrintable u → IsWithinLimits limit max_height u → UnitParsesBack limit max_height text u

abbrev pub BodyBack : List ℕ → Block → Type 0
BodyBack text b = (limit max_height : ℕ) → max_height < 0xffff_ffff → IsPrintableBody b → block_width b ≤ limit → block_printed_height b ≤ max_height → BodyParsesBack limit max_height text b

abbrev pub ExprBack : List ℕ → Expr → Type 0
ExprBack text e = (limit max_height : ℕ) → max_height < 0xffff_ffff → IsPrintableExpr e → expr_width e ≤ limit → expr_printed_height e ≤ max_height → ExprParsesBack limit max_height text e

abbrev pub TypeBack : List ℕ → TypeName → Type 0
TypeBack text to = (limit : ℕ) → IsPrintableType to → type_width to ≤ limit → TypeParsesBack limit text to

-- The text of the layout is such a text.
abbrev pub UnitsParseBack : Type 0
UnitsParseBack = (u : Source) → UnitBack (unit_text u) u

abbrev pub BodiesParseBack : Type 0
BodiesParseBack = (b : Block) → BodyBack (body_alone b) b

abbrev pub ExprsParseBack : Type 0
ExprsParseBack = (e : Expr) → ExprBack (expr_text e) e

abbrev pub TypesParseBack : Type 0
TypesParseBack = (to : TypeName) → TypeBack (type_text to) to
