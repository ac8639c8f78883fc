-- Places make no difference to what is printed: trees that are equal but for them have one text, and are equally high as printed.
use Rattle.std.specs.Prelude.{◌≡◌}
use Rattle.jav_tree.specs.declared.expr.Expr.{Expr}
use Rattle.jav_tree.specs.declared.stmt.Block.{Block}
use Rattle.jav_tree.specs.declared.unit.Unit.{Unit as Source}
use Rattle.jav_tree.specs.ExpressionText.{expr_text}
use Rattle.jav_tree.specs.Layout.{body_alone, unit_text}
use Rattle.jav_tree.specs.Places.{SameExpr, SameBlock, SameUnit}
use Rattle.jav_tree.specs.WithParens.{expr_with_parens, block_with_parens, unit_with_parens, expr_printed_height, block_printed_height, unit_printed_height}

-- the texts
abbrev pub UnitsPrintAlike : Type 0
UnitsPrintAlike = (t u : Source) → SameUnit t u → unit_text t ≡ unit_text u

abbrev pub BodiesPrintAlike : Type 0
BodiesPrintAlike = (a b : Block) → SameBlock a b → body_alone a ≡ body_alone b

abbrev pub ExprsPrintAlike : Type 0
ExprsPrintAlike = (d e : Expr) → SameExpr d e → expr_text d ≡ expr_text e

-- the trees as printed
abbrev pub UnitsPrintedAlike : Type 0
UnitsPrintedAlike = (t u : Source) → SameUnit t u → SameUnit (unit_with_parens t) (unit_with_parens u)

abbrev pub BodiesPrintedAlike : Type 0
BodiesPrintedAlike = (a b : Block) → SameBlock a b → SameBlock (block_with_parens a) (block_with_parens b)

abbrev pub ExprsPrintedAlike : Type 0
ExprsPrintedAlike = (d e : Expr) → SameExpr d e → SameExpr (expr_with_parens d) (expr_with_parens e)

-- and their heights
abbrev pub UnitsAreAsHigh : Type 0
UnitsAreAsHigh = (t u : Source) → SameUnit t u → unit_printed_height t ≡ unit_printed_height u

abbrev pub BodiesAreAsHigh : Type 0
BodiesAreAsHigh = (a b : Block) → SameBlock a b → block_printed_height a ≡ block_printed_height b

abbrev pub ExprsAreAsHigh : Type 0
ExprsAreAsHigh = (d e : Expr) → SameExpr d e → expr_printed_height d ≡ expr_printed_height e
