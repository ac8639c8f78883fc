-- Laws of the tree as printed.
use Rattle.std.specs.Prelude.{◌≡◌}
use Rattle.jav_tree.specs.declared.unit.Unit.{Unit as Source}
use Rattle.jav_tree.specs.Layout.{unit_text}
use Rattle.jav_tree.specs.Parens.{unit_without_parens}
use Rattle.jav_tree.specs.WithParens.{unit_with_parens}

-- The text of a tree is that of the tree as printed: the layout drops the parentheses that stand, and puts its own.
abbrev pub PrintsAsPrinted : Type 0
PrintsAsPrinted = (u : Source) → unit_text (unit_with_parens u) ≡ unit_text u

-- The tree as printed differs from the tree in its parentheses alone.
abbrev pub DropsToTheSame : Type 0
DropsToTheSame = (u : Source) → unit_without_parens (unit_with_parens u) ≡ unit_without_parens u

-- Parentheses that stand make no difference to the tree as printed,
abbrev pub DropsBeforePrinting : Type 0
DropsBeforePrinting = (u : Source) → unit_with_parens (unit_without_parens u) ≡ unit_with_parens u

-- and those that the layout puts stay as they are.
abbrev pub SettledWhenPrinted : Type 0
SettledWhenPrinted = (u : Source) → unit_with_parens (unit_with_parens u) ≡ unit_with_parens u
