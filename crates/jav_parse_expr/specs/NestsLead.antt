-- How high a part is that begins a statement.
use Rattle.std.specs.Prelude.{ℕ, ◌≤◌}
use Rattle.jav_parse_expr.specs.declared.action.Lead.{Lead}
use Rattle.jav_parse_expr.specs.declared.action.Lead.TheVariants.{Declaration, Part}

-- a part is no higher than this
abbrev pub IsLow : ℕ → Lead → Type 0
IsLow top (Declaration to) = Unit {0}
IsLow top (Part x) = x.height ≤ top
