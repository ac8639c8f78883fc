-- How an expression stands, as the code keeps it: before a dot, what it begins with, together with the names that follow.
use Rattle.std.specs.Prelude.{ℕ, Option, Some, None}
use Rattle.jav_names.specs.DottedNames.{Dotted}
use Rattle.jav_names.specs.UnitViews.{MemberKey}
use Rattle.mol_resolve_expr.specs.declared.stand.Stand.{Stand}
use Rattle.mol_resolve_expr.specs.declared.stand.Stand.TheVariants as stand
use Rattle.mol_resolve_readings.specs.reads.Chains.{chain_of}
use Rattle.mol_resolve_rules.specs.Locals.{Locals}
use Rattle.mol_resolve_rules.specs.Readers.{Reader}
use Rattle.mol_resolve_rules.specs.ReadTrees.{Mode}

-- an expression that is these names, if it is nothing but names
abbrev pub stand_of : Reader ℕ MemberKey → Locals ℕ → Option Dotted → Mode → Stand
stand_of reader locals names None = stand.Alone
stand_of reader locals names (Some follow) = stand.Before (chain_of reader locals names follow)
