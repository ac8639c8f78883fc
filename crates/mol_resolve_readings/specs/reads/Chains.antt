-- What names with dots between them begin with (JLS 6.5.2), as the code keeps it.
use Rattle.std.specs.Prelude.{ℕ, suc, ◌-◌, ◌++◌, ◌==◌, length, Option, Some, None, if◌then◌else◌, nat_lt}
use Rattle.jav_names.specs.DottedNames.{Names, Dotted}
use Rattle.jav_names.specs.Leftmost.{Leftmost, leftmost_variable, leftmost_class, leftmost_import, leftmost_outside}
use Rattle.jav_names.specs.LookUps.{leftmost}
use Rattle.jav_names.specs.UnitViews.{MemberKey}
use Rattle.mol_resolve_readings.specs.declared.reads.chain.Chain.{Chain}
use Rattle.mol_resolve_readings.specs.declared.reads.chain.Chain.TheVariants as chain
use Rattle.mol_resolve_readings.specs.declared.reads.chain.ClassPath.{ClassPath as Path}
use Rattle.mol_resolve_readings.specs.declared.reads.chain.ClassPath.TheVariants as path
use Rattle.mol_resolve_rules.specs.Locals.{Locals}
use Rattle.mol_resolve_rules.specs.Readers.{Reader, place_of}
use Rattle.mol_resolve_rules.specs.ReadTrees.{ClassPath, whole_path, front_path, no_path}

-- so many names, where the leftmost of them and of those that follow reads so
abbrev pub chain_by : ℕ → Leftmost ℕ MemberKey → Chain
chain_by count (leftmost_class class spelling) = chain.Class class spelling count
chain_by count (leftmost_variable variable) = chain.NoClass
chain_by count (leftmost_import import) = chain.NoClass
chain_by count leftmost_outside = chain.NoClass

-- the names that an expression is, if it is nothing but names, where these follow after further dots
abbrev pub chain_of : Reader ℕ MemberKey → Locals ℕ → Option Dotted → Names → Chain
chain_of reader locals None follow = chain.NoNames
chain_of reader locals (Some names) follow =
    chain_by (suc (length names.rest)) (leftmost reader.view (place_of reader locals) names.first (names.rest ++ follow))

-- without the last of the names
abbrev pub before_last : Chain → Chain
before_last (chain.Class class spelling count) = chain.Class class spelling (count - 1)
before_last chain.NoClass = chain.NoClass
before_last chain.NoNames = chain.NoNames

-- what the names spell
abbrev pub path_in : Chain → Path
path_in (chain.Class class spelling count) =
    if spelling == count then path.Whole class else if nat_lt count spelling then path.Front else path.NoPath
path_in chain.NoClass = path.NoPath
path_in chain.NoNames = path.NoPath

abbrev pub view_path : Path → ClassPath ℕ
view_path (path.Whole class) = whole_path class
view_path path.Front = front_path
view_path path.NoPath = no_path
