-- The classes above a class.
use Rattle.std.specs.Prelude.{ℕ, zero, suc, Bool, List, [], ◌∷◌, Option, None, Some, if◌then◌else◌}
use Rattle.std.specs.List.{list_any}
use Rattle.std.specs.FinMap.{len}
use Rattle.mol_base.specs.declared.ident.Id.{Id}
use Rattle.mol_table_rules.specs.Program.{Program, same_id, living_at, parent_at}

-- the superclass of a class, where that is a class of the program and lives
abbrev pub living_parent : Program → Option Id → Option Id
living_parent program None = None
living_parent program (Some parent) = if living_at program parent then Some parent else None

-- the next class, unless it was met already
abbrev pub unmet : List Id → Option Id → Option Id
unmet met None = None
unmet met (Some class) = if list_any (same_id class) met then None else Some class

-- the classes that are met from one on, each once, in at most so many steps
abbrev pub walk : ℕ → Program → List Id → Option Id → List Id
walk zero program met at = []
walk (suc steps) program met None = []
walk (suc steps) program met (Some class) =
    class ∷ walk steps program (class ∷ met) (unmet (class ∷ met) (living_parent program (parent_at program class)))

-- A class, living or not, and then its ancestors from the nearest up: the superclasses that are met on the way while each
-- lives (JLS 8.1.4). The way ends before a class that is on it already, so that it has no more steps than there are
-- identities.
abbrev pub way : Program → Id → List Id
way program class = walk (suc (len program.known)) program [] (Some class)

-- the second class is the first one, or an ancestor of it
abbrev pub is_on_way : Program → Id → Id → Bool
is_on_way program class above = list_any (same_id above) (way program class)
