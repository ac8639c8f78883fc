-- Members class by class.
use Rattle.std.specs.Prelude.{ℕ, ◌||◌, List, [], Option, Some, None, slice_get, flat_map}
use Rattle.jav_names.specs.LookUps.{ancestors}
use Rattle.mol_resolve_rules.specs.Files.{File, Files, files_view}
use Rattle.mol_resolve_rules.specs.MemberFaults.{Row}
use Rattle.mol_resolve_rules.specs.ResolveFaults.{rows_in}
use Rattle.mol_resolve_faults.specs.beside.Beside.{Faulty}

abbrev pub rows_if : Files → ℕ → Option File → List (Row ℕ)
rows_if files class None = []
rows_if files class (Some file) = rows_in files (class, file)

-- the rows of the members of a class
abbrev pub rows_of : Files → ℕ → List (Row ℕ)
rows_of files class = rows_if files class (slice_get files class)

-- the rows of the members of its ancestors
abbrev pub rows_above : Files → ℕ → List (Row ℕ)
rows_above files class = flat_map (rows_of files) (ancestors (files_view files) class)

-- the faults of both
abbrev pub either : Faulty → Faulty → Faulty
either first second = record {
  duplicate = first.duplicate || second.duplicate;
  overload = first.overload || second.overload;
  result = first.result || second.result;
  static = first.static || second.static;
}
