-- Source files of a scope, as files with their paths.
use Rattle.std.specs.Prelude.{◌≡◌, List, map}
use Rattle.jav_scope.specs.Entries.{units_of, view_in}
use Rattle.jav_scope.specs.declared.source.SourceUnit.{SourceUnit}
use Rattle.mol_resolve_rules.specs.Files.{File, Files, units, files_view}

abbrev pub file_of : SourceUnit → File
file_of source = record { path = source.path; unit = source.unit }

abbrev pub files_of : List SourceUnit → Files
files_of sources = map file_of sources

-- What stands in them, and their view, are those of the scope.
pub record SourcesViewed : Type 0 where
  pub same_units : (sources : List SourceUnit) → units (files_of sources) ≡ units_of sources
  pub same_view : (sources : List SourceUnit) → files_view (files_of sources) ≡ view_in sources
