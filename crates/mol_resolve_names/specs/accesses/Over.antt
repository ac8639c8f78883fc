-- Readers over source files.
use Rattle.std.specs.Prelude.{◌≡◌, ℕ, List}
use Rattle.jav_names.specs.UnitViews.{MemberKey}
use Rattle.jav_scope.specs.Entries.{view_in}
use Rattle.jav_scope.specs.declared.source.SourceUnit.{SourceUnit}
use Rattle.mol_resolve_members.specs.sources.Sources.{files_of}
use Rattle.mol_resolve_rules.specs.Numbering.{ids_of}
use Rattle.mol_resolve_rules.specs.Readers.{Reader}

-- It reads by the view of the files and by their identities.
pub record IsOver (sources : List SourceUnit) (reader : Reader ℕ MemberKey) : Type 0 where
  pub view : reader.view ≡ view_in sources
  pub ids : reader.ids ≡ ids_of (files_of sources)
