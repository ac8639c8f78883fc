-- A file of the sources.
use Rattle.std.specs.Prelude.{◌≡◌, ℕ, List, length, Some, slice_get}
use Rattle.jav_scope.specs.declared.source.SourceUnit.{SourceUnit}

-- The identities are those of the files, of which there are so many; and this is the file of this number.
pub record Stands (sources numbered : List SourceUnit) (count unit : ℕ) (source : SourceUnit) : Type 0 where
  pub numbers : numbered ≡ sources
  pub counted : count ≡ length sources
  pub file : slice_get sources unit ≡ Some source
