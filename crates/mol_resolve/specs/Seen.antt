-- What a reader of files holds, by the files that each part of it sees.
use Rattle.std.specs.Prelude.{◌≡◌, List}
use Rattle.jav_scope.specs.declared.source.SourceUnit.{SourceUnit}

-- All see the same files.
pub record AreSeen (sources scope numbers finder headers related : List SourceUnit) : Type 0 where
  pub scope_sees : scope ≡ sources
  pub numbers_see : numbers ≡ sources
  pub finder_sees : finder ≡ sources
  pub headers_see : headers ≡ sources
  pub related_see : related ≡ sources
