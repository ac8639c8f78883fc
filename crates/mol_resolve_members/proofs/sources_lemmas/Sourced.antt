-- Source files of a scope as files: what stands at their places, and in their view.
use Rattle.std.proofs.Common.{◌≡◌, ℕ, List, [], ◌∷◌, Option, Some, None, option_map, slice_get, refl, sym, ◌∙◌, ap}
use Rattle.std.proofs.lemmas.Option.{same_Some, slice_get-map}
use Rattle.jav_names.specs.UnitViews.{view_of}
use Rattle.jav_scope.specs.Entries.{units_of}
use Rattle.jav_scope.specs.declared.source.SourceUnit.{SourceUnit}
use Rattle.mol_resolve_rules.specs.Files.{File, HasFile, units}
use Rattle.mol_resolve_members.specs.sources.Sources.{file_of, files_of, SourcesViewed}

units-are : (sources : List SourceUnit) → units (files_of sources) ≡ units_of sources
units-are [] = refl
units-are (source ∷ sources) = ap (λ units. source.unit ∷ units) (units-are sources)

pub sources_viewed : SourcesViewed
sources_viewed = record { same_units = units-are; same_view = λ sources. ap view_of (units-are sources) }

module _ (sources : List SourceUnit) (place : ℕ) where
  pub file-there : (source : SourceUnit) → slice_get sources place ≡ Some source → HasFile (files_of sources) place (file_of source)
  file-there source at = slice_get-map file_of sources place ∙ ap (option_map file_of) at

  pub source-there : (file : File) → HasFile (files_of sources) place file
      → (source : SourceUnit) × (slice_get sources place ≡ Some source) × (file_of source ≡ file)
  source-there file at = by (slice_get sources place) refl (sym (slice_get-map file_of sources place) ∙ at) where
    by : (found : Option SourceUnit) → slice_get sources place ≡ found → option_map file_of found ≡ Some file
        → (source : SourceUnit) × (slice_get sources place ≡ Some source) × (file_of source ≡ file)
    by None there is = absurd cc
    by (Some source) there is = (source, there, same_Some (file_of source) file is)
