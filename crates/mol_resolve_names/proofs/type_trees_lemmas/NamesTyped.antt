-- The type of a name in a file, by what the name reads as in the scope.
use Rattle.std.proofs.Common.{◌≡◌, ◌∙◌, ℕ, List, Option, ap, sym}
use Rattle.jav_scope.specs.declared.source.SourceUnit.{SourceUnit}
use Rattle.jav_tree.specs.declared.types.TypeName.{TypeName}
use Rattle.jav_tree.specs.declared.types.TypeName.TheVariants as types
use Rattle.jav_tree.specs.declared.unit.Unit.{Unit as Source}
use Rattle.jav_scope.specs.typenames.Readings.{type_read}
use Rattle.jav_names.specs.DottedNames.{Name, cut}
use Rattle.jav_names.specs.LookUps.{type_named}
use Rattle.jav_names.specs.Types.{TypeReading}
use Rattle.jav_names.specs.TypeTexts.{type_in}
use Rattle.jav_names.specs.UnitViews.{MemberKey, classes_of, header_of}
use Rattle.jav_names.specs.Views.{ViewType}
use Rattle.jav_scope.specs.Entries.{classes_in}
use Rattle.mol_resolve_members.proofs.sources_lemmas.Sourced.{sources_viewed}
use Rattle.mol_resolve_members.specs.sources.Sources.{file_of, files_of}
use Rattle.mol_resolve_rules.proofs.ReadEquations.{tree-Named}
use Rattle.mol_resolve_rules.specs.Files.{File}
use Rattle.mol_resolve_rules.specs.Readers.{Reader}
use Rattle.mol_resolve_rules.specs.ReadFiles.{file_reader}
use Rattle.mol_resolve_rules.specs.ReadTypes.{named_tree, seen_type, type_tree}
use Rattle.mol_values_types.specs.declared.itype.IType.{IType}

module _ (sources : List SourceUnit) (unit : ℕ) (source : SourceUnit) where
  abbrev pub reader : Reader ℕ MemberKey
  reader = file_reader (files_of sources) (unit, file_of source)

  pub named_typed : (numbered : List SourceUnit) (name : Name) (reading : TypeReading ℕ) (tree : Option IType) → numbered ≡ sources
      → ((file : ℕ × File) → tree ≡ named_tree (file_reader (files_of numbered) file) reading)
      → reading ≡ type_read sources unit source name → tree ≡ type_tree reader (types.Named name)
  named_typed numbered name reading tree same made read =
      made (unit, file_of source)
      ∙ ap (λ (all : List SourceUnit). named_tree (file_reader (files_of all) (unit, file_of source)) reading) same
      ∙ ap (named_tree reader) (read ∙ ap (λ (units : List Source). type_named (classes_of units) (header_of (unit, source.unit))
      (cut name).first (cut name).rest) (sym (sources_viewed.same_units sources)))
      ∙ sym (tree-Named reader name)

  -- and as the rules on names look at a type
  pub seen_in_file : (ty : TypeName) (seen : ViewType ℕ) → seen ≡ type_in (classes_in sources) (header_of (unit, source.unit)) ty
      → seen ≡ seen_type reader ty
  seen_in_file ty seen is = is ∙ ap (λ (units : List Source). type_in (classes_of units) (header_of (unit, source.unit)) ty)
      (sym (sources_viewed.same_units sources))
