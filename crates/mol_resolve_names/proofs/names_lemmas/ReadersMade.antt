-- What is kept of a member is what its reader is made of.
use Rattle.std.proofs.Common.{◌≡◌, ◌∙◌, ℕ, Bool, List, map, sym}
use Rattle.std.specs.List.{zip}
use Rattle.jav_scope.specs.declared.source.SourceUnit.{SourceUnit}
use Rattle.jav_tree.specs.declared.unit.Param.{Param}
use Rattle.jav_names.specs.TypeTexts.{type_in}
use Rattle.jav_names.specs.UnitViews.{classes_of, header_of}
use Rattle.mol_base.specs.declared.ident.Id.{Id}
use Rattle.mol_resolve_names.specs.chains.InMembers.{reader_in, view_param}
use Rattle.mol_resolve_names.specs.declared.chains.parameter.Parameter.{Parameter}
use Rattle.mol_resolve_members.specs.members.Rows.{type_at}
use Rattle.mol_resolve_names.specs.names.Given.{given_param}
use Rattle.mol_resolve_members.proofs.sources_lemmas.Sourced.{sources_viewed}
use Rattle.mol_resolve_members.specs.sources.Sources.{file_of, files_of}
use Rattle.mol_resolve_rules.specs.Files.{PlacedMember}
use Rattle.mol_resolve_rules.specs.ReadFiles.{file_reader, is_constructor_member, member_reader, parameter_of}

-- its parameters
pub given-made : (sources seen : List SourceUnit) (unit : ℕ) (source : SourceUnit) (ids declared : List Id) (params : List Param)
    (given : List Parameter) → seen ≡ sources → ids ≡ declared
    → map view_param given ≡ map (given_param (type_at seen unit source)) (zip ids params)
    → map view_param given ≡ map (parameter_of (file_reader (files_of sources) (unit, file_of source))) (zip declared params)
given-made sources seen unit source ids declared params given known same is =
    is ∙ (λ i. map (given_param (type_at (known i) unit source)) (zip (same i) params))
    ∙ (λ i. map (given_param (type_in (classes_of (sym (sources_viewed.same_units sources) i)) (header_of (unit, source.unit))))
    (zip declared params))

pub reader-made : (sources seen : List SourceUnit) (kept : SourceUnit) (params : List Parameter) (inside : Bool) (at : PlacedMember)
    → seen ≡ sources → file_of kept ≡ at.file → map view_param params ≡ (member_reader (files_of sources) at).params
    → inside ≡ is_constructor_member at.member → reader_in seen at.number kept params inside ≡ member_reader (files_of sources) at
reader-made sources seen kept params inside at known file given within =
    λ i. record (file_reader (files_of (known i)) (at.number, file i)) { params = given i; in_constructor = within i }
