use Rattle.std.proofs.Common.{◌≡◌, ◌∙◌, List, length, map, get_or, slice_get, sym, ap, subst}
use Rattle.std.specs.List.{zip}
use Rattle.std.proofs.lemmas.Option.{get_or_from_slice_get}
use Rattle.jav_scope.specs.declared.source.SourceUnit.{SourceUnit}
use Rattle.jav_tree.specs.declared.unit.Member.{Member}
use Rattle.jav_tree.specs.declared.unit.Param.{Param}
use Rattle.mol_resolve_members.specs.members.Rows.{type_at}
use Rattle.mol_resolve_names.proofs.names_lemmas.DeclaredIds.{found, ids-counted}
use Rattle.mol_resolve_names.proofs.names_lemmas.MembersRead.{member-read, source-read}
use Rattle.mol_resolve_names.proofs.names_lemmas.ReadersMade.{given-made, reader-made}
use Rattle.mol_resolve_names.proofs.names.member_names.MemberNames.new.Goals as goal
use Rattle.mol_resolve_names.specs.names.Given.{given_param}
use Rattle.mol_resolve_members.specs.numbers.Members.{IsMember}
use Rattle.mol_resolve_members.specs.places.Listings.{key_of}
use Rattle.mol_resolve_members.specs.sources.Sources.{file_of, files_of}
use Rattle.mol_resolve_rules.specs.Files.{params_of, placed}
use Rattle.mol_resolve_rules.specs.ReadFiles.{declared_ids, is_constructor_member}

pub param_ids-requires : goal.param_ids-requires
param_ids-requires c = subst (λ (all : List SourceUnit). IsMember all (key_of c.args.at) c.index-file_members-at.result)
    (sym c.requires.numbers) (member-read c.args.sources.now c.args.at c.index-sources-at.result c.items-file_members.result.now
    c.index-file_members-at.result c.requires.member c.index-sources-at.is c.items-file_members.ensures c.index-file_members-at.is)

pub parameters-requires-clause-ids : goal.parameters-requires-clause-ids
parameters-requires-clause-ids c =
    let member = member-read c.args.sources.now c.args.at c.index-sources-at.result c.items-file_members.result.now
    c.index-file_members-at.result c.requires.member c.index-sources-at.is c.items-file_members.ensures c.index-file_members-at.is in
    ap length (c.as_slice.ensures.value ∙ c.in_ok-ids.ensures)
    ∙ ids-counted c.args.numbers.now c.args.at c.index-file_members-at.result
    (subst (λ (all : List SourceUnit). IsMember all (key_of c.args.at) c.index-file_members-at.result) (sym c.requires.numbers) member)
    ∙ ap length (sym c.params_of.ensures)

pub invariant_of-result : goal.invariant_of-result
invariant_of-result c = record {
  stands = record {
    numbers = c.requires.numbers ∙ sym c.requires.finder;
    counted = ap length (sym c.requires.finder);
    file = ap (λ (all : List SourceUnit). slice_get all c.args.at.unit) c.requires.finder
        ∙ source-read c.args.sources.now c.args.at c.index-sources-at.result c.requires.member c.index-sources-at.is;
  };
}

pub returns : goal.returns
returns c = λ source member at there.
    let sources = c.args.sources.now in
    let kept = c.index-file_members-at.result in
    let same : c.index-sources-at.result ≡ source =
    c.index-sources-at.is ∙ get_or_from_slice_get sources c.args.at.unit source c.index-sources-at.result at in
    let same_member : kept ≡ member =
    c.index-file_members-at.is ∙ ap (λ (all : List Member). get_or all c.args.at.member kept)
    (c.items-file_members.ensures ∙ ap (λ (source : SourceUnit). source.unit.class.members) same)
    ∙ get_or_from_slice_get source.unit.class.members c.args.at.member member kept there in
    let known : c.scope.result.now ≡ sources = c.scope.ensures ∙ c.requires.finder in
    let ids : c.as_slice.result.now ≡ declared_ids (files_of sources) (found sources c.args.at) =
    c.as_slice.ensures.value ∙ c.in_ok-ids.ensures
    ∙ ap (λ (all : List SourceUnit). declared_ids (files_of all) (found all c.args.at)) c.requires.numbers in
    reader-made sources c.args.finder.now c.index-sources-at.result c.in_ok-params.params.items c.is_constructor.result
    (placed (files_of sources) (c.args.at.unit, file_of source) (c.args.at.member, member)) c.requires.finder (ap file_of same)
    (given-made sources c.scope.result.now c.args.at.unit source c.as_slice.result.now
    (declared_ids (files_of sources) (found sources c.args.at)) (params_of member) c.in_ok-params.params.items known ids
    (c.in_ok-params.ensures source (ap (λ (all : List SourceUnit). slice_get all c.args.at.unit) known ∙ at)
    ∙ ap (λ (params : List Param). map (given_param (type_at c.scope.result.now c.args.at.unit source)) (zip c.as_slice.result.now params))
    (c.params_of.ensures ∙ ap params_of same_member)))
    (c.is_constructor.ensures ∙ ap is_constructor_member same_member)
