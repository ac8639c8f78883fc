-- A member of source files as it is read from the list of its class.
use Rattle.std.proofs.Common.{◌≡◌, ◌∙◌, ◌<◌, List, length, get_or, Some, slice_get, refl, sym, ap, subst}
use Rattle.std.proofs.lemmas.Option.{same_Some, slice_get_read, slice_get_within}
use Rattle.jav_scope.specs.declared.found.MemberRef.{MemberRef}
use Rattle.jav_scope.specs.declared.source.SourceUnit.{SourceUnit}
use Rattle.jav_tree.specs.declared.unit.Member.{Member}
use Rattle.mol_resolve_members.specs.numbers.Members.{IsMember}
use Rattle.mol_resolve_members.specs.places.Listings.{HasMember, key_of}

pub source-read : (sources : List SourceUnit) (at : MemberRef) (source : SourceUnit) → HasMember sources at
    → source ≡ get_or sources at.unit source → slice_get sources at.unit ≡ Some source
source-read sources at source has is =
    slice_get_read sources (length sources) at.unit source refl (slice_get_within sources at.unit has.source has.stands) is

pub member-read : (sources : List SourceUnit) (at : MemberRef) (source : SourceUnit) (members : List Member) (kept : Member)
    → HasMember sources at → source ≡ get_or sources at.unit source → members ≡ source.unit.class.members
    → kept ≡ get_or members at.member kept → IsMember sources (key_of at) kept
member-read sources at source members kept has at-unit are is =
    let there = source-read sources at source has at-unit in
    let same : members ≡ has.source.unit.class.members =
    are ∙ ap (λ (source : SourceUnit). source.unit.class.members) (same_Some source has.source (sym there ∙ has.stands)) in
    let within : at.member < length members = subst (λ (all : List Member). at.member < length all) (sym same) has.within in
    record {
      source = source;
      stands = there;
      is = ap (λ (all : List Member). slice_get all at.member) (sym are)
          ∙ slice_get_read members (length members) at.member kept refl within is;
    }
