-- The members of files with their keys.
use Rattle.std.specs.Prelude.{◌≡◌, ◌<◌, ℕ, List, [], length, map, Some, slice_get}
use Rattle.std.specs.Option.{option_map_or}
use Rattle.jav_tree.specs.declared.unit.Member.{Member}
use Rattle.jav_names.specs.UnitViews.{MemberKey, numbered}
use Rattle.jav_scope.specs.declared.found.MemberRef.{MemberRef}
use Rattle.jav_scope.specs.declared.source.SourceUnit.{SourceUnit}
use Rattle.mol_resolve_members.specs.declared.places.listed.Listed.{Listed}

abbrev pub key_of : MemberRef → MemberKey
key_of at = record { unit = at.unit; member = at.member }

-- There is such a member.
pub record HasMember (sources : List SourceUnit) (at : MemberRef) : Type 0 where
  pub source : SourceUnit
  pub stands : slice_get sources at.unit ≡ Some source
  pub within : at.member < length source.unit.class.members

-- a numbered member of the file of this number, with its key
abbrev pub with_key : ℕ → ℕ × Member → MemberKey × Member
with_key unit (number, member) = (record { unit = unit; member = number }, member)

abbrev pub as_listed : Listed → MemberKey × Member
as_listed listed = (key_of listed.at, listed.member.now)

-- the members of the file of this number
abbrev pub members_in : List SourceUnit → ℕ → List (MemberKey × Member)
members_in sources unit =
    option_map_or (λ (source : SourceUnit). map (with_key unit) (numbered source.unit.class.members)) (slice_get sources unit) []
