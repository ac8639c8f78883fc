-- The members of source files in the order in which they are numbered.
use Rattle.std.specs.Prelude.{◌≡◌, ℕ, List, Some, flat_map, slice_get}
use Rattle.std.specs.List.{position_or_len}
use Rattle.jav_tree.specs.declared.unit.Member.{Member}
use Rattle.jav_names.specs.UnitViews.{MemberKey}
use Rattle.jav_names.specs.Views.{ViewDeclaration}
use Rattle.jav_scope.specs.Entries.{view_in}
use Rattle.jav_scope.specs.declared.found.MemberRef.{MemberRef}
use Rattle.jav_scope.specs.declared.source.SourceUnit.{SourceUnit}
use Rattle.mol_resolve_members.specs.places.Listings.{key_of, members_in}
use Rattle.mol_resolve_members.specs.places.Orders.{numbers_by_path}
use Rattle.mol_resolve_members.specs.sources.Sources.{files_of}
use Rattle.mol_resolve_rules.specs.Files.{declaration_at}
use Rattle.mol_resolve_rules.specs.Numbering.{keys_in_order, same_key}

-- The member of this key.
pub record IsMember (sources : List SourceUnit) (key : MemberKey) (member : Member) : Type 0 where
  pub source : SourceUnit
  pub stands : slice_get sources key.unit ≡ Some source
  pub is : slice_get source.unit.class.members key.member ≡ Some member

-- This member is a declaration that takes so many arguments.
pub record HasArity (sources : List SourceUnit) (at : MemberRef) (arity : ℕ) : Type 0 where
  pub declared : ViewDeclaration ℕ MemberKey
  pub stands : declaration_at (view_in sources) (key_of at) ≡ Some declared
  pub takes : declared.arity ≡ arity

-- all members, with their keys
abbrev pub members_of : List SourceUnit → List (MemberKey × Member)
members_of sources = flat_map (members_in sources) (numbers_by_path sources)

abbrev pub keys_of : List SourceUnit → List MemberKey
keys_of sources = keys_in_order (files_of sources)

-- the place of a key among those of all members
abbrev pub place_of : List SourceUnit → MemberKey → ℕ
place_of sources key = position_or_len (same_key key) (keys_of sources)
