-- How many members stand before a place, where files are in an order.
use Rattle.std.specs.Prelude.{◌≡◌, ℕ, ◌+◌, ◌<◌, ◌^◌, List, map, length, take, slice_get, sum_by}
use Rattle.std.specs.Option.{option_map_or}
use Rattle.jav_scope.specs.declared.source.SourceUnit.{SourceUnit}
use Rattle.mol_resolve_rules.specs.Numbering.{below}
use Rattle.mol_resolve_members.specs.places.Orders.{numbers_by_path, positions}

-- how many members the file of a number has
abbrev pub members_at : List SourceUnit → ℕ → ℕ
members_at sources number = option_map_or (λ (source : SourceUnit). length source.unit.class.members) (slice_get sources number) 0

-- of each place in an order of files how many stand in those before it, and of all at last
abbrev pub counts_before : List SourceUnit → List ℕ → List ℕ
counts_before sources order = map (λ place. sum_by (members_at sources) (take place order)) (below (length order + 1))

-- The places of files, and the counts of members before these, in the order of paths. They fit 32 bits.
pub record ArePlaces (sources : List SourceUnit) (files before : List ℕ) : Type 0 where
  pub placed : files ≡ positions (numbers_by_path sources)
  pub counted : before ≡ counts_before sources (numbers_by_path sources)
  pub fits : sum_by (members_at sources) (numbers_by_path sources) < 2 ^ 32
