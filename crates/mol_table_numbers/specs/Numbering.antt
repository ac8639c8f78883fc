-- Lists of identities, and the numbers that these are given by their places.
use Rattle.std.specs.Prelude.{◌≡◌, ℕ, ◌<◌, suc, Bool, true, List, length, slice_index_or, Some}
use Rattle.std.specs.List.{list_any}
use Rattle.std.specs.FinMap.{get}
use Rattle.mol_base.specs.declared.ident.Id.{Id}
use Rattle.mol_values.specs.Renaming.{names_of}
use Rattle.mol_table_rules.specs.Program.{same_id}
use Rattle.mol_table_rules.specs.Renumber.{base_id}

-- no identity stands at two places
abbrev pub AreApart : List Id → Type 0
AreApart ids = (j k : ℕ) (d : Id) → j < length ids → k < length ids → slice_index_or ids j d ≡ slice_index_or ids k d → j ≡ k

-- each identity of the list has its place from 1 as its number, and no other has a new identity
pub record AreNames (ids : List Id) (names : List (Id × Id)) : Type 0 where
  pub at : (k : ℕ) (d : Id) → k < length ids → get (names_of names) (slice_index_or ids k d) ≡ Some (base_id (suc k))
  pub only : (id new : Id) → get (names_of names) id ≡ Some new → list_any (same_id id) ids ≡ true

-- the list has what passes the test and nothing else, each at its number, and is as long as these are many
pub record IsInOrder (test : Id → Bool) (number : Id → ℕ) (many : ℕ) (ids : List Id) : Type 0 where
  pub has : (id : Id) → list_any (same_id id) ids ≡ test id
  pub numbers : (k : ℕ) (d : Id) → k < length ids → number (slice_index_or ids k d) ≡ suc k
  pub long : length ids ≡ many
