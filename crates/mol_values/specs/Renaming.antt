-- What the code has looked up when it renames: the new identities in a map.
use Rattle.std.specs.Prelude.{ℕ, List, Option, None, Some, unwrap_or}
use Rattle.std.specs.FinMap.{FinMap, from_entries, get}
use Rattle.mol_base.specs.Order.{id_cmp}
use Rattle.mol_base.specs.declared.ident.Id.{Id}

abbrev pub Names : Type 0
Names = FinMap id_cmp Id

abbrev pub names_of : List (Id × Id) → Names
names_of names = from_entries names

-- the new identity that the entries have; what they do not have keeps its own
abbrev pub name_in : List (Id × Id) → Id → Id
name_in names id = unwrap_or (get (names_of names) id) id

-- the number of the new identity, if there is one
abbrev pub number_of : Option Id → ℕ
number_of None = 0
number_of (Some id) = id.num

abbrev pub number_in : List (Id × Id) → Id → ℕ
number_in names id = number_of (get (names_of names) id)
