-- Lists of what is known.
use Rattle.std.specs.Prelude.{◌≡◌, ◌↔◌, ℕ, ◌+◌, ◌<◌, List, length, slice_index_or, IsTrue, is_some}
use Rattle.std.specs.List.{Contains}
use Rattle.std.specs.FinMap.{get}
use Rattle.std.specs.declared.cmp.Ordering.TheVariants.{Less}
use Rattle.mol_base.specs.Order.{id_cmp}
use Rattle.mol_base.specs.declared.ident.Id.{Id}
use Rattle.mol_table_rules.specs.Program.{Program}

-- each of the first identities comes before the next
abbrev pub AscendsTo : ℕ → List Id → Type 0
AscendsTo n ids = (k : ℕ) (d : Id) → k + 1 < n → id_cmp (slice_index_or ids k d) (slice_index_or ids (k + 1) d) ≡ Less

-- each identity comes before the next
abbrev pub IsAscending : List Id → Type 0
IsAscending ids = AscendsTo (length ids) ids

-- the list has each known identity and no other
abbrev pub AreKnown : Program → List Id → Type 0
AreKnown program ids = (id : Id) → Contains ids id ↔ IsTrue (is_some (get program.known id))
