-- Whether a value has items (JLS 15.10.3), and the fault where it has none.
use Rattle.std.specs.Prelude.{ℕ, Bool, true, false, List, [], ◌∷◌}
use Rattle.jav_names.specs.OnValues.{OnIndex, indexed, not_indexed, unread_index}
use Rattle.mol_resolve_rules.specs.FaultKinds.{receiver_type}
use Rattle.mol_resolve_rules.specs.Outcomes.{TreeFault}

abbrev pub is_indexed : OnIndex → Bool
is_indexed indexed = true
is_indexed not_indexed = false
is_indexed unread_index = false

-- of a type whose name reads as nothing, nothing is told
abbrev pub index_faults : ℕ → OnIndex → List TreeFault
index_faults at indexed = []
index_faults at not_indexed = record { kind = receiver_type; at = at } ∷ []
index_faults at unread_index = []
