-- Lists as sets.
use Rattle.std.specs.Prelude.{List, map}
use Rattle.std.specs.FinMap.{keys, from_entries}
use Rattle.std.specs.declared.cmp.Ordering.{Ordering}

-- the items of a list, each once, in this order
abbrev pub as_set : {K : Type 0} → (K → K → Ordering) → List K → List K
as_set cmp items = keys (from_entries {R = cmp} (map (λ item. (item, tt {0})) items))
