-- The first of several faults of a file: by their places, then by their kinds.
use Rattle.std.specs.Prelude.{◌≡◌, ◌≢◌, Bool, List, [], ◌∷◌, ◌++◌, Option, Some, None, Contains, if◌then◌else◌}
use Rattle.std.specs.Ordering.{is_lt, nat_cmp, on, then_cmp}
use Rattle.std.specs.declared.cmp.Ordering.{Ordering}
use Rattle.std.specs.declared.cmp.Ordering.TheVariants.{Less}
use Rattle.mol_resolve_rules.specs.FaultKinds.{rank_of}
use Rattle.mol_resolve_rules.specs.Outcomes.{TreeFault}

abbrev pub tree_fault_cmp : TreeFault → TreeFault → Ordering
tree_fault_cmp = then_cmp (on (λ fault. fault.at) nat_cmp) (on (λ fault. rank_of fault.kind) nat_cmp)

abbrev pub goes_before : TreeFault → TreeFault → Bool
goes_before fault first = is_lt (tree_fault_cmp fault first)

-- the first of these two, where the one may be none
abbrev pub noted : Option TreeFault → TreeFault → Option TreeFault
noted None fault = Some fault
noted (Some first) fault = if goes_before fault first then Some fault else Some first

-- the first of this one, which may be none, and of several
abbrev pub all_noted : Option TreeFault → List TreeFault → Option TreeFault
all_noted first [] = first
all_noted first (fault ∷ faults) = all_noted (noted first fault) faults

-- one of the faults, which none of them goes before
pub record IsFirst (faults : List TreeFault) (first : TreeFault) : Type 0 where
  pub among : Contains faults first
  pub none_before : (fault : TreeFault) → Contains faults fault → tree_fault_cmp fault first ≢ Less

-- Of several faults the first is kept; where none is kept there are none.
pub record FirstKept : Type 0 where
  pub some : (faults : List TreeFault) (first : TreeFault) → all_noted None faults ≡ Some first → IsFirst faults first
  pub none : (faults : List TreeFault) → all_noted None faults ≡ None → faults ≡ []

-- What is kept of several faults depends alone on which there are, and those that come in turn are kept as all at once.
pub record KeptAlike : Type 0 where
  pub alike : (first : Option TreeFault) (faults others : List TreeFault)
      → ((fault : TreeFault) → Contains faults fault → Contains others fault)
      → ((fault : TreeFault) → Contains others fault → Contains faults fault)
      → all_noted first faults ≡ all_noted first others
  pub in_turn : (first : Option TreeFault) (faults others : List TreeFault)
      → all_noted first (faults ++ others) ≡ all_noted (all_noted first faults) others
