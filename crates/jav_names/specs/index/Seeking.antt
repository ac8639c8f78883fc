-- What an index looks for: a name, with an owner and a number of parameters.
use Rattle.std.specs.Prelude.{◌≡◌, ℕ, Bool, List, find}
use Rattle.std.specs.Cmp.Lexicographic.{slice_cmp}
use Rattle.std.specs.Ordering.{nat_cmp, is_eq, on, then_cmp}
use Rattle.std.specs.declared.cmp.Ordering.{Ordering}
use Rattle.jav_names.specs.DottedNames.{Name}
use Rattle.jav_names.specs.declared.index.entry.Entry.{Entry}

pub record Sought : Type 0 where
  pub owner : ℕ
  pub arity : ℕ
  pub name : Name

abbrev pub sought_of : Entry → Sought
sought_of entry = record { owner = entry.owner; arity = entry.arity; name = entry.name }

-- by owner, then by number of parameters, then by the bytes of the name
abbrev pub sought_cmp : Sought → Sought → Ordering
sought_cmp = then_cmp (on (λ s. s.owner) nat_cmp) (then_cmp (on (λ s. s.arity) nat_cmp) (on (λ s. s.name) (slice_cmp nat_cmp)))

abbrev pub entry_cmp : Entry → Entry → Ordering
entry_cmp = on sought_of sought_cmp

-- an entry has this owner, this number of parameters and this name
abbrev pub is_sought : ℕ → ℕ → Name → Entry → Bool
is_sought owner arity name entry = is_eq (sought_cmp (sought_of entry) (record { owner = owner; arity = arity; name = name }))

-- What is found first among the one is what is found first among the other.
abbrev pub FindsSame : List Entry → List Entry → Type 0
FindsSame entries same =
    (owner arity : ℕ) (name : Name) → find (is_sought owner arity name) entries ≡ find (is_sought owner arity name) same
