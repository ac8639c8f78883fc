-- The local variables of a body (JLS 6.3, 14.4).
use Rattle.std.specs.Prelude.{ℕ, List, [], ◌∷◌, ◌++◌, map, length, slice_get}
use Rattle.std.specs.Option.{option_map_or}
use Rattle.jav_names.specs.DottedNames.{Name, Names}
use Rattle.jav_names.specs.Views.{ViewType}

pub record Local (C : Type 0) : Type 0 where
  pub name : Name
  pub type : ViewType C

-- The locals up to a place in a body: all that were declared, each of which has its place in this list as its number; and the numbers
-- of those in scope, the nearest last.
pub record Locals (C : Type 0) : Type 0 where
  pub declared : List (Local C)
  pub in_scope : List ℕ

abbrev pub no_locals : {C : Type 0} → Locals C
no_locals = record { declared = []; in_scope = [] }

-- From its declaration on a local is in scope.
abbrev pub declare : {C : Type 0} → Local C → Locals C → Locals C
declare local locals = record {
  declared = locals.declared ++ local ∷ [];
  in_scope = locals.in_scope ++ length locals.declared ∷ [];
}

-- At the end of a block those are in scope that were before it. The numbers of the others are not given again.
abbrev pub at_end_of_block : {C : Type 0} → (before locals : Locals C) → Locals C
at_end_of_block before locals = record { declared = locals.declared; in_scope = before.in_scope }

-- the name of the local of a number; empty where there is none
abbrev pub local_name : {C : Type 0} → Locals C → ℕ → Name
local_name locals number = option_map_or (λ local. local.name) (slice_get locals.declared number) []

abbrev pub names_in_scope : {C : Type 0} → Locals C → Names
names_in_scope locals = map (local_name locals) locals.in_scope
