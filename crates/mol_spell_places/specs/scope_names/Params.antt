-- The names of parameters, as the code keeps them.
use Rattle.std.specs.Prelude.{◌≡◌, ℕ, ◌<◌, Bool, List, length, map, Option}
use Rattle.std.specs.Borrow.{Bor}
use Rattle.std.specs.Str.{bytes_eq}
use Rattle.jav_names.specs.DottedNames.{Name, Names}
use Rattle.jav_names.specs.LookUps.{first_place}
use Rattle.mol_spell_places.specs.scope_names.Few.{few}
use Rattle.mol_spell_places.specs.scope_names.Places.{found_at}
use Rattle.mol_values_types.specs.declared.param.Param.{Param}

abbrev pub param_names : List Param → Names
param_names params = map (λ param. param.name) params

abbrev pub has_name : Name → Param → Bool
has_name name param = bytes_eq param.name name

-- At each name stands the place of the first parameter that has it.
abbrev pub AreFirst : Names → List (Bor Name × Option ℕ) → Type 0
AreFirst names entries = (name : Name) → found_at entries name ≡ first_place name names

-- It does where there are more than a few.
abbrev pub AreIndexed : List Param → List (Bor Name × Option ℕ) → Type 0
AreIndexed params entries = few < length params → AreFirst (param_names params) entries
