-- What is kept of namesakes.
use Rattle.std.specs.Prelude.{◌≡◌, ℕ, nat_lt, Bool, false, ◌||◌, not, List, [], ◌∷◌, length, filter, find, Option, Some, None, option_map, is_some, if◌then◌else◌}
use denote.Ref.{Bor}
use Rattle.std.specs.BTreeMap.{BTreeMap, get}
use Rattle.std.specs.Cmp.Lexicographic.{slice_cmp}
use Rattle.std.specs.List.{list_any}
use Rattle.std.specs.Option.{option_map_or, option_or}
use Rattle.std.specs.Ordering.{nat_cmp, on, then_cmp}
use Rattle.std.specs.declared.cmp.Ordering.{Ordering}
use Rattle.mol_resolve_classes.specs.namesakes.Compared.{AreInOrder, are_namesakes, takes_same, gives_same}
use Rattle.mol_resolve_classes.specs.declared.namesakes.declaration.Declaration.{Declaration}
use Rattle.mol_resolve_classes.specs.declared.namesakes.differences.Differences.{Differences}
use Rattle.mol_resolve_classes.specs.declared.namesakes.group.Group.{Group}

-- ---- groups

-- the place of the first that is not the same as this one
abbrev pub place_of_other : (Declaration → Declaration → Bool) → Declaration → List Declaration → Option ℕ
place_of_other same first declared =
    option_map (λ declaration. declaration.place) (find (λ declaration. not (same first declaration)) declared)

-- what is kept of these namesakes, of which this is the first
abbrev pub summary : Declaration → List Declaration → Group
summary first namesakes = record {
  first = first;
  other_types = place_of_other takes_same first namesakes;
  other_result = place_of_other gives_same first namesakes;
  has_static = list_any (λ namesake. namesake.is_static) namesakes;
}

abbrev pub group_of : List Declaration → Option Group
group_of [] = None
group_of (first ∷ namesakes) = Some (summary first (first ∷ namesakes))

-- what is kept of the namesakes of a declaration
abbrev pub group_in : Declaration → List Declaration → Option Group
group_in declaration declared = group_of (filter (λ namesake. are_namesakes namesake declaration) declared)

-- a further one
abbrev pub joined : Group → Declaration → Group
joined group next = record {
  first = group.first;
  other_types = option_or group.other_types (if not (takes_same group.first next) then Some next.place else None);
  other_result = option_or group.other_result (if not (gives_same group.first next) then Some next.place else None);
  has_static = group.has_static || next.is_static;
}

-- a group with a further one, or of that alone
abbrev pub grown : Option Group → Declaration → Group
grown None next = summary next (next ∷ [])
grown (Some group) next = joined group next

-- ---- what a group tells of a declaration

-- some of the group differ from it
abbrev pub told : Group → Declaration → Differences
told group declaration = record {
  types = not (takes_same group.first declaration) || is_some group.other_types;
  result = not (gives_same group.first declaration) || is_some group.other_result;
}

abbrev pub alike : Differences
alike = record { types = false; result = false }

-- some do that stand before it, where the first of the group does
abbrev pub told_early : Group → Declaration → Differences
told_early group declaration = record {
  types = not (takes_same group.first declaration)
      || option_map_or (λ other. nat_lt other declaration.place) group.other_types false;
  result = not (gives_same group.first declaration)
      || option_map_or (λ other. nat_lt other declaration.place) group.other_result false;
}

abbrev pub told_before : Group → Declaration → Differences
told_before group declaration = if nat_lt group.first.place declaration.place then told_early group declaration else alike

-- ---- by what they are found

-- by how many parameters there are, then by the bytes of the name
abbrev pub key_cmp : ℕ × Bor (List ℕ) → ℕ × Bor (List ℕ) → Ordering
key_cmp = then_cmp (on (λ key. key.0) nat_cmp) (on (λ key. key.1.now) (slice_cmp nat_cmp))

abbrev pub AreFound : List Declaration → BTreeMap (ℕ × Bor (List ℕ)) Group → Type 0
AreFound declared groups = (declaration : Declaration)
    → get key_cmp groups (length declaration.params.now, declaration.name) ≡ group_in declaration declared

-- The declarations are in order, and each finds the group of its namesakes.
pub record AreGrouped (declared : List Declaration) (groups : BTreeMap (ℕ × Bor (List ℕ)) Group) : Type 0 where
  pub ordered : AreInOrder declared
  pub found : AreFound declared groups
