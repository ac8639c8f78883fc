-- Declarations of one kind in a class, as each is compared with its namesakes.
use Rattle.std.specs.Prelude.{ℕ, nat_lt, ◌==◌, Bool, ◌&&◌, ◌||◌, not, List, map, length, filter}
use Rattle.std.specs.List.{list_any}
use Rattle.std.specs.List.Sorted.{IsStrictlySortedBy}
use Rattle.std.specs.Ordering.{nat_cmp, on}
use Rattle.std.specs.Str.{bytes_eq}
use Rattle.jav_names.specs.StaticTypes.{same_type}
use Rattle.jav_names.specs.Views.{ViewType}
use Rattle.jav_names.specs.seen.Kept.{view_type}
use Rattle.mol_resolve_rules.specs.FaultLists.{same_types}
use Rattle.mol_resolve_classes.specs.declared.namesakes.declaration.Declaration.{Declaration}
use Rattle.mol_resolve_classes.specs.declared.namesakes.differences.Differences.{Differences}

-- They stand in the class in this order.
abbrev pub AreInOrder : List Declaration → Type 0
AreInOrder declared = IsStrictlySortedBy (on (λ declaration. declaration.place) nat_cmp) declared

abbrev pub types_of : Declaration → List (ViewType ℕ)
types_of declaration = map view_type declaration.params.now

-- of one name, and with as many parameters
abbrev pub are_namesakes : (first second : Declaration) → Bool
are_namesakes first second =
    length first.params.now == length second.params.now && bytes_eq first.name.now second.name.now

abbrev pub takes_same : (first second : Declaration) → Bool
takes_same first second = same_types nat_cmp (types_of first) (types_of second)

abbrev pub gives_same : (first second : Declaration) → Bool
gives_same first second = same_type nat_cmp (view_type first.result.now) (view_type second.result.now)

-- some namesake takes other types than the declaration, or gives another
abbrev pub differences : Declaration → List Declaration → Differences
differences declaration declared = record {
  types = list_any (λ namesake. are_namesakes namesake declaration && not (takes_same namesake declaration)) declared;
  result = list_any (λ namesake. are_namesakes namesake declaration && not (gives_same namesake declaration)) declared;
}

-- so does one that stands before it
abbrev pub differences_before : Declaration → List Declaration → Differences
differences_before declaration declared =
    differences declaration (filter (λ namesake. nat_lt namesake.place declaration.place) declared)

-- it has a namesake, and one of the two is static
abbrev pub hides_static : Declaration → List Declaration → Bool
hides_static declaration declared =
    list_any (λ namesake. are_namesakes namesake declaration && (namesake.is_static || declaration.is_static)) declared
