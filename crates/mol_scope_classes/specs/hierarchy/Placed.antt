-- The places of classes.
use Rattle.std.specs.Prelude.{◌≡◌, ◌↔◌, ℕ, ◌<◌, List, [], ◌∷◌, ◌++◌, length, Contains, Option, Some, None, IsSome, cond}
use Rattle.std.specs.FinMap.{get, from_entries}
use Rattle.std.specs.List.{list_any}
use Rattle.mol_base.specs.Order.{id_cmp}
use Rattle.mol_base.specs.declared.ident.Id.{Id}
use Rattle.mol_table_rules.specs.Heights.{upward}
use Rattle.mol_table_rules.specs.Program.{Program, same_id}
use Rattle.mol_table_rules.specs.Rules.{IsProgram}
use Rattle.mol_scope_classes.specs.hierarchy.Forest.{IsUp, ArePlaces, IsBelow}
use Rattle.mol_table_rules.specs.Heights.{Leads}
use Rattle.mol_scope_classes.specs.hierarchy.Reaching.{Reaches}
use Rattle.mol_scope_classes.specs.declared.hierarchy.place.Place.{Place}

-- the number of the place of a class
abbrev pub number_in : List (Id × ℕ) → Id → Option ℕ
number_in numbers class = get (from_entries {R = id_cmp} numbers) class

-- the class has a place, which is this one or above it
pub record HasAbove (numbers : List (Id × ℕ)) (places : List Place) (number : ℕ) (class : Id) : Type 0 where
  pub own : ℕ
  pub is : number_in numbers class ≡ Some own
  pub leads : IsUp places number own

-- Each class that has a place leads to those whose places are its own or above it, and to no others.
pub record ArePlaced (program : Program) (numbers : List (Id × ℕ)) (places : List Place) : Type 0 where
  pub forest : ArePlaces places
  pub within : (class : Id) (number : ℕ) → number_in numbers class ≡ Some number → number < length places
  pub leads : (class : Id) (number : ℕ) → number_in numbers class ≡ Some number → (above : Id)
      → Reaches program class above ↔ HasAbove numbers places number above

-- Classes with their places, as a hierarchy keeps them: a class without a place extends no class that lives.
pub record IsHierarchy (program : Program) (numbers : List (Id × ℕ)) (places : List Place) : Type 0 where
  pub rules : IsProgram program
  pub placed : ArePlaced program numbers places
  pub whole : (class : Id) → number_in numbers class ≡ None → upward program (Some class) ≡ None

-- ---- classes that are given places

-- none of these has a place
abbrev pub AreNew : List (Id × ℕ) → List Id → Type 0
AreNew numbers classes = (class : Id) → Contains classes class → number_in numbers class ≡ None

-- The first class is this one, each is extended by the one before it, and the class that the last extends has this place.
pub record IsLine (program : Program) (numbers : List (Id × ℕ)) (class : Id) (classes : List Id) (number : ℕ) : Type 0 where
  pub at : Id
  pub leads : Leads program (Some class) classes (Some at)
  pub is : number_in numbers at ≡ Some number

-- Each class that had a place has one.
abbrev pub Keeps : List (Id × ℕ) → List (Id × ℕ) → Type 0
Keeps old new = (class : Id) → IsSome (number_in old class) → IsSome (number_in new class)

-- These classes have a new place together.
pub record Adds (numbers : List (Id × ℕ)) (places : List Place) (classes : List Id) (place : Place)
    (new_numbers : List (Id × ℕ)) (new_places : List Place) : Type 0 where
  pub grown : new_places ≡ places ++ place ∷ []
  pub numbered : (class : Id)
      → number_in new_numbers class ≡ cond (list_any (same_id class) classes) (Some (length places)) (number_in numbers class)

-- A class has a new place below this one.
pub record AddsBelow (numbers : List (Id × ℕ)) (places : List Place) (class : Id) (above : ℕ)
    (new_numbers : List (Id × ℕ)) (new_places : List Place) : Type 0 where
  pub place : Place
  pub below : IsBelow places above place
  pub added : Adds numbers places (class ∷ []) place new_numbers new_places
