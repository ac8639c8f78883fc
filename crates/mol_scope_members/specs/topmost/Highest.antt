-- The highest declaration of each method among those that were met, and whether all others stand below it.
use Rattle.std.specs.Prelude.{◌≡◌, Bool, true, false, ◌&&◌, not, cond, List, ◌∷◌, ◌++◌, Contains, Option, Some, None}
use Rattle.std.specs.FinMap.{get, from_entries}
use Rattle.std.specs.List.{list_any}
use Rattle.mol_base.specs.Order.{id_cmp}
use Rattle.mol_base.specs.declared.ident.Id.{Id}
use Rattle.mol_table_rules.specs.Counting.{is_of, living_of}
use Rattle.mol_table_rules.specs.Faults.{is_above}
use Rattle.mol_table_rules.specs.Program.{Program, same_id, owner_at}
use Rattle.mol_table_rules.specs.Renumber.{topmost}

-- the declaration that the entries have for a method
abbrev pub top_in : List (Id × Id) → Id → Option Id
top_in tops method = get (from_entries {R = id_cmp} tops) method

-- the class of the second declaration is that of the first, or an ancestor of it
abbrev pub is_over : Program → Id → Id → Bool
is_over program decl above = is_above program (owner_at program decl) (owner_at program above)

-- the second declaration where its class is an ancestor of that of the first and not the other way round too
abbrev pub higher : Program → Id → Id → Id
higher program top decl = cond (is_over program top decl && not (is_over program decl top)) decl top

abbrev pub first_or_higher : Program → Option Id → Id → Id
first_or_higher program None decl = decl
first_or_higher program (Some top) decl = higher program top decl

-- this is a living declaration of the method
abbrev pub declares : Program → Id → Id → Bool
declares program method decl = is_of method (living_of program decl)

-- what is noted of a method once an identity was looked at
abbrev pub noted_after : Program → Id → Option Id → Id → Option Id
noted_after program method top id = cond (declares program method id) (Some (first_or_higher program top id)) top

-- Of the living declarations of the method among these, one such that none before it stands as high or higher, and that stands as high as
-- each after it that stands as high.
pub record IsHighest (program : Program) (ids : List Id) (method top : Id) : Type 0 where
  pub front : List Id
  pub back : List Id
  pub split : ids ≡ front ++ top ∷ back
  pub declared : declares program method top ≡ true
  pub before : (decl : Id) → Contains front decl → declares program method decl ≡ true → is_over program top decl ≡ false
  pub after : (decl : Id) → Contains back decl → declares program method decl ≡ true → is_over program top decl ≡ true
      → is_over program decl top ≡ true

abbrev pub IsHighestOf : Program → List Id → Id → Option Id → Type 0
IsHighestOf program ids method None = (decl : Id) → Contains ids decl → declares program method decl ≡ false
IsHighestOf program ids method (Some top) = IsHighest program ids method top

abbrev pub AreHighest : Program → List Id → List (Id × Id) → Type 0
AreHighest program ids tops = (method : Id) → IsHighestOf program ids method (top_in tops method)

-- the declaration stands below the one that the entries have for the method
abbrev pub is_below : Program → Id → Option Id → Bool
is_below program decl None = false
is_below program decl (Some top) = is_over program decl top

abbrev pub is_under : Program → List (Id × Id) → Id → Id → Bool
is_under program tops method decl = is_below program decl (top_in tops method)

-- a living declaration of the method that does not
abbrev pub stands_beside : Program → List (Id × Id) → Id → Id → Bool
stands_beside program tops method decl = declares program method decl && not (is_under program tops method decl)

-- The entries have the topmost declaration of each method but those of the list, which have none.
abbrev pub AreTopmost : Program → List (Id × Id) → List Id → Type 0
AreTopmost program tops unordered = (method : Id)
    → cond (list_any (same_id method) unordered) None (top_in tops method) ≡ topmost program method
