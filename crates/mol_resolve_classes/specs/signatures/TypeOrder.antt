-- An order of types. Types that tie are one.
use Rattle.std.specs.Prelude.{ℕ, List, [], ◌∷◌}
use Rattle.std.specs.Cmp.Lexicographic.{slice_cmp}
use Rattle.std.specs.Ordering.{nat_cmp, on}
use Rattle.std.specs.declared.cmp.Ordering.{Ordering}
use Rattle.jav_names.specs.Views.{ViewType, primitive_type, void_type, class_type, outside_type, array_type, unread_type}

-- the rank of a kind of types
abbrev pub rank_of : ViewType ℕ → ℕ
rank_of (primitive_type name) = 0
rank_of void_type = 1
rank_of (class_type class) = 2
rank_of (outside_type text) = 3
rank_of (array_type item) = 4
rank_of unread_type = 5

-- a type as numbers: its rank, and then its class, the bytes of its text, or its items
abbrev pub numbers_of : ViewType ℕ → List ℕ
numbers_of (primitive_type name) = 0 ∷ name
numbers_of void_type = 1 ∷ []
numbers_of (class_type class) = 2 ∷ class ∷ []
numbers_of (outside_type text) = 3 ∷ text
numbers_of (array_type item) = 4 ∷ numbers_of item
numbers_of unread_type = 5 ∷ []

abbrev pub type_cmp : ViewType ℕ → ViewType ℕ → Ordering
type_cmp = on numbers_of (slice_cmp nat_cmp)

abbrev pub types_cmp : List (ViewType ℕ) → List (ViewType ℕ) → Ordering
types_cmp = slice_cmp type_cmp
