-- The kinds of faults that keep source files from being a program.
use Rattle.std.specs.Prelude.{ℕ, List, [], ◌∷◌}

-- Of several faults of one place the first in this order is reported. What each is stands in `ResolveFaults`; the last five are met in
-- trees.
pub data FaultKind : Type 0 where
  path_differs : FaultKind
  duplicate_class : FaultKind
  package_is_class : FaultKind
  super_cycle : FaultKind
  import_clash : FaultKind
  duplicate_member : FaultKind
  overload_by_type : FaultKind
  result_differs : FaultKind
  static_hidden : FaultKind
  redeclared : FaultKind
  unknown_name : FaultKind
  unknown_member : FaultKind
  static_by_instance : FaultKind
  receiver_type : FaultKind

-- the place of a kind in that order
abbrev pub rank_of : FaultKind → ℕ
rank_of path_differs = 0
rank_of duplicate_class = 1
rank_of package_is_class = 2
rank_of super_cycle = 3
rank_of import_clash = 4
rank_of duplicate_member = 5
rank_of overload_by_type = 6
rank_of result_differs = 7
rank_of static_hidden = 8
rank_of redeclared = 9
rank_of unknown_name = 10
rank_of unknown_member = 11
rank_of static_by_instance = 12
rank_of receiver_type = 13

abbrev pub every_kind : List FaultKind
every_kind = path_differs ∷ duplicate_class ∷ package_is_class ∷ super_cycle ∷ import_clash ∷ duplicate_member ∷ overload_by_type
    ∷ result_differs ∷ static_hidden ∷ redeclared ∷ unknown_name ∷ unknown_member ∷ static_by_instance ∷ receiver_type ∷ []
