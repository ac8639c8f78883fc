-- The numbers of what stands in source files. Classes come first, by the paths of their files; then all members, in the same order of
-- files and as they stand in a file; then each method with its parameters, where its topmost declaration stands. They count from 1.
use Rattle.std.specs.Prelude.{ℕ, suc, ◌==◌, Bool, false, ◌&&◌, List, [], ◌∷◌, ◌++◌, map, length, unwrap_or, if◌then◌else◌, reverse}
use Rattle.std.specs.List.{flat_map, position_or_len, range_with_len}
use Rattle.std.specs.Option.{option_map_or}
use Rattle.std.specs.Ordering.{nat_cmp, is_lt, is_eq}
use Rattle.std.specs.Cmp.Lexicographic.{slice_cmp}
use Rattle.std.specs.declared.cmp.Ordering.{Ordering}
use Rattle.mol_base.specs.declared.ident.Id.{Id}
use Rattle.mol_table_rules.specs.Renumber.{base_id}
use Rattle.jav_names.specs.DottedNames.{Name}
use Rattle.jav_names.specs.LookUps.{is_constructor, is_method, nearest, way}
use Rattle.jav_names.specs.UnitViews.{MemberKey, member_key_cmp, numbered}
use Rattle.jav_names.specs.Views.{ViewDeclaration, View}
use Rattle.mol_resolve_rules.specs.Files.{File, Files, files_view, declaration_at}
use Rattle.mol_resolve_rules.specs.Readers.{Ids}

-- ---- what has a number

-- A class, by the number of its file; a member; the method or constructor whose topmost declaration has this key; and the parameter of
-- that at a place of its list.
pub data Numbered : Type 0 where
  numbered_class : ℕ → Numbered
  numbered_member : MemberKey → Numbered
  numbered_method : MemberKey → Numbered
  numbered_param : MemberKey → ℕ → Numbered

abbrev pub same_key : MemberKey → MemberKey → Bool
same_key first second = is_eq (member_key_cmp first second)

abbrev pub same_numbered : Numbered → Numbered → Bool
same_numbered (numbered_class first) (numbered_class second) = first == second
same_numbered (numbered_member first) (numbered_member second) = same_key first second
same_numbered (numbered_method first) (numbered_method second) = same_key first second
same_numbered (numbered_param first place) (numbered_param second other) = same_key first second && place == other
same_numbered first second = false

-- ---- methods (JLS 8.4.8)

-- The topmost declaration of the method of a declaration: on the way up from its class, the declaration of this name and number of
-- parameters that is met last. A constructor is a method by itself.
abbrev pub topmost : {C M : Type 0} → View C M → ViewDeclaration C M → ViewDeclaration C M
topmost {C} {M} view declared =
    if is_constructor declared.kind then declared else unwrap_or (nearest view (λ (other : ViewDeclaration C M). other.owner)
    (is_method declared.name declared.arity) view.declarations (reverse (way view declared.owner))) declared

-- ---- the order

abbrev pub path_cmp : Name → Name → Ordering
path_cmp = slice_cmp nat_cmp

abbrev pub put_by_path : ℕ × File → List (ℕ × File) → List (ℕ × File)
put_by_path file [] = file ∷ []
put_by_path file (next ∷ rest) = if is_lt (path_cmp next.1.path file.1.path) then next ∷ put_by_path file rest else file ∷ next ∷ rest

-- numbered files by their paths
abbrev pub by_path : List (ℕ × File) → List (ℕ × File)
by_path [] = []
by_path (file ∷ files) = put_by_path file (by_path files)

-- from 0 up, so many
abbrev pub below : ℕ → List ℕ
below count = range_with_len 0 count

abbrev pub member_keys : ℕ × File → List MemberKey
member_keys file = map (λ number. record { unit = file.0; member = number }) (below (length file.1.unit.class.members))

-- the keys of all members, in order
abbrev pub keys_in_order : Files → List MemberKey
keys_in_order files = flat_map member_keys (by_path (numbered files))

-- a method and its parameters, at its topmost declaration
abbrev pub numbered_in_method : View ℕ MemberKey → ViewDeclaration ℕ MemberKey → List Numbered
numbered_in_method view declared =
    if same_key (topmost view declared).key declared.key
    then numbered_method declared.key ∷ map (numbered_param declared.key) (below declared.arity) else []

abbrev pub numbered_at_key : View ℕ MemberKey → MemberKey → List Numbered
numbered_at_key view key = option_map_or (numbered_in_method view) (declaration_at view key) []

-- by the view of the files
abbrev pub order_by : View ℕ MemberKey → Files → List Numbered
order_by view files =
    map (λ (file : ℕ × File). numbered_class file.0) (by_path (numbered files)) ++ map numbered_member (keys_in_order files)
    ++ flat_map (numbered_at_key view) (keys_in_order files)

abbrev pub in_order : Files → List Numbered
in_order files = order_by (files_view files) files

-- ---- identities

-- the identity of a base that something has, by its place in the order
abbrev pub id_by : View ℕ MemberKey → Files → Numbered → Id
id_by view files item = base_id (suc (position_or_len (same_numbered item) (order_by view files)))

abbrev pub id_at : Files → Numbered → Id
id_at files = id_by (files_view files) files

abbrev pub ids_by : View ℕ MemberKey → Files → Ids ℕ MemberKey
ids_by view files = record {
  class_id = λ number. id_by view files (numbered_class number);
  member_id = λ key. id_by view files (numbered_member key);
  method_id = λ declared. id_by view files (numbered_method (topmost view declared).key);
  param_ids = λ declared. map (λ place. id_by view files (numbered_param (topmost view declared).key place)) (below declared.arity);
}

abbrev pub ids_of : Files → Ids ℕ MemberKey
ids_of files = ids_by (files_view files) files
