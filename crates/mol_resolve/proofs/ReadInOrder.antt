-- The entities of files that were read, one file further, and of all files.
use Rattle.std.proofs.Common.{◌≡◌, ℕ, List, [], ◌∷◌, ◌++◌, map, flat_map, filter_map, Option, Some, None, refl, sym, ◌∙◌, ap}
use Rattle.std.specs.List.{cons_option}
use Rattle.mol_resolve_laws.specs.Entities.{entity_of, plain_entities}
use Rattle.mol_resolve.specs.Added.{of_items}
use Rattle.mol_table_rules.specs.declared.entity.NewEntity.{NewEntity}
use Rattle.jav_names.specs.UnitViews.{numbered}
use Rattle.mol_resolve_rules.specs.Files.{File, Files, files_view}
use Rattle.mol_resolve_rules.specs.Numbering.{numbered_class, numbered_member, numbered_at_key, member_keys, by_path}

pub kept-after : {X Y : Type 0} (make : X → Option Y) (xs ys : List X)
    → filter_map make (xs ++ ys) ≡ filter_map make xs ++ filter_map make ys
kept-after {X} {Y} make [] ys = refl
kept-after {X} {Y} make (x ∷ xs) ys = by (make x) (kept-after make xs ys) where
  by : (o : Option Y) → filter_map make (xs ++ ys) ≡ filter_map make xs ++ filter_map make ys
      → cons_option o (filter_map make (xs ++ ys)) ≡ cons_option o (filter_map make xs) ++ filter_map make ys
  by None more = more
  by (Some y) more = ap (λ later. y ∷ later) more

module _ (files : Files) where
  abbrev pub classes_in : List (ℕ × File) → List NewEntity
  classes_in read = of_items files (map (λ (file : ℕ × File). numbered_class file.0) read)

  abbrev pub members_in : List (ℕ × File) → List NewEntity
  members_in read = of_items files (map numbered_member (flat_map member_keys read))

  abbrev pub methods_in : List (ℕ × File) → List NewEntity
  methods_in read = of_items files (flat_map (numbered_at_key (files_view files)) (flat_map member_keys read))

  -- classes, members and methods of all files in the order of paths are all entities
  pub all-in_order : classes_in (by_path (numbered files)) ++ members_in (by_path (numbered files)) ++ methods_in (by_path (numbered files))
      ≡ plain_entities files
  all-in_order =
      let order = by_path (numbered files) in
      let classes = map (λ (file : ℕ × File). numbered_class file.0) order in
      let members = map numbered_member (flat_map member_keys order) in
      let methods = flat_map (numbered_at_key (files_view files)) (flat_map member_keys order) in
      ap (λ first. first ++ of_items files methods) (sym (kept-after (entity_of files) classes members))
      ∙ sym (kept-after (entity_of files) (classes ++ members) methods)
