-- The entities of files, added after others in the order of numbers.
use Rattle.std.specs.Prelude.{◌≡◌, ℕ, List, [], ◌∷◌, ◌++◌, map, filter_map}
use Rattle.std.specs.List.{flat_map}
use Rattle.jav_names.specs.UnitViews.{MemberKey}
use Rattle.mol_resolve_laws.specs.Entities.{entity_of}
use Rattle.mol_resolve_rules.specs.Files.{File, Files, files_view}
use Rattle.mol_resolve_rules.specs.Numbering.{Numbered, numbered_class, numbered_member, numbered_at_key, member_keys}
use Rattle.mol_resolve_rules.specs.ReadAs.{HasNoFault}
use Rattle.mol_table_rules.specs.declared.entity.NewEntity.{NewEntity}
use Rattle.mol_resolve.specs.declared.entities.Entities.{Entities}

-- those of what has a number
abbrev pub of_items : Files → List Numbered → List NewEntity
of_items files = filter_map (entity_of files)

-- Where the files have no fault, the class of a file is added, and nothing else.
pub record IsClassAdded (files : Files) (number : ℕ) (before after : Entities) : Type 0 where
  pub classes : HasNoFault files → after.classes.items ≡ before.classes.items ++ of_items files (numbered_class number ∷ [])
  pub members : after.members.items ≡ before.members.items
  pub methods : after.methods.items ≡ before.methods.items

-- Where the files have no fault, the members of these keys are added, with the methods that are numbered at them.
pub record AreAdded (files : Files) (keys : List MemberKey) (before after : Entities) : Type 0 where
  pub classes : after.classes.items ≡ before.classes.items
  pub members : HasNoFault files → after.members.items ≡ before.members.items ++ of_items files (map numbered_member keys)
  pub methods : HasNoFault files
      → after.methods.items ≡ before.methods.items ++ of_items files (flat_map (numbered_at_key (files_view files)) keys)

-- Where the files have no fault, all of a file is added.
pub record IsAdded (files : Files) (file : ℕ × File) (before after : Entities) : Type 0 where
  pub classes : HasNoFault files → after.classes.items ≡ before.classes.items ++ of_items files (numbered_class file.0 ∷ [])
  pub members : HasNoFault files
      → after.members.items ≡ before.members.items ++ of_items files (map numbered_member (member_keys file))
  pub methods : HasNoFault files
      → after.methods.items ≡ before.methods.items ++ of_items files (flat_map (numbered_at_key (files_view files)) (member_keys file))
