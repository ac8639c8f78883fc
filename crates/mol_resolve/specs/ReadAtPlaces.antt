-- Members, read at their places in source files.
use Rattle.std.specs.Prelude.{◌≡◌, ℕ, List, [], ◌∷◌, Option}
use Rattle.jav_scope.specs.declared.source.SourceUnit.{SourceUnit}
use Rattle.jav_tree.specs.declared.unit.Member.{Member}
use Rattle.jav_names.specs.UnitViews.{MemberKey}
use Rattle.mol_resolve_entities.specs.file_entities.EntitiesRead.{AreEntitiesAt, IsMemberAt, placed_at, reader_at}
use Rattle.mol_resolve_entities.specs.declared.member_entities.member_entities.MemberEntities.{MemberEntities}
use Rattle.mol_resolve_faults.specs.First.{all_noted}
use Rattle.mol_resolve.specs.Added.{AreAdded}
use Rattle.mol_resolve.specs.declared.entities.Entities.{Entities}
use Rattle.mol_resolve_members.specs.sources.Sources.{files_of}
use Rattle.mol_resolve_rules.specs.Files.{File, Files}
use Rattle.mol_resolve_rules.specs.Outcomes.{TreeFault}
use Rattle.mol_resolve_rules.specs.ReadAs.{HasNoFault}
use Rattle.mol_resolve_rules.specs.ReadFiles.{member_faults}
use Rattle.mol_resolve_rules.specs.Readers.{Reader}

-- Names are read as in the member of a key.
abbrev pub ReadsAt : List SourceUnit → MemberKey → Member → Reader ℕ MemberKey → Type 0
ReadsAt sources key member reader = (file : File) → IsMemberAt (files_of sources) key file member
    → reader ≡ reader_at (files_of sources) key file member

-- what is met in the member of a key
abbrev pub NotesFaults : Files → MemberKey → Member → (before after : Option TreeFault) → Type 0
NotesFaults files key member before after = (file : File) → IsMemberAt files key file member
    → after ≡ all_noted before (member_faults files (placed_at files key file member))

-- The member of a key is read: its faults are noted, and where the files have none its entities are theirs.
pub record IsReadAt (files : Files) (key : MemberKey) (member : Member) (made : Option MemberEntities) (before after : Option TreeFault)
    : Type 0 where
  pub noted : NotesFaults files key member before after
  pub entities : HasNoFault files → AreEntitiesAt files key made

-- It is read, and added after others.
pub record IsMemberAdded (files : Files) (key : MemberKey) (member : Member) (before after : Entities) (first next : Option TreeFault)
    : Type 0 where
  pub noted : NotesFaults files key member first next
  pub added : AreAdded files (key ∷ []) before after
