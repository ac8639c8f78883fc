-- What is read of classes and members, beside what the definitions say of them by their keys.
use Rattle.std.specs.Prelude.{◌≡◌, ℕ, [], ◌∷◌, Option, Some, option_map, filter_map, slice_get}
use Rattle.std.specs.Option.{option_and_then, option_to_list}
use Rattle.jav_tree.specs.declared.unit.Ctor.{Ctor}
use Rattle.jav_tree.specs.declared.unit.Field.{Field}
use Rattle.jav_tree.specs.declared.unit.Member.{Member}
use Rattle.jav_tree.specs.declared.unit.Member.TheVariants as member
use Rattle.jav_tree.specs.declared.unit.Method.{Method}
use Rattle.jav_names.specs.UnitViews.{MemberKey}
use Rattle.jav_names.specs.Views.{ViewDeclaration}
use Rattle.mol_resolve_entities.specs.Parts.{class_entity}
use Rattle.mol_resolve_laws.specs.Entities.{entity_of}
use Rattle.mol_resolve_rules.specs.Files.{File, Files, HasFile, PlacedMember, files_view, declaration_at, placed}
use Rattle.mol_resolve_rules.specs.Numbering.{numbered_class, numbered_member, numbered_at_key, id_at, ids_of, same_key, topmost}
use Rattle.mol_resolve_rules.specs.Outcomes.{Outcome}
use Rattle.mol_resolve_rules.specs.ReadAs.{HasNoFault}
use Rattle.mol_resolve_rules.specs.ReadFiles.{file_reader, member_reader, member_faults, superclass_faults}
use Rattle.mol_resolve_rules.specs.Readers.{Reader}
use Rattle.mol_values_types.specs.declared.itype.IType.{IType}
use Rattle.mol_resolve_entities.specs.member_entities.Headings.{superclass_read}
use Rattle.mol_resolve_entities.specs.member_entities.Outcomes.{constructor_read, field_read, method_read}
use Rattle.mol_resolve_entities.specs.declared.member_entities.member_entities.MemberEntities.{MemberEntities}
use Rattle.mol_resolve_entities.specs.declared.member_entities.member_ids.MemberIds.{MemberIds}
use Rattle.mol_resolve_entities.specs.declared.member_entities.member_ids.MethodIds.{MethodIds}

-- ---- identities

-- The identities of the member of a key, and of its class.
pub record AreMemberIds (files : Files) (key : MemberKey) (ids : MemberIds) : Type 0 where
  pub own : ids.id ≡ id_at files (numbered_member key)
  pub class : ids.owner ≡ id_at files (numbered_class key.unit)

-- The identities of the method of the declaration of a key.
pub record AreMethodIds (files : Files) (key : MemberKey) (ids : MethodIds) : Type 0 where
  pub declared : ViewDeclaration ℕ MemberKey
  pub stands : declaration_at (files_view files) key ≡ Some declared
  pub own : ids.id ≡ (ids_of files).method_id declared
  pub params_are : ids.params.items ≡ (ids_of files).param_ids declared
  pub top : ids.is_top ≡ same_key (topmost (files_view files) declared).key declared.key

-- ---- classes

-- what the class of a file extends
abbrev pub superclass_in : Files → ℕ × File → Outcome (Option IType)
superclass_in files file = superclass_read (file_reader files file) file.1.unit.class.parent

-- What a class extends is read with the faults that are listed of it, and where the files have none its entity is theirs.
pub record IsClassRead (files : Files) (file : ℕ × File) : Type 0 where
  pub faults_are : (superclass_in files file).faults ≡ superclass_faults files file
  pub entity_is : HasNoFault files
      → option_to_list (option_map (class_entity (id_at files (numbered_class file.0)) file.1.unit) (superclass_in files file).value)
      ≡ filter_map (entity_of files) (numbered_class file.0 ∷ [])

-- ---- members

-- The member of a key, in its file.
pub record IsMemberAt (files : Files) (key : MemberKey) (file : File) (member : Member) : Type 0 where
  pub in_files : HasFile files key.unit file
  pub in_class : slice_get file.unit.class.members key.member ≡ Some member

abbrev pub placed_at : Files → MemberKey → File → Member → PlacedMember
placed_at files key file member = placed files (key.unit, file) (key.member, member)

abbrev pub reader_at : Files → MemberKey → File → Member → Reader ℕ MemberKey
reader_at files key file member = member_reader files (placed_at files key file member)

-- These are the entities of a member and of the method that is numbered at it, if one is.
pub record AreEntitiesAt (files : Files) (key : MemberKey) (made : Option MemberEntities) : Type 0 where
  pub member_is : option_to_list (option_map (λ (made : MemberEntities). made.member) made)
      ≡ filter_map (entity_of files) (numbered_member key ∷ [])
  pub method_is : option_to_list (option_and_then (λ (made : MemberEntities). made.method) made)
      ≡ filter_map (entity_of files) (numbered_at_key (files_view files) key)

-- A member is read with the faults that are listed of it, and where the files have none the entities are theirs.
pub record IsMemberRead (files : Files) (key : MemberKey) (file : File) (member : Member) (read : Outcome MemberEntities) : Type 0 where
  pub faults_are : read.faults ≡ member_faults files (placed_at files key file member)
  pub entities_are : HasNoFault files → AreEntitiesAt files key read.value

-- Classes and members are read so, by the rules of their places and with their identities.
pub record EntitiesRead : Type 0 where
  pub class : (files : Files) (number : ℕ) (file : File) → HasFile files number file → IsClassRead files (number, file)
  pub field : (files : Files) (key : MemberKey) (file : File) (field : Field) (ids : MemberIds)
      → IsMemberAt files key file (member.Field field) → AreMemberIds files key ids
      → IsMemberRead files key file (member.Field field) (field_read (reader_at files key file (member.Field field)) ids field)
  pub method : (files : Files) (key : MemberKey) (file : File) (method : Method) (ids : MemberIds) (of_method : MethodIds)
      → IsMemberAt files key file (member.Method method) → AreMemberIds files key ids → AreMethodIds files key of_method
      → IsMemberRead files key file (member.Method method)
      (method_read (reader_at files key file (member.Method method)) ids of_method method)
  pub constructor : (files : Files) (key : MemberKey) (file : File) (constructor : Ctor) (ids : MemberIds) (of_method : MethodIds)
      → IsMemberAt files key file (member.Ctor constructor) → AreMemberIds files key ids → AreMethodIds files key of_method
      → IsMemberRead files key file (member.Ctor constructor)
      (constructor_read (reader_at files key file (member.Ctor constructor)) ids of_method constructor)
