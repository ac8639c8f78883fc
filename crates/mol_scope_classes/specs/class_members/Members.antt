-- Members as the code keeps them: at each class its own.
use Rattle.std.specs.Prelude.{◌≡◌, List, [], map, Option, Some, None, option_map, if◌then◌else◌}
use Rattle.std.specs.Map.{lookup}
use Rattle.std.specs.Option.{option_map_or}
use Rattle.mol_base.specs.declared.ident.Id.{Id}
use Rattle.mol_scope_classes.specs.declared.class_members.class_member.ClassMember.{ClassMember}
use Rattle.mol_scope_classes.specs.declared.class_members.owned.OwnedMember.{OwnedMember}
use Rattle.mol_spell_rules.specs.UnitCells.{members_of}
use Rattle.mol_table_rules.specs.Program.{Program, living_at, owner_at, same_id}
use Rattle.mol_values_types.specs.Order.{id_eq}
use Rattle.mol_values_types.specs.declared.known.Known.{Known}
use Rattle.mol_values_types.specs.declared.known.Known.TheVariants as knowns

abbrev pub member_entry : ClassMember → Id × Known
member_entry member = (member.id, member.known)

-- ---- members with their classes

abbrev pub in_its_class : Id → Known → Id → OwnedMember
in_its_class id known class = record { class = class; id = id; known = known }

-- if it lives, and has a class
abbrev pub living_member : Program → Id → Known → Option OwnedMember
living_member program id known = if living_at program id then option_map (in_its_class id known) (owner_at program id) else None

-- a field or a declaration
abbrev pub owned_member : Program → Id → Option Known → Option OwnedMember
owned_member program id (Some knowns.Field) = living_member program id knowns.Field
owned_member program id (Some (knowns.Decl method)) = living_member program id (knowns.Decl method)
owned_member program id known = None

-- ---- the members of a class

abbrev pub member_of : OwnedMember → ClassMember
member_of owned = record { id = owned.id; known = owned.known }

-- a member, if this is its class
abbrev pub in_class : Id → Option OwnedMember → Option ClassMember
in_class class None = None
in_class class (Some owned) = if same_id class owned.class then Some (member_of owned) else None

-- what stands at a class
abbrev pub listed_at : List (Id × List ClassMember) → Id → List ClassMember
listed_at groups class = option_map_or (λ members. members) (lookup (id_eq class) groups) []

-- At each class stand its members.
abbrev pub AreMembers : Program → List (Id × List ClassMember) → Type 0
AreMembers program groups = (class : Id) → map member_entry (listed_at groups class) ≡ members_of program class
