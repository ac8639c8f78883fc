-- What stands before members and classes: comments, modifiers and names.
use Rattle.std.specs.Prelude.{List, [], Option, None, Some}
use Rattle.jav_names.specs.DottedNames.{Names}
use Rattle.jav_tree.specs.declared.types.TypeName.{TypeName}
use Rattle.jav_tree.specs.declared.unit.ClassDecl.{ClassDecl}
use Rattle.jav_tree.specs.declared.unit.Member.{Member}
use Rattle.jav_tree.specs.declared.unit.Unit.{Unit as Source}
use Rattle.mol_base.specs.declared.ident.Id.{Id}
use Rattle.mol_spell_rules.specs.SpelledUnits.{notes_at, words_at}
use Rattle.mol_table_rules.specs.Program.{Program, name_at, package_at}
use Rattle.mol_spell.specs.declared.units.class_parts.ClassHead.{ClassHead}
use Rattle.mol_spell.specs.declared.units.class_parts.FileHead.{FileHead}
use Rattle.mol_spell.specs.declared.units.heads.MemberHead.{MemberHead}
use Rattle.mol_values_types.specs.declared.words.Notes.{Notes}

-- no comments, where there are none
abbrev pub notes_or_none : Option Notes → Notes
notes_or_none (Some notes) = notes
notes_or_none None = record { front = []; head = []; tail = [] }

abbrev pub member_head : Program → Id → MemberHead
member_head program id = record { front = (notes_at program id).front; words = words_at program id }

abbrev pub class_head : Program → Id → ClassHead
class_head program class = record {
  front = (notes_at program class).front;
  words = words_at program class;
  name = name_at program class;
  tail = (notes_at program class).tail;
}

-- with these imports
abbrev pub file_head : Program → Id → Names → FileHead
file_head program class imports = record {
  head = (notes_at program class).head;
  «package» = package_at program class;
  imports = imports;
}

-- ---- with what follows them

abbrev pub class_of : ClassHead → Option TypeName → List Member → ClassDecl
class_of head parent members = record {
  front = head.front;
  words = head.words;
  name = head.name;
  parent = parent;
  members = members;
  tail = head.tail;
}

abbrev pub unit_of : FileHead → ClassDecl → Source
unit_of head class = record { head = head.head; «package» = head.«package»; imports = head.imports; class = class }
