-- The rules that every program keeps.
use Rattle.std.specs.Prelude.{◌≡◌, Bool, true, false, IsTrue, Option, Some, is_some}
use Rattle.std.specs.List.{list_all}
use Rattle.std.specs.FinMap.{get}
use Rattle.mol_base.specs.declared.ident.Id.{Id}
use Rattle.mol_table_rules.specs.Forms.{has_form}
use Rattle.mol_table_rules.specs.Mentions.{Role, Mention, a_class, a_field, a_method, a_called_method, a_static_method, a_constructor, a_param, a_listed_param, mentions}
use Rattle.mol_table_rules.specs.Program.{Program, Knowns, same_id, value_at}
use Rattle.mol_values_types.specs.Slots.{has_slot}
use Rattle.mol_values_types.specs.Words.{is_declaration}
use Rattle.mol_values_types.specs.declared.cell.Slot.{Slot}
use Rattle.mol_values_types.specs.declared.cell.Slot.TheVariants as slots
use Rattle.mol_values_types.specs.declared.kind.MethodKind.{MethodKind}
use Rattle.mol_values_types.specs.declared.kind.MethodKind.TheVariants.{Instance, Static, Constructor}
use Rattle.mol_values_types.specs.declared.known.Known.{Known}
use Rattle.mol_values_types.specs.declared.known.Known.TheVariants as knowns
use Rattle.mol_values_types.specs.declared.value.Value.{Value}
use Rattle.mol_values_types.specs.declared.value.Value.TheVariants as values

-- What an identity that a value in a cell of `owner` names is known as. A parameter in an expression may be known as
-- anything, or not at all; a listed one is a parameter of this very method.
abbrev pub fills : Id → Role → Option Known → Bool
fills owner a_class (Some knowns.Class) = true
fills owner a_field (Some knowns.Field) = true
fills owner a_method (Some (knowns.Method kind)) = true
fills owner a_called_method (Some (knowns.Method Instance)) = true
fills owner a_called_method (Some (knowns.Method Static)) = true
fills owner a_static_method (Some (knowns.Method Static)) = true
fills owner a_constructor (Some (knowns.Method Constructor)) = true
fills owner a_param known = true
fills owner a_listed_param (Some (knowns.Param method)) = same_id method owner
fills owner role known = false

-- each identity that the value mentions is known, and of the right kind
abbrev pub refers_rightly : Knowns → Id → Value → Bool
refers_rightly known owner value = list_all (λ (mention : Mention). fills owner mention.role (get known mention.id)) (mentions value)

-- these are the modifiers and the body of a declaration of a method of this kind
abbrev pub is_declared : MethodKind → Option Value → Option Value → Bool
is_declared kind (Some (values.Words words)) (Some (values.Body body)) = is_declaration kind words.texts body
is_declared kind words body = false

-- a method of this kind may have several declarations
abbrev pub has_many : MethodKind → Bool
has_many Instance = true
has_many Static = false
has_many Constructor = false

pub record IsProgram (program : Program) : Type 0 where
  -- what is known has all cells of its kind and no others, and nothing else has a cell
  pub whole : (id : Id) (slot : Slot) → is_some (value_at program id slot) ≡ has_slot (get program.known id) slot
  -- each value has its slot's form
  pub forms : (id : Id) (slot : Slot) (known : Known) (value : Value) → get program.known id ≡ Some known
      → value_at program id slot ≡ Some value → IsTrue (has_form known slot value)
  -- each reference names a known identity of the right kind
  pub references : (id : Id) (slot : Slot) (value : Value) → value_at program id slot ≡ Some value → IsTrue (refers_rightly program.known id value)
  -- a method is known with its kind, and a declaration with its method
  pub kinds : (id : Id) (kind : MethodKind) → value_at program id slots.Kind ≡ Some (values.Kind kind) → get program.known id ≡ Some (knowns.Method kind)
  pub methods : (id method : Id) → value_at program id slots.Method ≡ Some (values.Method method) → get program.known id ≡ Some (knowns.Decl method)
  -- a known declaration, and a known parameter, is one of a method
  pub decls : (id method : Id) → get program.known id ≡ Some (knowns.Decl method) → IsTrue (fills id a_method (get program.known method))
  pub params : (id method : Id) → get program.known id ≡ Some (knowns.Param method) → IsTrue (fills id a_method (get program.known method))
  -- a method that is static or a constructor has at most one declaration
  pub single : (method first second : Id) (kind : MethodKind) → get program.known method ≡ Some (knowns.Method kind) → has_many kind ≡ false
      → get program.known first ≡ Some (knowns.Decl method) → get program.known second ≡ Some (knowns.Decl method) → first ≡ second
  -- the modifiers of a declaration, and whether it has a block, are allowed for the kind of its method
  pub declarations : (id method : Id) (kind : MethodKind) → get program.known id ≡ Some (knowns.Decl method)
      → get program.known method ≡ Some (knowns.Method kind) → IsTrue (is_declared kind (value_at program id slots.Words) (value_at program id slots.Body))
