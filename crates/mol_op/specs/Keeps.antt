-- When a list of writes and a list of names keep the rules of programs.
use Rattle.std.specs.Prelude.{◌≡◌, Bool, true, false, IsTrue, ◌||◌, List, None, Some, is_some}
use Rattle.std.specs.FinMap.{get}
use Rattle.std.specs.List.{AllByRecursion}
use Rattle.mol_base.specs.declared.ident.Id.{Id}
use Rattle.mol_table_rules.specs.Forms.{has_form, is_formed}
use Rattle.mol_table_rules.specs.Mentions.{a_method}
use Rattle.mol_table_rules.specs.Program.{Program, Knowns, cell, value_at}
use Rattle.mol_table_rules.specs.Rules.{fills, refers_rightly, is_declared, has_many}
use Rattle.mol_values_types.specs.Slots.{has_slot, slot_of}
use Rattle.mol_values_types.specs.declared.cell.Slot.{Slot}
use Rattle.mol_values_types.specs.declared.cell.Slot.TheVariants as slots
use Rattle.mol_values_types.specs.declared.kind.MethodKind.{MethodKind}
use Rattle.mol_values_types.specs.declared.known.Known.{Known}
use Rattle.mol_values_types.specs.declared.known.Known.TheVariants as knowns
use Rattle.mol_values_types.specs.declared.value.Value.{Value}
use Rattle.mol_values_types.specs.declared.value.Value.TheVariants as values
use Rattle.mol_op.specs.Changes.{Write, Name, know_all, last_write, written}

-- a written `kind` or `method` is what the identity is known as
abbrev pub Agrees : Knowns → Id → Value → Type 0
Agrees known id (values.Kind kind) = get known id ≡ Some (knowns.Method kind)
Agrees known id (values.Method method) = get known id ≡ Some (knowns.Decl method)
Agrees known id value = Unit {0}

-- a written value has its slot's form, and refers rightly
pub record IsKept (known : Knowns) (write : Write) : Type 0 where
  pub slot : has_slot (get known write.0.id) write.0.slot ≡ true
  pub form : (what : Known) → get known write.0.id ≡ Some what → IsTrue (has_form what write.0.slot write.1)
  pub refers : IsTrue (refers_rightly known write.0.id write.1)
  pub agrees : Agrees known write.0.id write.1

-- the method of a declaration, and of a parameter, is a method
abbrev pub Belongs : Knowns → Id → Known → Type 0
Belongs known id (knowns.Decl method) = IsTrue (fills id a_method (get known method))
Belongs known id (knowns.Param method) = IsTrue (fills id a_method (get known method))
Belongs known id what = Unit {0}

-- the writes give a declaration other modifiers, or another body
abbrev pub is_redeclared : List Write → Id → Bool
is_redeclared writes id = is_some (last_write writes (cell id slots.Words)) || is_some (last_write writes (cell id slots.Body))

pub record Keeps (program : Program) (writes : List Write) (names : List Name) : Type 0 where
  pub each : AllByRecursion (IsKept (know_all program.known names)) writes
  -- what was not known has all its cells
  pub whole : (id : Id) (slot : Slot) → get program.known id ≡ None → has_slot (get (know_all program.known names) id) slot ≡ true
      → is_some (last_write writes (cell id slot)) ≡ true
  pub belongs : AllByRecursion (λ name. Belongs (know_all program.known names) name.0 name.1) names
  -- a new declaration of a method that may not have several is its only one
  pub single : (method first second : Id) (kind : MethodKind) → get (know_all program.known names) method ≡ Some (knowns.Method kind)
      → has_many kind ≡ false → get program.known first ≡ None → get (know_all program.known names) first ≡ Some (knowns.Decl method)
      → get (know_all program.known names) second ≡ Some (knowns.Decl method) → first ≡ second
  pub declarations : (id method : Id) (kind : MethodKind) → get (know_all program.known names) id ≡ Some (knowns.Decl method)
      → get (know_all program.known names) method ≡ Some (knowns.Method kind) → is_redeclared writes id ≡ true
      → IsTrue
      (is_declared kind (value_at (written program writes names) id slots.Words) (value_at (written program writes names) id slots.Body))

-- ---- another value for one cell

-- a value that makes nothing known, and is no modifiers
abbrev pub is_plain : Value → Bool
is_plain (values.Kind kind) = false
is_plain (values.Method method) = false
is_plain (values.Params params) = false
is_plain (values.Words words) = false
is_plain value = true

-- a body is allowed for the kind of the declaration's method, with the modifiers that it has
abbrev pub IsAllowed : Program → Id → Value → Type 0
IsAllowed program id (values.Body body) =
    (method : Id) (kind : MethodKind) → get program.known id ≡ Some (knowns.Decl method)
    → get program.known method ≡ Some (knowns.Method kind)
    → IsTrue (is_declared kind (value_at program id slots.Words) (Some (values.Body body)))
IsAllowed program id value = Unit {0}

-- the cell of its slot may have this value
pub record MaySet (program : Program) (id : Id) (value : Value) : Type 0 where
  pub plain : is_plain value ≡ true
  pub what : Known
  pub known : get program.known id ≡ Some what
  pub slot : has_slot (Some what) (slot_of value) ≡ true
  pub formed : IsTrue (is_formed what value)
  pub refers : IsTrue (refers_rightly program.known id value)
  pub allowed : IsAllowed program id value
