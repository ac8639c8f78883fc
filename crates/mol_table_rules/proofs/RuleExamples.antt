-- Values and programs that break the rules of programs.
use Rattle.std.specs.Prelude.{◌≡◌, ℕ, true, false, [], ◌∷◌, codes, None, Some, is_some}
use Rattle.std.proofs.Common.{refl, sym, ap, ◌∙◌, arith, true≢false}
use Rattle.std.specs.FinMap.{empty, get, insert, get-empty, get-insert}
use Rattle.std.specs.Str.{is_utf8, chars}
use Rattle.mol_base.specs.Lexical.Characters.{first_char}
use Rattle.mol_base.specs.Lexical.Names.{starts_name}
use Rattle.mol_base.specs.Lexical.Front.{front, is_clean, token_kind}
use Rattle.mol_base.specs.Lexical.Numbers.{number, is_float, is_integer, is_digits}
use Rattle.mol_base.specs.Lexical.Symbols.{symbol}
use Rattle.mol_base.specs.Order.{id_cmp-total}
use Rattle.mol_base.specs.declared.ident.Id.{Id}
use Rattle.mol_table_rules.specs.Forms.{has_form, is_formed}
use Rattle.mol_table_rules.specs.Mentions.{a_class, a_field, a_method, a_called_method, a_static_method, a_constructor, a_listed_param}
use Rattle.mol_values_types.specs.Order.{cell_cmp}
use Rattle.mol_table_rules.specs.Program.{Program, cell}
use Rattle.mol_table_rules.specs.Rules.{IsProgram, fills, is_declared}
use Rattle.mol_values_types.specs.Slots.{has_slot}
use Rattle.mol_values_types.specs.Words.{is_declaration}
use Rattle.mol_values_types.specs.declared.cell.Slot.TheVariants as slots
use Rattle.mol_values_types.specs.declared.known.Known.TheVariants as knowns
use Rattle.mol_values_types.specs.declared.kind.MethodKind.TheVariants.{Instance, Static, Constructor}
use Rattle.mol_values_types.specs.declared.value.Value.TheVariants as values

abbrev base : ℕ → Id
base n = record { tag = []; num = n }

-- ---- a value has its slot's form

other_slot : has_form knowns.Class slots.Name (values.Package (codes "k")) ≡ false
other_slot = refl

number_as_name : is_formed knowns.Class (values.Name (codes "1 x")) ≡ false
unfolding token_kind is_clean front number is_float is_integer is_digits is_utf8 chars lib.Utf8.encode
number_as_name = refl

empty_name : is_formed knowns.Field (values.Name []) ≡ false
unfolding token_kind is_clean front symbol starts_name first_char is_utf8 chars lib.Utf8.encode
empty_name = refl

unknown_modifier : is_formed knowns.Class (values.Words (record { texts = codes "banana" ∷ [] })) ≡ false
unknown_modifier = refl

modifier_of_a_field : is_formed knowns.Class (values.Words (record { texts = codes "volatile" ∷ [] })) ≡ false
modifier_of_a_field = refl

comments_in_a_declaration : is_formed (knowns.Decl (base 1)) (values.Notes (record { front = []; head = codes "//a" ∷ []; tail = [] })) ≡ false
comments_in_a_declaration = refl

-- ---- a constructor has no name, gives nothing and is never fixed

named_constructor : is_formed (knowns.Method Constructor) (values.Name (codes "c")) ≡ false
named_constructor = refl

fixed_constructor : is_formed (knowns.Method Constructor) (values.Fixed true) ≡ false
fixed_constructor = refl

-- ---- a declaration is as the grammar allows for the kind of its method

abstract_static : is_declaration Static [] None ≡ false
abstract_static = refl

abstract_constructor : is_declaration Constructor [] None ≡ false
abstract_constructor = refl

overriding_constructor : is_declared Constructor (Some (values.Words (record { texts = codes "@Override" ∷ [] }))) (Some (values.Body None)) ≡ false
overriding_constructor = refl

-- ---- a reference names what is known, and of the right kind

unknown_class : fills (base 1) a_class None ≡ false
unknown_class = refl

field_for_a_class : fills (base 1) a_class (Some knowns.Field) ≡ false
field_for_a_class = refl

class_for_a_field : fills (base 1) a_field (Some knowns.Class) ≡ false
class_for_a_field = refl

declaration_for_a_method : fills (base 1) a_method (Some (knowns.Decl (base 2))) ≡ false
declaration_for_a_method = refl

call_of_a_constructor : fills (base 1) a_called_method (Some (knowns.Method Constructor)) ≡ false
call_of_a_constructor = refl

static_call_of_an_instance : fills (base 1) a_static_method (Some (knowns.Method Instance)) ≡ false
static_call_of_an_instance = refl

creation_by_a_method : fills (base 1) a_constructor (Some (knowns.Method Static)) ≡ false
creation_by_a_method = refl

-- ---- a listed parameter is one of this method

parameter_of_another : fills (base 1) a_listed_param (Some (knowns.Param (base 2))) ≡ false
parameter_of_another = refl

entity_as_a_parameter : fills (base 1) a_listed_param (Some knowns.Field) ≡ false
entity_as_a_parameter = refl

-- ---- what is known has all its cells

abbrev bare_class : Program
bare_class = record { cells = empty; known = insert empty (base 1) knowns.Class }

class_without_cells : IsProgram bare_class → ⊥
class_without_cells rules =
    true≢false (sym (rules.whole (base 1) slots.Live ∙ ap (λ o. has_slot o slots.Live) (get-insert id_cmp-total empty (base 1) knowns.Class (base 1))) ∙ ap is_some (get-empty cell_cmp (cell (base 1) slots.Live)))

-- a method that is no instance method has one declaration
two_declarations : (program : Program) → IsProgram program → get program.known (base 1) ≡ Some (knowns.Method Constructor)
    → get program.known (base 2) ≡ Some (knowns.Decl (base 1)) → get program.known (base 3) ≡ Some (knowns.Decl (base 1)) → ⊥
two_declarations program rules method first second =
    let same : 2 ≡ 3 = ap (λ (id : Id). id.num) (rules.single (base 1) (base 2) (base 3) Constructor method refl first second) in absurd (omega (arith, same))
