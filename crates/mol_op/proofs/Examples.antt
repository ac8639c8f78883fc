-- Worked tests. The base has the classes `:1` Cart, `:2` Desk and `:3` Till, the field `:4`, the declarations `:5` total, `:6` tax,
-- `:7` add and `:10` pay, and the methods `:11` total, `:12` tax with the parameter `:13`, and `:14` add with `:15` and `:16`; tax is
-- static.
use Rattle.std.specs.Prelude.{◌≡◌, ℕ, true, false, List, [], ◌∷◌, codes, None, Some}
use Rattle.std.proofs.Common.{refl}
use Rattle.mol_base.specs.declared.ident.Id.{Id}
use Rattle.mol_table_rules.specs.Mentions.{a_class, a_called_method, a_static_method, a_constructor, a_param}
use Rattle.mol_table_rules.specs.Program.{cell}
use Rattle.mol_values_types.specs.declared.cell.Slot.TheVariants as slots
use Rattle.mol_values_types.specs.declared.kind.MethodKind.TheVariants.{Instance, Static, Constructor}
use Rattle.mol_values_types.specs.declared.known.Known.TheVariants as knowns
use Rattle.mol_values_types.specs.declared.value.Value.TheVariants as values
use Rattle.mol_op.specs.Changes.{first_name}
use Rattle.jav_names.specs.Members.{is_object_method}
use Rattle.mol_op.specs.Rows.{delete_writes, rename_method_tests, rename_method_writes, move_method_tests, move_method_writes, change_signature_writes, block_tests}
use Rattle.mol_op.specs.Tests.{Test, needs, lists, declares, fails, need_fault, new_fault, list_fault, may_mention, is_named, tests_names}
use Rattle.mol_op.specs.declared.change_signature.ChangeSignature.{ChangeSignature}
use Rattle.mol_op.specs.declared.fault.OpFault.TheVariants.{Unknown, WrongKind, NotStatic, BadTag, NotFresh}
use Rattle.mol_op.specs.declared.rename_method.RenameMethod.{RenameMethod}
use Rattle.mol_op.specs.declared.conditions.Want.TheVariants as wants

abbrev base : ℕ → Id
base n = record { tag = []; num = n }

abbrev ann : ℕ → Id
ann n = record { tag = codes "ann"; num = n }

-- ---- rename-method of total to another name

rename_row : (op : RenameMethod) → rename_method_tests op ≡ needs wants.Called op.method ∷ []
rename_row op = refl

rename_applies : need_fault wants.Called (base 11) (Some (knowns.Method Instance)) ≡ None
rename_applies = refl

rename_writes : (op : RenameMethod) → rename_method_writes op ≡ (cell op.method slots.Name, values.Name op.name) ∷ []
rename_writes op = refl

rename_unknown : need_fault wants.Called (base 99) None ≡ Some (Unknown (base 99))
rename_unknown = refl

rename_declaration : need_fault wants.Called (base 5) (Some (knowns.Decl (base 11))) ≡ Some (WrongKind (base 5))
rename_declaration = refl

rename_constructor : need_fault wants.Called (base 20) (Some (knowns.Method Constructor)) ≡ Some (WrongKind (base 20))
rename_constructor = refl

-- ---- delete: what lives no longer keeps its cells

delete_is_live : delete_writes (record { id = base 6 }) ≡ (cell (base 6) slots.Live, values.Live false) ∷ []
delete_is_live = refl

delete_declaration : need_fault wants.Deleted (base 6) (Some (knowns.Decl (base 12))) ≡ None
delete_declaration = refl

delete_method : need_fault wants.Deleted (base 12) (Some (knowns.Method Static)) ≡ Some (WrongKind (base 12))
delete_method = refl

delete_parameter : need_fault wants.Deleted (base 13) (Some (knowns.Param (base 12))) ≡ Some (WrongKind (base 13))
delete_parameter = refl

-- ---- move-method of tax to Desk: the declaration, that it is static, and then the class

move_row : move_method_tests (record { decl = base 6; owner = base 2 }) ≡ needs wants.Decl (base 6) ∷ declares Static (NotStatic (base 6)) (base 6) ∷ needs wants.Class (base 2) ∷ []
move_row = refl

move_writes : move_method_writes (record { decl = base 6; owner = base 2 }) ≡ (cell (base 6) slots.Owner, values.Owner (base 2)) ∷ []
move_writes = refl

-- ---- change-signature of add: `:16`, `:15` and a new parameter

signature_writes : (op : ChangeSignature) → change_signature_writes op ≡ (cell op.method slots.Result, values.Result op.result) ∷ (cell op.method slots.Params, values.Params op.params) ∷ []
signature_writes op = refl

abbrev signature : List Id → List Test
signature [] = []
signature (id ∷ ids) = lists (base 14) id ∷ signature ids

signature_names : tests_names (signature (base 16 ∷ ann 1 ∷ [])) ≡ (base 16, knowns.Param (base 14)) ∷ (ann 1, knowns.Param (base 14)) ∷ []
signature_names = refl

known_parameter : list_fault (codes "ann") false (base 14) (base 16) (Some (knowns.Param (base 14))) ≡ None
known_parameter = refl

new_parameter : list_fault (codes "ann") false (base 14) (ann 1) None ≡ None
new_parameter = refl

parameter_of_another : list_fault (codes "ann") false (base 14) (base 13) (Some (knowns.Param (base 12))) ≡ Some (WrongKind (base 13))
parameter_of_another = refl

known_parameter_twice : list_fault (codes "ann") (is_named ((base 15, knowns.Param (base 14)) ∷ []) (base 15)) (base 14) (base 15) (Some (knowns.Param (base 14))) ≡ Some (NotFresh (base 15))
known_parameter_twice = refl

new_parameter_twice : list_fault (codes "ann") (is_named ((ann 1, knowns.Param (base 14)) ∷ []) (ann 1)) (base 14) (ann 1) None ≡ Some (NotFresh (ann 1))
new_parameter_twice = refl

parameter_of_another_log : list_fault (codes "bob") false (base 14) (ann 1) None ≡ Some (BadTag (ann 1))
parameter_of_another_log = refl

-- ---- additions: the tag goes before the rest

one_identity_twice : new_fault (codes "ann") (is_named ((ann 1, knowns.Method Instance) ∷ []) (ann 1)) (ann 1) None ≡ Some (NotFresh (ann 1))
one_identity_twice = refl

known_as_new : new_fault [] false (base 1) (Some knowns.Class) ≡ Some (NotFresh (base 1))
known_as_new = refl

known_with_another_tag : new_fault (codes "ann") false (base 1) (Some knowns.Class) ≡ Some (BadTag (base 1))
known_with_another_tag = refl

-- what is added first goes first
added_method : first_name ((ann 1, knowns.Method Instance) ∷ (ann 2, knowns.Decl (ann 1)) ∷ []) (ann 2) ≡ Some (knowns.Decl (ann 1))
added_method = refl

-- parameters in bodies have no condition
any_parameter : may_mention a_param (base 99) None ≡ true
any_parameter = refl

own_call : may_mention a_called_method (ann 1) (Some (knowns.Method Instance)) ≡ true
own_call = refl

method_as_a_class : may_mention a_class (ann 1) (Some (knowns.Method Instance)) ≡ false
method_as_a_class = refl

static_call_of_an_instance : may_mention a_static_method (base 11) (Some (knowns.Method Instance)) ≡ false
static_call_of_an_instance = refl

creation_by_a_method : may_mention a_constructor (base 12) (Some (knowns.Method Static)) ≡ false
creation_by_a_method = refl

override_of_a_static : need_fault wants.Overridden (base 12) (Some (knowns.Method Static)) ≡ Some (WrongKind (base 12))
override_of_a_static = refl

-- a static method, and a constructor, have a block; an instance method may do without
abstract_static : block_tests None Static (ann 2) ≡ fails (WrongKind (ann 2)) ∷ []
abstract_static = refl

abstract_constructor : block_tests None Constructor (ann 2) ≡ fails (WrongKind (ann 2)) ∷ []
abstract_constructor = refl

abstract_instance : block_tests None Instance (ann 2) ≡ []
abstract_instance = refl

-- ---- methods of Object

fixed_equals : is_object_method (codes "equals") 1 ≡ true
fixed_equals = refl

free_equals : is_object_method (codes "equals") 2 ≡ false
free_equals = refl
