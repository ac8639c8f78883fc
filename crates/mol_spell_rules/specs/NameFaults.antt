-- The conditions of the faults of a program that are said of its names. Those of cells alone stand with the definitions of tables.
use Rattle.std.specs.Prelude.{◌≡◌, ◌≢◌, ◌⊎◌, ℕ, Bool, false, IsTrue, IsFalse, not, map, length, Some, Contains, slice_get}
use Rattle.std.specs.FinMap.{get}
use Rattle.std.specs.declared.cmp.Ordering.TheVariants.{Less}
use Rattle.mol_base.specs.Order.{id_cmp}
use Rattle.mol_base.specs.declared.ident.Id.{Id}
use Rattle.mol_spell_rules.specs.references.References.{Target, class_target, field_target, method_target, param_target, default_target, local_target, outside_target}
use Rattle.mol_table_rules.specs.Ancestors.{is_on_way}
use Rattle.mol_table_rules.specs.Life.{lives, lives_method}
use Rattle.mol_table_rules.specs.Program.{Program, value_at, living_at, package_at, name_at, owner_at, params_at, cell}
use Rattle.mol_table_rules.specs.Renumber.{is_living_class}
use Rattle.mol_table_rules.specs.Tidy.{tidy}
use Rattle.mol_values_types.specs.declared.cell.Cell.{Cell}
use Rattle.mol_values_types.specs.declared.cell.Slot.TheVariants as slots
use Rattle.mol_values_types.specs.declared.iblock.IBody.{IBody}
use Rattle.mol_values_types.specs.declared.kind.MethodKind.{MethodKind}
use Rattle.mol_values_types.specs.declared.kind.MethodKind.TheVariants.{Constructor}
use Rattle.mol_values_types.specs.declared.known.Known.TheVariants as knowns
use Rattle.mol_values_types.specs.declared.param.Param.{Param}
use Rattle.mol_values_types.specs.declared.value.Value.TheVariants as values
use Rattle.jav_names.specs.DottedNames.{Name, Names}
use Rattle.jav_names.specs.Members.{is_object_method}
use Rattle.mol_resolve_rules.specs.Readers.{Reader}
use Rattle.mol_resolve_rules.specs.ResolveFaults.{BeginsWith}
use Rattle.mol_spell_rules.specs.Answers.{answered}
use Rattle.mol_spell_rules.specs.LocalClashes.{clashes_in, IsRepeated}
use Rattle.mol_spell_rules.specs.SimpleNames.{imports_in, unit_references}
use Rattle.mol_spell_rules.specs.UnitCells.{printed_cells, cell_reader}
use Rattle.mol_spell_rules.specs.Writers.{Reference, program_class, full_of}

-- ---- methods

-- a declaration that lives, with its method, which is of this kind, and its owner
pub record IsLivingDeclaration (program : Program) (declaration method owner : Id) (kind : MethodKind) : Type 0 where
  pub declares : get program.known declaration ≡ Some (knowns.Decl method)
  pub declaration_lives : IsTrue (living_at program declaration)
  pub is_kind : get program.known method ≡ Some (knowns.Method kind)
  pub owned : owner_at program declaration ≡ Some owner

-- The second is an ancestor of the first, and another class.
pub record IsProperAncestor (program : Program) (class above : Id) : Type 0 where
  pub on_way : IsTrue (is_on_way program class above)
  pub apart : class ≢ above

-- Two methods that are no constructors have equal names and numbers of parameters.
pub record AreAlike (program : Program) (first second : Id) : Type 0 where
  pub apart : first ≢ second
  pub named : name_at program first ≡ name_at program second
  pub as_many : length (params_at program first) ≡ length (params_at program second)

-- ---- FalseOverride

-- Living declarations of two such methods stand in a class and an ancestor of it, so that one would override the other (JLS 8.4.8.1).
-- The smaller identity goes first.
pub record FalseOverride (program : Program) (first second : Id) : Type 0 where
  pub ordered : id_cmp first second ≡ Less
  pub first_method : Id
  pub second_method : Id
  pub first_owner : Id
  pub second_owner : Id
  pub first_kind : MethodKind
  pub second_kind : MethodKind
  pub first_lives : IsLivingDeclaration program first first_method first_owner first_kind
  pub second_lives : IsLivingDeclaration program second second_method second_owner second_kind
  pub first_is_method : first_kind ≢ Constructor
  pub second_is_method : second_kind ≢ Constructor
  pub alike : AreAlike program first_method second_method
  pub related : IsProperAncestor program first_owner second_owner ⊎ IsProperAncestor program second_owner first_owner

-- ---- OutsideName

-- A method has the name and the number of parameters of one of `Object` now and had not when it was added, or the other way round.
pub record OutsideName (program : Program) (method : Id) : Type 0 where
  pub kind : MethodKind
  pub is_kind : get program.known method ≡ Some (knowns.Method kind)
  pub is_method : kind ≢ Constructor
  pub method_lives : IsTrue (lives_method program method)
  pub fixed : Bool
  pub holds : value_at program method slots.Fixed ≡ Some (values.Fixed fixed)
  pub differs : fixed ≢ is_object_method (name_at program method) (length (params_at program method))

-- ---- Misread

-- A name may be that of a class, a field or a method that does not live, or of the default constructor of such a class. What is gone has
-- a fault of its own, and is not asked for. A parameter is no entity.
abbrev pub is_gone : Program → Target → Bool
is_gone program (class_target class) = not (lives program class)
is_gone program (field_target field) = not (lives program field)
is_gone program (method_target method) = not (lives program method)
is_gone program (default_target class) = not (lives program class)
is_gone program (param_target param) = false
is_gone program (local_target number) = false
is_gone program (outside_target text) = false

-- where the references of a cell are read, as they print in the file of a class
abbrev pub unit_reader : Program → Id → Cell → Reader Id Id
unit_reader program class at = cell_reader program (imports_in program class) class at

-- In the file of a living class a reference of a cell of the program, the one of this number, reads as something else than its target, or
-- as nothing.
pub record MisreadIn (program : Program) (class : Id) (at : Cell) (number : ℕ) (target : Target) : Type 0 where
  pub class_lives : IsTrue (is_living_class program class)
  pub prints : Contains (printed_cells program class) at
  pub reference : Reference
  pub stands : slice_get (unit_references program class at) number ≡ Some reference
  pub names : reference.target ≡ target
  pub there : IsFalse (is_gone program target)
  pub differs : answered (unit_reader program class at) reference ≢ Some target

-- So it is in a file of the tidied program. The result and the parameters of a method print in the file of each declaration.
pub record Misread (program : Program) (at : Cell) (number : ℕ) (target : Target) : Type 0 where
  pub class : Id
  pub misread : MisreadIn (tidy program) class at number target

-- ---- LocalClash

abbrev pub param_names : Program → Id → Names
param_names program method = map (λ (param : Param). param.name) (params_at program method)

-- a local of this name clashes in the body of a declaration of this method
pub record ClashesInBody (program : Program) (declaration method : Id) (name : Name) : Type 0 where
  pub body : IBody
  pub holds : value_at program declaration slots.Body ≡ Some (values.Body (Some body))
  pub clashes : Contains (clashes_in (param_names program method) body.block) name

-- In the body of a living declaration a local is declared in the scope of a local or parameter of its name; or two parameters of its
-- method have one name, also where there is no body (JLS 6.4).
pub record LocalClash (program : Program) (at : Cell) (name : Name) : Type 0 where
  pub declaration : Id
  pub method : Id
  pub is : at ≡ cell declaration slots.Body
  pub declares : get program.known declaration ≡ Some (knowns.Decl method)
  pub declaration_lives : IsTrue (living_at program declaration)
  pub clashes : IsRepeated (param_names program method) name ⊎ ClashesInBody program declaration method name

-- ---- PackageIsClass

-- The full name of the first class is the package of the second, or that package is in it as in a package (JLS 7.1).
pub record PackageIsClass (program : Program) (class inside : Id) : Type 0 where
  pub class_lives : IsTrue (is_living_class program class)
  pub inside_lives : IsTrue (is_living_class program inside)
  pub is : (package_at program inside ≡ full_of program (program_class class))
      ⊎ BeginsWith (package_at program inside) (full_of program (program_class class))
