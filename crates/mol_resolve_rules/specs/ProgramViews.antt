-- The view of a program, which the rules on names look at. Its keys are identities.
use Rattle.std.specs.Prelude.{ℕ, List, [], map, length, Option, Some, None, option_map, if◌then◌else◌, codes}
use Rattle.std.specs.FinMap.{get, entries}
use Rattle.std.specs.List.{filter_map}
use Rattle.mol_base.specs.Modifiers.{has}
use Rattle.mol_base.specs.Order.{id_cmp}
use Rattle.mol_base.specs.declared.ident.Id.{Id}
use Rattle.mol_table_rules.specs.Program.{Program, value_at, living_at, package_at, name_at, owner_at, params_at}
use Rattle.mol_values_types.specs.declared.cell.Slot.TheVariants as slots
use Rattle.mol_values_types.specs.declared.itype.IType.{IType, fold-IType}
use Rattle.mol_values_types.specs.declared.itype.IType.TheOpen.{IType-F}
use Rattle.mol_values_types.specs.declared.kind.MethodKind.TheVariants.{Static, Constructor}
use Rattle.mol_values_types.specs.declared.known.Known.{Known}
use Rattle.mol_values_types.specs.declared.known.Known.TheVariants as knowns
use Rattle.mol_values_types.specs.declared.param.Param.{Param}
use Rattle.mol_values_types.specs.declared.value.Value.{Value}
use Rattle.mol_values_types.specs.declared.value.Value.TheVariants as values
use Rattle.jav_names.specs.TypeTexts.{imported_text}
use Rattle.jav_names.specs.Views.{ViewType, primitive_type, void_type, class_type, outside_type, array_type, unread_type, ViewClass, ViewField, DeclarationKind, instance_method, static_method, constructor, ViewDeclaration, View}
use Rattle.mol_resolve_rules.specs.Readers.{Ids}

-- ---- types

-- A type of a program as the rules look at it: a type outside is its text.
abbrev pub seen_step : IType-F (ViewType Id) → ViewType Id
seen_step IType-F.Boolean = primitive_type (codes "boolean")
seen_step IType-F.Byte = primitive_type (codes "byte")
seen_step IType-F.Short = primitive_type (codes "short")
seen_step IType-F.Char = primitive_type (codes "char")
seen_step IType-F.Int = primitive_type (codes "int")
seen_step IType-F.Long = primitive_type (codes "long")
seen_step IType-F.Void = void_type
seen_step (IType-F.Class id) = class_type id
seen_step (IType-F.Imported import rest) = outside_type (imported_text import rest)
seen_step (IType-F.Written text) = outside_type text
seen_step (IType-F.Array item) = array_type item

abbrev pub seen : IType → ViewType Id
seen = fold-IType (ViewType Id) seen_step

-- ---- classes

-- a class that lives
abbrev pub living_class : Program → Id × Known → Option (ViewClass Id)
living_class program (id, knowns.Class) =
    if living_at program id then Some (record { key = id; «package» = package_at program id; name = name_at program id }) else None
living_class program entry = None

abbrev pub superclass_in : Option Value → Option (ViewType Id)
superclass_in (Some (values.Super parent)) = option_map seen parent
superclass_in value = None

-- what a class extends, also one that does not live
abbrev pub superclass_at : Program → Id → Option (ViewType Id)
superclass_at program class = superclass_in (value_at program class slots.Super)

-- ---- fields

abbrev pub words_in : Option Value → List (List ℕ)
words_in (Some (values.Words words)) = words.texts
words_in value = []

abbrev pub field_type_in : Option Value → ViewType Id
field_type_in (Some (values.Value type init)) = seen type
field_type_in value = unread_type

abbrev pub field_type_at : Program → Id → ViewType Id
field_type_at program field = field_type_in (value_at program field slots.Value)

abbrev pub field_of : Program → Id → Id → ViewField Id Id
field_of program id owner = record {
  key = id;
  owner = owner;
  name = name_at program id;
  is_static = has (words_in (value_at program id slots.Words)) "static";
  type = field_type_at program id;
}

-- a field that lives; its owner need not live
abbrev pub living_field : Program → Id × Known → Option (ViewField Id Id)
living_field program (id, knowns.Field) = if living_at program id then option_map (field_of program id) (owner_at program id) else None
living_field program entry = None

-- ---- declarations

-- what kind of declarations a method has
abbrev pub kind_in : Option Known → DeclarationKind
kind_in (Some (knowns.Method Static)) = static_method
kind_in (Some (knowns.Method Constructor)) = constructor
kind_in known = instance_method

abbrev pub result_in : Option Value → ViewType Id
result_in (Some (values.Result type)) = seen type
result_in value = unread_type

abbrev pub result_at : Program → Id → ViewType Id
result_at program method = result_in (value_at program method slots.Result)

-- Its name, its number of parameters, its kind and its result are those of its method.
abbrev pub declaration_of : Program → Id → Id → Id → ViewDeclaration Id Id
declaration_of program id method owner = record {
  key = id;
  owner = owner;
  name = name_at program method;
  arity = length (params_at program method);
  kind = kind_in (get program.known method);
  result = result_at program method;
}

-- a declaration that lives; its owner need not live
abbrev pub living_declaration : Program → Id × Known → Option (ViewDeclaration Id Id)
living_declaration program (id, knowns.Decl method) =
    if living_at program id then option_map (declaration_of program id method) (owner_at program id) else None
living_declaration program entry = None

-- ---- the view

-- What lives, ascending by identity.
abbrev pub program_view : Program → View Id Id
program_view program = record {
  classes = record { cmp = id_cmp; items = filter_map (living_class program) (entries program.known) };
  member_cmp = id_cmp;
  fields = filter_map (living_field program) (entries program.known);
  declarations = filter_map (living_declaration program) (entries program.known);
  superclass = superclass_at program;
}

-- ---- identities

-- the method of a declaration
abbrev pub method_in : Id → Option Known → Id
method_in id (Some (knowns.Decl method)) = method
method_in id known = id

abbrev pub method_at : Program → Id → Id
method_at program id = method_in id (get program.known id)

-- Where trees are read in a program, keys are the identities themselves.
abbrev pub program_ids : Program → Ids Id Id
program_ids program = record {
  class_id = λ class. class;
  member_id = λ member. member;
  method_id = λ declared. method_at program declared.key;
  param_ids = λ declared. map (λ (param : Param). param.id) (params_at program (method_at program declared.key));
}
