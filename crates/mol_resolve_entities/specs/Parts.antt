-- The entities of what stands in a source file, of the parts that are read. Each has its values in the order of the slots of its kind.
use Rattle.std.specs.Prelude.{true, List, [], ◌∷◌, length, Option}
use Rattle.mol_base.specs.declared.ident.Id.{Id}
use Rattle.mol_table_rules.specs.declared.entity.NewEntity.{NewEntity}
use Rattle.mol_values_types.specs.declared.iblock.IBody.{IBody}
use Rattle.mol_values_types.specs.declared.iexpr.IExpr.{IExpr}
use Rattle.mol_values_types.specs.declared.itype.IType.{IType}
use Rattle.mol_values_types.specs.declared.kind.Kind.TheVariants as kinds
use Rattle.mol_values_types.specs.declared.kind.MethodKind.{MethodKind}
use Rattle.mol_values_types.specs.declared.param.Param.{Param}
use Rattle.mol_values_types.specs.declared.value.Value.{Value}
use Rattle.mol_values_types.specs.declared.value.Value.TheVariants as values
use Rattle.mol_values_types.specs.declared.words.Notes.{Notes}
use Rattle.jav_tree.specs.declared.unit.Field.{Field}
use Rattle.jav_tree.specs.declared.unit.Unit.{Unit as Source}
use Rattle.jav_names.specs.DottedNames.{Name}
use Rattle.jav_names.specs.Members.{is_object_method}
use Rattle.mol_resolve_rules.specs.Expected.{notes_of}

-- modifiers, and comments before a member
abbrev pub words_value : List Name → Value
words_value words = values.Words (record { texts = words })

abbrev pub front_value : List Name → Value
front_value front = values.Notes (notes_of front)

-- the comments of a class
abbrev pub class_notes : Source → Notes
class_notes source = record { front = source.class.front; head = source.head; tail = source.class.tail }

-- the class of a file, with what it extends
abbrev pub class_entity : Id → Source → Option IType → NewEntity
class_entity id source above = record {
  id = id;
  kind = kinds.Class;
  values = values.Live true ∷ values.Package source.«package» ∷ values.Name source.class.name ∷ values.Super above
      ∷ words_value source.class.words ∷ values.Notes (class_notes source) ∷ [];
}

-- a field of a class, with its type and its first value
abbrev pub field_entity : (id owner : Id) → Field → IType → Option IExpr → NewEntity
field_entity id owner field type init = record {
  id = id;
  kind = kinds.Field;
  values = values.Live true ∷ values.Owner owner ∷ values.Name field.name ∷ words_value field.words ∷ front_value field.front
      ∷ values.Value type init ∷ [];
}

-- a declaration of a method in a class, with its modifiers, the comments before it and its body
abbrev pub declaration_entity : (id owner method : Id) → (words front : List Name) → Option IBody → NewEntity
declaration_entity id owner method words front body = record {
  id = id;
  kind = kinds.Decl;
  values = values.Live true ∷ values.Owner owner ∷ values.Method method ∷ words_value words ∷ front_value front
      ∷ values.Body body ∷ [];
}

-- A method or constructor with its parameters. Whether it is fixed, its name and their number say.
abbrev pub method_entity : Id → Name → IType → List Param → MethodKind → NewEntity
method_entity id name result params kind = record {
  id = id;
  kind = kinds.Method;
  values = values.Name name ∷ values.Result result ∷ values.Params params ∷ values.Kind kind
      ∷ values.Fixed (is_object_method name (length params)) ∷ [];
}
