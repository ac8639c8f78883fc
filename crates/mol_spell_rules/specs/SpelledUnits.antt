-- The source files of a program: one for each class that lives, with its path.
use Rattle.std.specs.Prelude.{Bool, true, false, List, [], map, filter, Option, Some, None, option_map}
use Rattle.std.specs.FinMap.{get, keys}
use Rattle.std.specs.List.{filter_map}
use Rattle.std.specs.Option.{option_map_or}
use Rattle.std.specs.Ordering.{nat_cmp, on, then_cmp}
use Rattle.std.specs.Cmp.Lexicographic.{slice_cmp}
use Rattle.std.specs.declared.cmp.Ordering.{Ordering}
use Rattle.mol_base.specs.Order.{id_cmp}
use Rattle.mol_base.specs.declared.ident.Id.{Id}
use Rattle.mol_table_rules.specs.Program.{Program, value_at, package_at, name_at, params_at, cell}
use Rattle.mol_table_rules.specs.Renumber.{path_at, is_living_class}
use Rattle.mol_table_rules.specs.Tidy.{tidy}
use Rattle.mol_values_types.specs.declared.cell.Slot.{Slot}
use Rattle.mol_values_types.specs.declared.cell.Slot.TheVariants as slots
use Rattle.mol_values_types.specs.declared.iblock.IBody.{IBody}
use Rattle.mol_values_types.specs.declared.iexpr.IExpr.{IExpr}
use Rattle.mol_values_types.specs.declared.itype.IType.{IType}
use Rattle.mol_values_types.specs.declared.kind.MethodKind.TheVariants.{Instance, Static, Constructor}
use Rattle.mol_values_types.specs.declared.known.Known.{Known}
use Rattle.mol_values_types.specs.declared.known.Known.TheVariants as knowns
use Rattle.mol_values_types.specs.declared.param.Param.{Param}
use Rattle.mol_values_types.specs.declared.value.Value.{Value}
use Rattle.mol_values_types.specs.declared.value.Value.TheVariants as values
use Rattle.mol_values_types.specs.declared.words.Notes.{Notes}
use Rattle.jav_tree.specs.Blocks.{block_of}
use Rattle.jav_tree.specs.declared.expr.Expr.{Expr}
use Rattle.jav_tree.specs.declared.stmt.Block.{Block}
use Rattle.jav_tree.specs.declared.types.TypeName.{TypeName}
use Rattle.jav_tree.specs.declared.types.TypeName.TheVariants as types
use Rattle.jav_tree.specs.declared.unit.ClassDecl.{ClassDecl}
use Rattle.jav_tree.specs.declared.unit.Member.{Member}
use Rattle.jav_tree.specs.declared.unit.Member.TheVariants as member
use Rattle.jav_tree.specs.declared.unit.Param.{Param as ParamName}
use Rattle.jav_tree.specs.declared.unit.Unit.{Unit as Source}
use Rattle.jav_names.specs.DottedNames.{Name}
use Rattle.mol_resolve_rules.specs.Locals.{no_locals}
use Rattle.mol_resolve_rules.specs.ProgramViews.{words_in}
use Rattle.mol_spell_rules.specs.Sets.{as_set}
use Rattle.mol_spell_rules.specs.SimpleNames.{imports_in, unit_writer}
use Rattle.mol_spell_rules.specs.SpelledExpressions.{spelled_expr}
use Rattle.mol_spell_rules.specs.SpelledStatements.{declared_type, spelled_body}
use Rattle.mol_spell_rules.specs.UnitCells.{members_of}
use Rattle.mol_spell_rules.specs.Writers.{Writer}

-- ---- what the cells of an entity hold

abbrev pub words_at : Program → Id → List Name
words_at program id = words_in (value_at program id slots.Words)

abbrev pub notes_in : Option Value → Notes
notes_in (Some (values.Notes notes)) = notes
notes_in value = record { front = []; head = []; tail = [] }

abbrev pub notes_at : Program → Id → Notes
notes_at program id = notes_in (value_at program id slots.Notes)

-- ---- parts of members

-- in the file of a class of a program
module _ (program : Program) (class : Id) where
  -- where a cell prints
  abbrev pub writing : Id → Slot → Writer
  writing id slot = unit_writer program class (cell id slot)

  abbrev pub type_tree : Writer → IType → TypeName
  type_tree writer type = (declared_type writer no_locals type).tree

  abbrev pub first_value_tree : Writer → Option IExpr → Option Expr
  first_value_tree writer init = option_map (λ e. (spelled_expr writer no_locals e).tree) init

  abbrev pub parent_tree : Option Value → Option TypeName
  parent_tree (Some (values.Super parent)) = option_map (type_tree (writing class slots.Super)) parent
  parent_tree value = None

  abbrev pub result_tree : Id → Option Value → TypeName
  result_tree method (Some (values.Result type)) = type_tree (writing method slots.Result) type
  result_tree method value = types.Void

  abbrev pub param_of : Id → Param → ParamName
  param_of method param = record { ty = type_tree (writing method slots.Params) param.ty; name = param.name }

  abbrev pub params_of : Id → List ParamName
  params_of method = map (param_of method) (params_at program method)

  abbrev pub body_in : Id → Option Value → Option Block
  body_in declaration (Some (values.Body body)) =
      option_map (λ (body : IBody). (spelled_body (writing declaration slots.Body) body).tree) body
  body_in declaration value = None

  abbrev pub body_tree : Id → Option Block
  body_tree declaration = body_in declaration (value_at program declaration slots.Body)

  -- ---- members

  abbrev pub field_member : Id → Option Value → Option Member
  field_member field (Some (values.Value type init)) = Some (member.Field (record {
    front = (notes_at program field).front;
    at = 0;
    words = words_at program field;
    ty = type_tree (writing field slots.Value) type;
    name = name_at program field;
    init = first_value_tree (writing field slots.Value) init;
  }))
  field_member field value = None

  abbrev pub constructor_member : Id → Id → Member
  constructor_member declaration method = member.Ctor (record {
    front = (notes_at program declaration).front;
    at = 0;
    words = words_at program declaration;
    params = params_of method;
    block = option_map_or (λ block. block) (body_tree declaration) (block_of [] []);
  })

  abbrev pub method_member : Bool → Id → Id → Member
  method_member is_static declaration method = member.Method (record {
    front = (notes_at program declaration).front;
    at = 0;
    words = words_at program declaration;
    is_static = is_static;
    result = result_tree method (value_at program method slots.Result);
    name = name_at program method;
    params = params_of method;
    block = body_tree declaration;
  })

  abbrev pub declaration_member : Id → Id → Option Known → Option Member
  declaration_member declaration method (Some (knowns.Method Instance)) = Some (method_member false declaration method)
  declaration_member declaration method (Some (knowns.Method Static)) = Some (method_member true declaration method)
  declaration_member declaration method (Some (knowns.Method Constructor)) = Some (constructor_member declaration method)
  declaration_member declaration method known = None

  abbrev pub spelled_member : Id × Known → Option Member
  spelled_member (id, knowns.Field) = field_member id (value_at program id slots.Value)
  spelled_member (id, knowns.Decl method) = declaration_member id method (get program.known method)
  spelled_member entry = None

  -- ---- the file

  abbrev pub class_tree : ClassDecl
  class_tree = record {
    front = (notes_at program class).front;
    words = words_at program class;
    name = name_at program class;
    parent = parent_tree (value_at program class slots.Super);
    members = filter_map spelled_member (members_of program class);
    tail = (notes_at program class).tail;
  }

  abbrev pub unit_tree : Source
  unit_tree = record {
    head = (notes_at program class).head;
    «package» = package_at program class;
    imports = imports_in program class;
    class = class_tree;
  }

-- ---- all files

-- the file of a class, with its path
pub record SpelledUnit : Type 0 where
  pub class : Id
  pub path : Name
  pub unit : Source

abbrev pub spelled_unit : Program → Id → SpelledUnit
spelled_unit program class = record { class = class; path = path_at program class; unit = unit_tree program class }

-- Files go by their paths, and those of one path by their classes.
pub record UnitKey : Type 0 where
  pub path : Name
  pub class : Id

abbrev pub unit_key_cmp : UnitKey → UnitKey → Ordering
unit_key_cmp = then_cmp (on (λ key. key.path) (slice_cmp nat_cmp)) (on (λ key. key.class) id_cmp)

abbrev pub key_at : Program → Id → UnitKey
key_at program class = record { path = path_at program class; class = class }

-- the classes that live
abbrev pub living_classes : Program → List Id
living_classes program = filter (is_living_class program) (keys program.known)

-- A program as source files: the file of each living class of the tidied program, in order.
abbrev pub units_of : Program → List SpelledUnit
units_of program =
    map (λ (key : UnitKey). spelled_unit program key.class) (as_set unit_key_cmp (map (key_at program) (living_classes program)))

abbrev pub spelling : Program → List SpelledUnit
spelling program = units_of (tidy program)
