-- What is written of an expression, read again by the view of the program itself.
use Rattle.std.specs.Prelude.{◌≡◌, ℕ, Bool, true, false, IsTrue, ◌&&◌, List, [], ◌∷◌, map, Some, Contains, slice_get}
use Rattle.std.specs.List.{AllByRecursion, list_all}
use Rattle.mol_base.specs.declared.ident.Id.{Id}
use Rattle.mol_table_rules.specs.Program.{Program, same_id, params_at}
use Rattle.mol_table_rules.specs.Rules.{IsProgram}
use Rattle.mol_values_types.specs.TokenForms.{is_empty}
use Rattle.mol_values_types.specs.declared.cell.Cell.{Cell}
use Rattle.mol_values_types.specs.declared.iexpr.IExpr.{IExpr, fold-IExpr}
use Rattle.mol_values_types.specs.declared.iexpr.IExpr.TheOpen.{IExpr-F, Argument-F}
use Rattle.mol_values_types.specs.declared.itype.IType.{IType, fold-IType}
use Rattle.mol_values_types.specs.declared.itype.IType.TheOpen.{IType-F}
use Rattle.mol_values_types.specs.declared.param.Param.{Param}
use Rattle.jav_names.specs.DottedNames.{cut}
use Rattle.jav_names.specs.StaticTypes.{of_type}
use Rattle.jav_names.specs.Views.{ViewField, ViewDeclaration}
use Rattle.mol_resolve_rules.specs.Locals.{Locals}
use Rattle.mol_resolve_rules.specs.Outcomes.{fine}
use Rattle.mol_resolve_rules.specs.ProgramViews.{program_view}
use Rattle.mol_resolve_rules.specs.Readers.{Parameter}
use Rattle.mol_resolve_rules.specs.ReadTrees.{Mode, reading}
use Rattle.mol_resolve_rules.specs.Says.{Says, no_more}
use Rattle.mol_resolve_rules.specs.StaticTypes.{field_value, result_value, param_value}
use Rattle.mol_spell_rules.specs.Answers.{answered}
use Rattle.mol_spell_rules.specs.SimpleNames.{unit_writer}
use Rattle.mol_spell_rules.specs.SpelledExpressions.{importable_names, spelled_expr}
use Rattle.mol_spell_rules.specs.Writers.{Writer, outside_import, text_of, Reference}

-- The names are read by the view of the program, and what that has of members and parameters is what their cells hold.
pub record SeesProgram (writer : Writer) : Type 0 where
  pub view : writer.reader.view ≡ program_view writer.program
  pub class_ids : (class : Id) → writer.reader.ids.class_id class ≡ class
  pub fields : (field : ViewField Id Id) → Contains writer.reader.view.fields field
      → of_type field.type ≡ field_value writer.program (writer.reader.ids.member_id field.key)
  pub results : (declared : ViewDeclaration Id Id) → Contains writer.reader.view.declarations declared
      → of_type declared.result ≡ result_value writer.program (writer.reader.ids.method_id declared)
  pub param_ids : (declared : ViewDeclaration Id Id) → Contains writer.reader.view.declarations declared
      → writer.reader.ids.param_ids declared
      ≡ map (λ (param : Param). param.id) (params_at writer.program (writer.reader.ids.method_id declared))
  pub params : (place : ℕ) (param : Parameter Id) → slice_get writer.reader.params place ≡ Some param
      → of_type param.type ≡ param_value writer.program param.id

-- ---- the expressions of the law

abbrev pub same_ids : List Id → List Id → Bool
same_ids [] [] = true
same_ids (first ∷ rest) (second ∷ more) = same_id first second && same_ids rest more
same_ids first second = false

-- an argument, with its parameter
pub record KeptArgument : Type 0 where
  pub param : Id
  pub kept : Bool

abbrev pub all_kept : List Bool → Bool
all_kept parts = list_all (λ part. part) parts

module _ (writer : Writer) (locals : Locals Id) where
  -- A type outside is written by one name, and so is what it is an array of.
  abbrev pub kept_type_step : IType-F Bool → Bool
  kept_type_step (IType-F.Imported import rest) =
      is_empty rest && no_more (cut (text_of (importable_names writer locals (outside_import import)))).rest
  kept_type_step (IType-F.Written text) = no_more (cut text).rest
  kept_type_step (IType-F.Array item) = item
  kept_type_step type = true

  abbrev pub is_kept_type : IType → Bool
  is_kept_type = fold-IType Bool kept_type_step

  -- each argument is for a present parameter of the method, in order
  abbrev pub are_kept : Id → List KeptArgument → Bool
  are_kept method args =
      same_ids (map (λ (argument : KeptArgument). argument.param) args)
      (map (λ (param : Param). param.id) (params_at writer.program method))
      && list_all (λ (argument : KeptArgument). argument.kept) args

  -- The arguments of a call are tidied; a name outside has one part, and an outside class is written by one name; so is each type outside.
  -- Creations are left out.
  abbrev pub kept_step : IExpr-F Bool KeptArgument → Bool
  kept_step (IExpr-F.Lit text) = true
  kept_step IExpr-F.This = true
  kept_step (IExpr-F.Local number) = true
  kept_step (IExpr-F.Param id) = true
  kept_step (IExpr-F.Own field) = true
  kept_step (IExpr-F.StaticField field) = true
  kept_step (IExpr-F.Field field e) = e
  kept_step (IExpr-F.Call method args) = are_kept method args
  kept_step (IExpr-F.StaticCall method args) = are_kept method args
  kept_step (IExpr-F.CallOn method e args) = e && are_kept method args
  kept_step (IExpr-F.SuperCall method args) = are_kept method args
  kept_step (IExpr-F.New constructor args) = false
  kept_step (IExpr-F.NewDefault class) = false
  kept_step (IExpr-F.Cond test a b) = test && (a && b)
  kept_step (IExpr-F.OutsideName name) = no_more (cut name).rest
  kept_step (IExpr-F.OutsideClass full) = no_more (importable_names writer locals (outside_import full)).rest
  kept_step (IExpr-F.OutsideField name e) = e
  kept_step (IExpr-F.OutsideCall name args) = all_kept args
  kept_step (IExpr-F.OutsideCallOn name e args) = e && all_kept args
  kept_step (IExpr-F.OutsideSuperCall name args) = all_kept args
  kept_step (IExpr-F.NewOutside type args) = false
  kept_step (IExpr-F.NewArray type sizes pairs) = is_kept_type type && all_kept sizes
  kept_step (IExpr-F.ArrayLit type items) = is_kept_type type && all_kept items
  kept_step (IExpr-F.Braces items) = all_kept items
  kept_step (IExpr-F.Index e index) = e && index
  kept_step (IExpr-F.Unary op e) = e
  kept_step (IExpr-F.Post op e) = e
  kept_step (IExpr-F.Binary op a b) = a && b
  kept_step (IExpr-F.Assign op a b) = a && b
  kept_step (IExpr-F.Cast type e) = is_kept_type type && e
  kept_step (IExpr-F.InstanceOf e type) = e && is_kept_type type

  abbrev pub kept_argument_step : Argument-F Bool KeptArgument → KeptArgument
  kept_argument_step argument = record { param = argument.param; kept = argument.value }

  abbrev pub is_kept : IExpr → Bool
  is_kept = fold-IExpr Bool KeptArgument kept_step kept_argument_step

-- each name reads as its target
abbrev pub AreAnswered : Writer → List Reference → Type 0
AreAnswered writer = AllByRecursion (λ (reference : Reference). answered writer.reader reference ≡ Some reference.target)

-- An expression whose names read as their targets, however it stands, reads as a value that says it, without a fault, and of the static
-- type that it has in the program.
pub record IsReadBack (writer : Writer) (locals : Locals Id) (e : IExpr) (mode : Mode) : Type 0 where
  pub said : IExpr
  pub reads : (reading writer.reader (spelled_expr writer locals e).tree).means locals mode ≡ fine (record {
    tree = said;
    is_this = (spelled_expr writer locals e).is_this;
    static_type = (spelled_expr writer locals e).static_type;
  })
  pub says : Says said e

pub record ReadsBack : Type 0 where
  -- in the file of a class, wherever a cell prints
  pub in_files : (program : Program) → IsProgram program → (class : Id) (at : Cell) → SeesProgram (unit_writer program class at)
  pub expressions : (writer : Writer) → SeesProgram writer → (locals : Locals Id) (e : IExpr) (mode : Mode)
      → IsTrue (is_kept writer locals e) → AreAnswered writer ((spelled_expr writer locals e).references mode)
      → IsReadBack writer locals e mode
