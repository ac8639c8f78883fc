-- Expressions of a program as they are written (JLS 15): each name by what it is the name of, and members by the rules on names.
use Rattle.std.specs.Prelude.{ℕ, Bool, true, false, List, [], ◌∷◌, ◌++◌, map, length, Option, Some, None, if◌then◌else◌, slice_get, codes}
use Rattle.std.specs.List.{flat_map}
use Rattle.std.specs.Option.{option_map_or}
use Rattle.mol_base.specs.declared.ident.Id.{Id}
use Rattle.mol_spell_rules.specs.references.References.{Target, field_target, method_target, param_target, default_target, local_target, outside_target, index_target}
use Rattle.mol_table_rules.specs.Program.{same_id, name_at, owner_at}
use Rattle.mol_values_types.specs.declared.iexpr.IExpr.{IExpr, fold-IExpr}
use Rattle.mol_values_types.specs.declared.iexpr.IExpr.TheFolds.{map-IExpr}
use Rattle.mol_values_types.specs.declared.iexpr.IExpr.TheOpen.{IExpr-F, Argument-F}
use Rattle.mol_values_types.specs.declared.itype.IType.{IType}
use Rattle.mol_values_types.specs.declared.param.Param.{Param}
use Rattle.jav_tree.specs.Expressions.{expr_at}
use Rattle.jav_tree.specs.declared.expr.Expr.{Expr}
use Rattle.jav_tree.specs.declared.expr.ExprNode.{ExprNode}
use Rattle.jav_tree.specs.declared.expr.ExprNode.TheVariants as node
use Rattle.jav_tree.specs.declared.types.TypeName.TheVariants as types
use Rattle.jav_names.specs.DottedNames.{Name, Names, Dotted}
use Rattle.jav_names.specs.LookUps.{variable, method_from}
use Rattle.jav_names.specs.OnValues.{StaticType, class_value}
use Rattle.jav_names.specs.Variables.{Variable, local_variable, parameter_variable, field_variable}
use Rattle.jav_names.specs.Views.{ViewDeclaration, Found, found, outside, not_found}
use Rattle.mol_resolve_rules.specs.Locals.{Local, Locals}
use Rattle.mol_resolve_rules.specs.Readers.{Reader, place_of}
use Rattle.mol_resolve_rules.specs.ReadTrees.{Mode, followers, before}
use Rattle.mol_resolve_rules.specs.StaticTypes as static
use Rattle.mol_resolve_rules.specs.StaticTypes.{present_param, class_of_only_declaration}
use Rattle.mol_spell_rules.specs.SpelledTypes.{SpelledType, spelled_type}
use Rattle.mol_spell_rules.specs.Writers.{Importable, program_class, outside_import, Writer, is_hidden, spelled, text_of, Use, use_of, written_use, Asked, name_asked, name_before_asked, path_asked, static_field_asked, static_method_asked, field_asked, method_asked, call_asked, super_method_asked, constructor_asked, index_asked, Reference}

-- An expression as it is written, whether it is `this`, its static type, and the references in it: what its first name asks depends on
-- what stands after it.
pub record SpelledExpr : Type 0 where
  pub tree : Expr
  pub is_this : Bool
  pub static_type : StaticType Id
  pub references : Mode → List Reference

-- ---- trees

-- Places in a source do not matter to what is written, and are all the same.
abbrev pub made : ExprNode → Expr
made node = expr_at 0 node

abbrev pub name_tree : Name → Expr
name_tree name = made (node.Name name)

abbrev pub dot_tree : Expr → Name → Expr
dot_tree e name = made (node.Dot e name)

abbrev pub dots_tree : Expr → Names → Expr
dots_tree e [] = e
dots_tree e (name ∷ names) = dots_tree (dot_tree e name) names

-- names with dots between them
abbrev pub names_tree : Dotted → Expr
names_tree names = dots_tree (name_tree names.first) names.rest

abbrev pub trees : List SpelledExpr → List Expr
trees parts = map (λ part. part.tree) parts

-- ---- what is printed where there is no name

-- A local that is declared nowhere, a parameter that no list has, and a constructor that nothing declares, have no name.
abbrev pub no_name : Name
no_name = codes "$"

abbrev pub local_text : Locals Id → ℕ → Name
local_text locals number = option_map_or (λ (local : Local Id). local.name) (slice_get locals.declared number) no_name

-- ---- members

-- A member of `this` or a static one is written by its simple name, after `this`, or after the name of its class.
pub data MemberForm : Type 0 where
  by_name : MemberForm
  on_this : MemberForm
  on_class : Id → MemberForm

-- after the class, where there is one
abbrev pub on_owner : Option Id → MemberForm
on_owner None = by_name
on_owner (Some class) = on_class class

abbrev pub is_field : Id → Found (Variable Id Id) → Bool
is_field id (found (field_variable field)) = same_id id field.key
is_field id (found (local_variable place)) = false
is_field id (found (parameter_variable place)) = false
is_field id outside = false
is_field id not_found = false

abbrev pub is_declaration_of : Reader Id Id → Id → Found (ViewDeclaration Id Id) → Bool
is_declaration_of reader method (found declared) = same_id method (reader.ids.method_id declared)
is_declaration_of reader method outside = false
is_declaration_of reader method not_found = false

-- in this file and place, with these locals
module _ (writer : Writer) (locals : Locals Id) where
  -- In an expression a variable goes before a class of its name (JLS 6.4.2, 6.5.2).
  abbrev pub hides : Name → Bool
  hides = is_hidden writer.reader locals

  abbrev pub importable_names : Importable → Dotted
  importable_names what = spelled writer hides what

  abbrev pub name_of : Id → Name
  name_of id = name_at writer.program id

  abbrev pub type_here : IType → SpelledType
  type_here type = spelled_type writer hides locals type

  -- ---- which form a member has

  -- the simple name of a field reads as it
  abbrev pub reads_field : Id → Bool
  reads_field field = is_field field (variable writer.reader.view (place_of writer.reader locals) (name_of field))

  -- so does that of a method with so many arguments
  abbrev pub reads_method : Id → ℕ → Bool
  reads_method method arity =
      is_declaration_of writer.reader method (method_from writer.reader.view writer.reader.class (name_of method) arity)

  abbrev pub own_form : Id → MemberForm
  own_form field = if reads_field field then by_name else on_this

  abbrev pub static_form : Id → MemberForm
  static_form field = if reads_field field then by_name else on_owner (owner_at writer.program field)

  abbrev pub call_form : Id → ℕ → MemberForm
  call_form method arity = if reads_method method arity then by_name else on_this

  -- A static method has one declaration, as a constructor has.
  abbrev pub static_call_form : Id → ℕ → MemberForm
  static_call_form method arity =
      if reads_method method arity then by_name else on_owner (class_of_only_declaration writer.program method)

  -- ---- trees

  abbrev pub class_names : Id → Dotted
  class_names class = importable_names (program_class class)

  abbrev pub class_text : Id → Name
  class_text class = text_of (class_names class)

  -- what stands after `new`
  abbrev pub constructor_text : Id → Name
  constructor_text constructor = option_map_or class_text (class_of_only_declaration writer.program constructor) no_name

  abbrev pub param_name : Id → Name
  param_name id = option_map_or (λ (param : Param). param.name) (present_param writer.program id) no_name

  abbrev pub field_tree : MemberForm → Id → Expr
  field_tree by_name field = name_tree (name_of field)
  field_tree on_this field = dot_tree (made node.This) (name_of field)
  field_tree (on_class class) field = dot_tree (names_tree (class_names class)) (name_of field)

  abbrev pub call_tree : MemberForm → Id → List SpelledExpr → Expr
  call_tree by_name method args = made (node.Call None (name_of method) (trees args))
  call_tree on_this method args = made (node.Call (Some (made node.This)) (name_of method) (trees args))
  call_tree (on_class class) method args = made (node.Call (Some (names_tree (class_names class))) (name_of method) (trees args))

  abbrev pub created_tree : Name → List SpelledExpr → Expr
  created_tree text args = made (node.New (types.Named text) (trees args))

  abbrev pub tree_step : IExpr-F SpelledExpr SpelledExpr → Expr
  tree_step (IExpr-F.Lit text) = made (node.Lit text)
  tree_step IExpr-F.This = made node.This
  tree_step (IExpr-F.Local number) = name_tree (local_text locals number)
  tree_step (IExpr-F.Param id) = name_tree (param_name id)
  tree_step (IExpr-F.Own field) = field_tree (own_form field) field
  tree_step (IExpr-F.StaticField field) = field_tree (static_form field) field
  tree_step (IExpr-F.Field field e) = if e.is_this then field_tree (own_form field) field else dot_tree e.tree (name_of field)
  tree_step (IExpr-F.Call method args) = call_tree (call_form method (length args)) method args
  tree_step (IExpr-F.StaticCall method args) = call_tree (static_call_form method (length args)) method args
  tree_step (IExpr-F.CallOn method e args) =
      if e.is_this then call_tree (call_form method (length args)) method args
      else made (node.Call (Some e.tree) (name_of method) (trees args))
  tree_step (IExpr-F.SuperCall method args) = made (node.SuperCall (name_of method) (trees args))
  tree_step (IExpr-F.New constructor args) = created_tree (constructor_text constructor) args
  tree_step (IExpr-F.NewDefault class) = created_tree (class_text class) []
  tree_step (IExpr-F.Cond test a b) = made (node.Cond test.tree a.tree b.tree)
  tree_step (IExpr-F.OutsideName name) = name_tree name
  tree_step (IExpr-F.OutsideClass full) = names_tree (importable_names (outside_import full))
  tree_step (IExpr-F.OutsideField name e) = dot_tree e.tree name
  tree_step (IExpr-F.OutsideCall name args) = made (node.Call None name (trees args))
  tree_step (IExpr-F.OutsideCallOn name e args) = made (node.Call (Some e.tree) name (trees args))
  tree_step (IExpr-F.OutsideSuperCall name args) = made (node.SuperCall name (trees args))
  tree_step (IExpr-F.NewOutside type args) = made (node.New (type_here type).tree (trees args))
  tree_step (IExpr-F.NewArray type sizes pairs) = made (node.NewArray (type_here type).tree (trees sizes) pairs)
  tree_step (IExpr-F.ArrayLit type items) = made (node.ArrayLit (type_here type).tree (trees items))
  tree_step (IExpr-F.Braces items) = made (node.Braces (trees items))
  tree_step (IExpr-F.Index e index) = made (node.Index e.tree index.tree)
  tree_step (IExpr-F.Unary op e) = made (node.Unary op e.tree)
  tree_step (IExpr-F.Post op e) = made (node.Post e.tree op)
  tree_step (IExpr-F.Binary op a b) = made (node.Binary a.tree op b.tree)
  tree_step (IExpr-F.Assign op a b) = made (node.Assign a.tree op b.tree)
  tree_step (IExpr-F.Cast type e) = made (node.Cast (type_here type).tree e.tree)
  tree_step (IExpr-F.InstanceOf e type) = made (node.InstanceOf e.tree (type_here type).tree)

  -- ---- references

  abbrev pub reference : Target → Asked → Option Use → Reference
  reference target asked uses = record { target = target; asked = asked; uses = uses; locals = locals }

  -- what uses nothing but members and variables
  abbrev pub plain : Target → Asked → Reference
  plain target asked = reference target asked None

  -- what names a class or an imported type
  abbrev pub using : Importable → Target → Asked → Reference
  using what target asked = reference target asked (Some (use_of writer hides what))

  abbrev pub alone : SpelledExpr → List Reference
  alone part = part.references None

  abbrev pub each_alone : List SpelledExpr → List Reference
  each_alone parts = flat_map alone parts

  -- a name that stands alone or before a dot
  abbrev pub asks_name : Name → Mode → Asked
  asks_name name None = name_asked name
  asks_name name (Some follow) = name_before_asked name follow

  -- A type outside asks as a name does, where one name spells it and nothing follows.
  abbrev pub asks_alone : Name → Names → Asked
  asks_alone name [] = name_asked name
  asks_alone name (next ∷ rest) = path_asked (record { first = name; rest = next ∷ rest }) []

  abbrev pub asks_outside : Dotted → Mode → Asked
  asks_outside names None = asks_alone names.first names.rest
  asks_outside names (Some follow) = path_asked names follow

  abbrev pub field_reference : MemberForm → Id → Mode → Reference
  field_reference by_name field mode = plain (field_target field) (asks_name (name_of field) mode)
  field_reference on_this field mode = plain (field_target field) (field_asked (class_value writer.reader.class) (name_of field))
  field_reference (on_class class) field mode = using (program_class class) (field_target field)
      (static_field_asked (class_names class) (name_of field) (followers mode))

  abbrev pub call_reference : MemberForm → Id → ℕ → Reference
  call_reference by_name method arity = plain (method_target method) (call_asked (name_of method) arity)
  call_reference on_this method arity =
      plain (method_target method) (method_asked (class_value writer.reader.class) (name_of method) arity)
  call_reference (on_class class) method arity = using (program_class class) (method_target method)
      (static_method_asked (class_names class) (name_of method) arity)

  abbrev pub constructor_reference : Option Id → Id → ℕ → Reference
  constructor_reference None constructor arity = plain (method_target constructor) (constructor_asked no_name arity)
  constructor_reference (Some class) constructor arity =
      using (program_class class) (method_target constructor) (constructor_asked (class_text class) arity)

  -- a member of a value, after what is in the value
  abbrev pub after : List Reference → Target → Asked → List Reference
  after parts target asked = parts ++ plain target asked ∷ []

  abbrev pub references_step : IExpr-F SpelledExpr SpelledExpr → Mode → List Reference
  references_step (IExpr-F.Lit text) mode = []
  references_step IExpr-F.This mode = []
  references_step (IExpr-F.Local number) mode = plain (local_target number) (asks_name (local_text locals number) mode) ∷ []
  references_step (IExpr-F.Param id) mode = plain (param_target id) (asks_name (param_name id) mode) ∷ []
  references_step (IExpr-F.Own field) mode = field_reference (own_form field) field mode ∷ []
  references_step (IExpr-F.StaticField field) mode = field_reference (static_form field) field mode ∷ []
  references_step (IExpr-F.Field field e) mode =
      if e.is_this then field_reference (own_form field) field mode ∷ []
      else after (e.references (before (name_of field) mode)) (field_target field) (field_asked e.static_type (name_of field))
  references_step (IExpr-F.Call method args) mode =
      call_reference (call_form method (length args)) method (length args) ∷ each_alone args
  references_step (IExpr-F.StaticCall method args) mode =
      call_reference (static_call_form method (length args)) method (length args) ∷ each_alone args
  references_step (IExpr-F.CallOn method e args) mode =
      (if e.is_this then call_reference (call_form method (length args)) method (length args) ∷ []
      else after (e.references (Some [])) (method_target method) (method_asked e.static_type (name_of method) (length args)))
      ++ each_alone args
  references_step (IExpr-F.SuperCall method args) mode =
      plain (method_target method) (super_method_asked (name_of method) (length args)) ∷ each_alone args
  references_step (IExpr-F.New constructor args) mode =
      constructor_reference (class_of_only_declaration writer.program constructor) constructor (length args) ∷ each_alone args
  references_step (IExpr-F.NewDefault class) mode =
      using (program_class class) (default_target class) (constructor_asked (class_text class) 0) ∷ []
  references_step (IExpr-F.Cond test a b) mode = alone test ++ alone a ++ alone b
  references_step (IExpr-F.OutsideName name) mode =
      reference (outside_target name) (asks_name name mode) (Some (written_use name)) ∷ []
  references_step (IExpr-F.OutsideClass full) mode =
      using (outside_import full) (outside_target full) (asks_outside (importable_names (outside_import full)) mode) ∷ []
  references_step (IExpr-F.OutsideField name e) mode =
      after (e.references (before name mode)) (outside_target name) (field_asked e.static_type name)
  references_step (IExpr-F.OutsideCall name args) mode = plain (outside_target name) (call_asked name (length args)) ∷ each_alone args
  references_step (IExpr-F.OutsideCallOn name e args) mode =
      after (e.references (Some [])) (outside_target name) (method_asked e.static_type name (length args)) ++ each_alone args
  references_step (IExpr-F.OutsideSuperCall name args) mode =
      plain (outside_target name) (super_method_asked name (length args)) ∷ each_alone args
  references_step (IExpr-F.NewOutside type args) mode = (type_here type).references ++ each_alone args
  references_step (IExpr-F.NewArray type sizes pairs) mode = (type_here type).references ++ each_alone sizes
  references_step (IExpr-F.ArrayLit type items) mode = (type_here type).references ++ each_alone items
  references_step (IExpr-F.Braces items) mode = each_alone items
  references_step (IExpr-F.Index e index) mode = alone e ++ plain index_target (index_asked e.static_type) ∷ alone index
  references_step (IExpr-F.Unary op e) mode = alone e
  references_step (IExpr-F.Post op e) mode = alone e
  references_step (IExpr-F.Binary op a b) mode = alone a ++ alone b
  references_step (IExpr-F.Assign op a b) mode = alone a ++ alone b
  references_step (IExpr-F.Cast type e) mode = (type_here type).references ++ alone e
  references_step (IExpr-F.InstanceOf e type) mode = alone e ++ (type_here type).references

  -- ---- all of it

  abbrev pub is_this_step : IExpr-F SpelledExpr SpelledExpr → Bool
  is_this_step IExpr-F.This = true
  is_this_step node = false

  abbrev pub static_step : IExpr-F SpelledExpr SpelledExpr → StaticType Id
  static_step node = static.expr_step writer.program writer.reader.class (map (λ (local : Local Id). local.type) locals.declared)
      (map-IExpr _ _ _ _ (λ (part : SpelledExpr). part.static_type) (λ (part : SpelledExpr). part.static_type) node)

  abbrev pub expr_step : IExpr-F SpelledExpr SpelledExpr → SpelledExpr
  expr_step node = record {
    tree = tree_step node;
    is_this = is_this_step node;
    static_type = static_step node;
    references = references_step node;
  }

  -- Of an argument the value is written, and not the parameter that it is for.
  abbrev pub argument_step : Argument-F SpelledExpr SpelledExpr → SpelledExpr
  argument_step argument = argument.value

  abbrev pub spelled_expr : IExpr → SpelledExpr
  spelled_expr = fold-IExpr SpelledExpr SpelledExpr expr_step argument_step
