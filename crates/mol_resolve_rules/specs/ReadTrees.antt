-- Expressions read as expressions of a program (JLS 6.5, 15): each name by the rules, members of a value by its static type.
use Rattle.std.specs.Prelude.{ℕ, suc, zero, ◌+◌, ◌==◌, Bool, true, false, List, [], ◌∷◌, ◌++◌, map, length, Option, Some, None, option_map, if◌then◌else◌, nat_lt, slice_get, codes}
use Rattle.std.specs.List.{zip}
use Rattle.std.specs.Option.{option_map_or}
use Rattle.std.specs.Str.{bytes_eq}
use Rattle.mol_base.specs.Operators.{is_step}
use Rattle.mol_base.specs.declared.ident.Id.{Id}
use Rattle.jav_tree.specs.declared.expr.Expr.{Expr, fold-Expr}
use Rattle.jav_tree.specs.declared.expr.ExprNode.TheOpen.{ExprNode-F, Expr-F}
use Rattle.jav_names.specs.DottedNames.{Name, Names, Dotted}
use Rattle.jav_names.specs.Leftmost.{Leftmost, leftmost_variable, leftmost_class, leftmost_import, leftmost_outside}
use Rattle.jav_names.specs.LookUps.{variable, leftmost, method_from, super_method, constructor_from, field_on, method_on, index_on, field_through, method_through}
use Rattle.jav_names.specs.Members.{Constructor, declared_constructor, default_constructor}
use Rattle.jav_names.specs.OnValues.{StaticType, primitive_value, mixed_value, outside_value, class_value, OnValue, member, static_member, outside_member, missing_member, has_no_members, unread_member, OnIndex, indexed, not_indexed, unread_index, is_static_kind}
use Rattle.jav_names.specs.StaticTypes.{of_type, of_literal, common, item, outside_field, outside_call}
use Rattle.jav_names.specs.Variables.{Variable, local_variable, parameter_variable, field_variable}
use Rattle.jav_names.specs.Views.{ViewType, class_type, array_type, ViewField, ViewDeclaration, Found, found, outside, not_found}
use Rattle.mol_resolve_rules.specs.FaultKinds.{unknown_name, unknown_member, static_by_instance, receiver_type}
use Rattle.mol_resolve_rules.specs.Locals.{Locals}
use Rattle.mol_resolve_rules.specs.Outcomes.{Outcome, fine, silent, refused, mapped, over, given, beside, both, all}
use Rattle.mol_resolve_rules.specs.Readers.{Parameter, Reader, place_of}
use Rattle.mol_resolve_rules.specs.ReadTypes.{ReadType, read_type}
use Rattle.mol_values_types.specs.declared.iexpr.Argument.{Argument}
use Rattle.mol_values_types.specs.declared.iexpr.IExpr.{IExpr}
use Rattle.mol_values_types.specs.declared.iexpr.IExpr.TheVariants as exprs

-- ---- what is read

-- an expression as it is read, whether it is `this`, and its static type
pub record Meant (C : Type 0) : Type 0 where
  pub tree : IExpr
  pub is_this : Bool
  pub static_type : StaticType C

-- How a name stands: alone, or before a dot, and then with the names that follow it after further dots, up to the next call.
abbrev pub Mode : Type 0
Mode = Option Names

abbrev pub followers : Mode → Names
followers None = []
followers (Some names) = names

-- before a dot and this name
abbrev pub before : Name → Mode → Mode
before name mode = Some (name ∷ followers mode)

-- The names that an expression is, if it is nothing but names with dots between them; and what it means, by the locals in scope and by
-- how it stands.
pub record Reading (C : Type 0) : Type 0 where
  pub names : Option Dotted
  pub means : Locals C → Mode → Outcome (Meant C)

-- one more name after a dot
abbrev pub longer : Name → Option Dotted → Option Dotted
longer name names = option_map (λ (dotted : Dotted). record { first = dotted.first; rest = dotted.rest ++ name ∷ [] }) names

-- ---- names that spell a class (JLS 6.5.2)

-- Names before a dot spell a class as a whole; or they are the front of more names that do; or neither.
pub data ClassPath (C : Type 0) : Type 0 where
  whole_path : C → ClassPath C
  front_path : ClassPath C
  no_path : ClassPath C

-- so many names, where the leftmost of them and of those that follow reads so
abbrev pub path_by : {C M : Type 0} → ℕ → Leftmost C M → ClassPath C
path_by count (leftmost_class class spelling) =
    if spelling == count then whole_path class else if nat_lt count spelling then front_path else no_path
path_by count (leftmost_variable variable) = no_path
path_by count (leftmost_import import) = no_path
path_by count leftmost_outside = no_path

-- ---- parts of trees

-- each value with its parameter
abbrev pub with_params : List Id → List IExpr → List Argument
with_params ids values = map (λ (pair : Id × IExpr). record { param = pair.0; value = pair.1 }) (zip ids values)

-- an array of arrays, so many times
abbrev pub arrays : {C : Type 0} → ℕ → ViewType C → ViewType C
arrays zero type = type
arrays (suc count) type = array_type (arrays count type)

-- `++` and `--` have the type of what they step (JLS 15.14, 15.15), the other prefix operators a primitive one
abbrev pub unary_type : {C : Type 0} → Name → StaticType C → StaticType C
unary_type op type = if is_step op then type else primitive_value

-- `+` may join strings (JLS 15.18.1), which are outside; the other operators between two values give a primitive one
abbrev pub binary_type : {C : Type 0} → Name → StaticType C
binary_type op = if bytes_eq op (codes "+") then outside_value else primitive_value

module _ {C M : Type 0} (reader : Reader C M) where
  abbrev pub meant : IExpr → StaticType C → Meant C
  meant tree type = record { tree = tree; is_this = false; static_type = type }

  abbrev pub valued : IExpr → StaticType C → Outcome (Meant C)
  valued tree type = fine (meant tree type)

  -- what stands by itself, as an argument does
  abbrev pub alone : Locals C → Reading C → Outcome (Meant C)
  alone locals part = part.means locals None

  abbrev pub values_of : Locals C → List (Reading C) → Outcome (List IExpr)
  values_of locals parts = all (map (λ part. mapped (λ (value : Meant C). value.tree) (alone locals part)) parts)

  -- ---- names (JLS 6.4.1, 6.5.6)

  abbrev pub local_meant : Locals C → Option ℕ → Outcome (Meant C)
  local_meant locals None = silent
  local_meant locals (Some number) =
      valued (exprs.Local number) (option_map_or (λ local. of_type local.type) (slice_get locals.declared number) mixed_value)

  abbrev pub param_meant : Option (Parameter C) → Outcome (Meant C)
  param_meant None = silent
  param_meant (Some param) = valued (exprs.Param param.id) (of_type param.type)

  -- a field of `this`, or a static one
  abbrev pub field_word : Bool → Id → IExpr
  field_word is_static field = if is_static then exprs.StaticField field else exprs.Own field

  abbrev pub variable_meant : Locals C → Variable C M → Outcome (Meant C)
  variable_meant locals (local_variable place) = local_meant locals (slice_get locals.in_scope place)
  variable_meant locals (parameter_variable place) = param_meant (slice_get reader.params place)
  variable_meant locals (field_variable field) = valued (field_word field.is_static (reader.ids.member_id field.key)) (of_type field.type)

  -- a name that stands alone is a variable, or a field that may come from an outside superclass
  abbrev pub name_alone : ℕ → Name → Locals C → Found (Variable C M) → Outcome (Meant C)
  name_alone at name locals (found variable) = variable_meant locals variable
  name_alone at name locals outside = valued (exprs.OutsideName name) outside_value
  name_alone at name locals not_found = refused unknown_name at

  -- A name before a dot. Where it begins the name of a class it is no value, and what follows it says what it is.
  abbrev pub name_before : Name → Locals C → Leftmost C M → Outcome (Meant C)
  name_before name locals (leftmost_variable variable) = variable_meant locals variable
  name_before name locals (leftmost_class class spelling) = silent
  name_before name locals (leftmost_import import) = valued (exprs.OutsideClass import) outside_value
  name_before name locals leftmost_outside = valued (exprs.OutsideName name) outside_value

  abbrev pub name_meant : ℕ → Name → Locals C → Mode → Outcome (Meant C)
  name_meant at name locals None = name_alone at name locals (variable reader.view (place_of reader locals) name)
  name_meant at name locals (Some follow) = name_before name locals (leftmost reader.view (place_of reader locals) name follow)

  -- whether an expression, with the names after it, spells a class
  abbrev pub path_of : Locals C → Option Dotted → Names → ClassPath C
  path_of locals None follow = no_path
  path_of locals (Some names) follow =
      path_by (suc (length names.rest)) (leftmost reader.view (place_of reader locals) names.first (names.rest ++ follow))

  -- ---- fields (JLS 6.5.6.2, 15.11)

  -- through the name of a class
  abbrev pub static_field_meant : ℕ → Option (ViewField C M) → Outcome (Meant C)
  static_field_meant at None = refused unknown_member at
  static_field_meant at (Some field) = valued (exprs.StaticField (reader.ids.member_id field.key)) (of_type field.type)

  -- Names up to a class, or only a part of its full name, are no value. Where a value is wanted that is a fault; else what follows decides.
  abbrev pub front_meant : ℕ → Mode → Outcome (Meant C)
  front_meant at None = refused unknown_member at
  front_meant at (Some follow) = silent

  -- of a value; a field of `this` is an own one
  abbrev pub field_on_word : Meant C → Id → IExpr
  field_on_word value field = if value.is_this then exprs.Own field else exprs.Field field value.tree

  abbrev pub field_meant : ℕ → Name → Meant C → OnValue (ViewField C M) → Outcome (Meant C)
  field_meant at name value (member field) = valued (field_on_word value (reader.ids.member_id field.key)) (of_type field.type)
  field_meant at name value (static_member field) = refused static_by_instance at
  field_meant at name value outside_member = valued (exprs.OutsideField name value.tree) (outside_field value.static_type name)
  field_meant at name value missing_member = refused unknown_member at
  field_meant at name value has_no_members = refused receiver_type at
  field_meant at name value unread_member = silent

  abbrev pub dot_meant : ℕ → Name → Mode → Outcome (Meant C) → ClassPath C → Outcome (Meant C)
  dot_meant at name mode value (whole_path class) = static_field_meant at (field_through reader.view class name)
  dot_meant at name mode value front_path = front_meant at mode
  dot_meant at name mode value no_path = over value (λ value. field_meant at name value (field_on reader.view name value.static_type))

  -- ---- calls (JLS 15.12)

  abbrev pub arguments_of : ViewDeclaration C M → List IExpr → List Argument
  arguments_of declared args = with_params (reader.ids.param_ids declared) args

  abbrev pub static_call : ViewDeclaration C M → List IExpr → Outcome (Meant C)
  static_call declared args =
      valued (exprs.StaticCall (reader.ids.method_id declared) (arguments_of declared args)) (of_type declared.result)

  -- a method of `this`
  abbrev pub own_call : ViewDeclaration C M → List IExpr → Outcome (Meant C)
  own_call declared args = valued (exprs.Call (reader.ids.method_id declared) (arguments_of declared args)) (of_type declared.result)

  -- Which method is called is decided by its name and the number of arguments, so that a fault of the call is told whether or not the
  -- arguments mean something.

  -- a call without anything before it is of the own class
  abbrev pub call_here : ℕ → Name → Option (List IExpr) → Found (ViewDeclaration C M) → Outcome (Meant C)
  call_here at name args (found declared) =
      given args (λ args. if is_static_kind declared.kind then static_call declared args else own_call declared args)
  call_here at name args outside = given args (λ args. valued (exprs.OutsideCall name args) outside_value)
  call_here at name args not_found = refused unknown_member at

  -- through the name of a class
  abbrev pub call_through : ℕ → Option (List IExpr) → Option (ViewDeclaration C M) → Outcome (Meant C)
  call_through at args None = refused unknown_member at
  call_through at args (Some declared) = given args (static_call declared)

  -- of a value
  abbrev pub call_on : ℕ → Name → Meant C → Option (List IExpr) → OnValue (ViewDeclaration C M) → Outcome (Meant C)
  call_on at name value args (member declared) = given args (λ args.
      if value.is_this then own_call declared args
      else valued (exprs.CallOn (reader.ids.method_id declared) value.tree (arguments_of declared args)) (of_type declared.result))
  call_on at name value args (static_member declared) = refused static_by_instance at
  call_on at name value args outside_member = given args (λ args.
      valued (exprs.OutsideCallOn name value.tree args) (outside_call value.static_type name (length args)))
  call_on at name value args missing_member = refused unknown_member at
  call_on at name value args has_no_members = refused receiver_type at
  call_on at name value args unread_member = silent

  abbrev pub call_meant : ℕ → Name → ℕ → Outcome (Meant C) → Outcome (List IExpr) → ClassPath C → Outcome (Meant C)
  call_meant at name arity value args (whole_path class) =
      beside args (λ args. call_through at args (method_through reader.view class name arity))
  call_meant at name arity value args front_path = silent
  call_meant at name arity value args no_path =
      beside args (λ args. over value (λ value. call_on at name value args (method_on reader.view name arity value.static_type)))

  -- after `super.`: only instance methods
  abbrev pub super_call : ℕ → Name → Option (List IExpr) → Found (ViewDeclaration C M) → Outcome (Meant C)
  super_call at name args (found declared) =
      if is_static_kind declared.kind then refused static_by_instance at
      else given args (λ args.
      valued (exprs.SuperCall (reader.ids.method_id declared) (arguments_of declared args)) (of_type declared.result))
  super_call at name args outside = given args (λ args. valued (exprs.OutsideSuperCall name args) outside_value)
  super_call at name args not_found = refused unknown_member at

  -- ---- creations (JLS 15.9)

  -- the class's constructor with so many parameters
  abbrev pub class_created : ℕ → C → Option (List IExpr) → Found (Constructor C M) → Outcome (Meant C)
  class_created at class args (found (declared_constructor declared)) =
      given args (λ args. valued (exprs.New (reader.ids.method_id declared) (arguments_of declared args)) (class_value class))
  class_created at class args (found (default_constructor created)) =
      valued (exprs.NewDefault (reader.ids.class_id created)) (class_value class)
  class_created at class args outside = silent
  class_created at class args not_found = refused unknown_member at

  abbrev pub created : ℕ → ℕ → ReadType C → Option (List IExpr) → ViewType C → Outcome (Meant C)
  created at arity type args (class_type class) = class_created at class args (constructor_from reader.view class arity)
  created at arity type args seen = given args (λ args. valued (exprs.NewOutside type.tree args) outside_value)

  -- ---- indexes (JLS 15.10.3)

  abbrev pub index_meant : ℕ → Meant C → Option (Meant C) → OnIndex → Outcome (Meant C)
  index_meant at array index indexed =
      given index (λ index. valued (exprs.Index array.tree index.tree) (item array.static_type))
  index_meant at array index not_indexed = refused receiver_type at
  index_meant at array index unread_index = silent

  -- ---- choices (JLS 15.25)

  abbrev pub choice : Meant C → Meant C → Meant C → Meant C
  choice test first second =
      meant (exprs.Cond test.tree first.tree second.tree) (common reader.view first.static_type second.static_type)

  -- ---- all expressions

  -- A name in parentheses stands alone (JLS 15.8.5). A member of a value is asked for only where the value means something, so that
  -- nothing is told of it over a fault of the value.
  abbrev pub node_meant : ExprNode-F (ℕ → Reading C) (Reading C) → ℕ → Locals C → Mode → Outcome (Meant C)
  node_meant (ExprNode-F.Lit text) at locals mode = valued (exprs.Lit text) (of_literal text)
  node_meant ExprNode-F.This at locals mode = fine (record { tree = exprs.This; is_this = true; static_type = class_value reader.class })
  node_meant (ExprNode-F.Name name) at locals mode = name_meant at name locals mode
  node_meant (ExprNode-F.Dot e name) at locals mode =
      dot_meant at name mode (e.means locals (before name mode)) (path_of locals e.names (name ∷ followers mode))
  node_meant (ExprNode-F.Call None name args) at locals mode =
      beside (values_of locals args) (λ values. call_here at name values (method_from reader.view reader.class name (length args)))
  node_meant (ExprNode-F.Call (Some e) name args) at locals mode =
      call_meant at name (length args) (e.means locals (Some [])) (values_of locals args) (path_of locals e.names [])
  node_meant (ExprNode-F.SuperCall name args) at locals mode =
      beside (values_of locals args) (λ values. super_call at name values (super_method reader.view reader.class name (length args)))
  node_meant (ExprNode-F.New type args) at locals mode =
      beside (values_of locals args) (λ values. over (read_type reader at type) (λ read. created at (length args) read values read.type))
  node_meant (ExprNode-F.NewArray type sizes pairs) at locals mode =
      mapped (λ (parts : ReadType C × List IExpr). meant (exprs.NewArray parts.0.tree parts.1 pairs)
      (of_type (arrays (length sizes + pairs) parts.0.type)))
      (both (read_type reader at type) (values_of locals sizes))
  node_meant (ExprNode-F.ArrayLit type items) at locals mode =
      mapped (λ (parts : ReadType C × List IExpr). meant (exprs.ArrayLit parts.0.tree parts.1) (of_type parts.0.type))
      (both (read_type reader at type) (values_of locals items))
  node_meant (ExprNode-F.Braces items) at locals mode =
      mapped (λ items. meant (exprs.Braces items) mixed_value) (values_of locals items)
  node_meant (ExprNode-F.Index e i) at locals mode =
      beside (alone locals i) (λ index. over (alone locals e) (λ array. index_meant at array index (index_on array.static_type)))
  node_meant (ExprNode-F.Unary op e) at locals mode =
      mapped (λ (value : Meant C). meant (exprs.Unary op value.tree) (unary_type op value.static_type)) (alone locals e)
  node_meant (ExprNode-F.Post e op) at locals mode =
      mapped (λ (value : Meant C). meant (exprs.Post op value.tree) value.static_type) (alone locals e)
  node_meant (ExprNode-F.Binary a op b) at locals mode =
      mapped (λ (parts : Meant C × Meant C). meant (exprs.Binary op parts.0.tree parts.1.tree) (binary_type op))
      (both (alone locals a) (alone locals b))
  node_meant (ExprNode-F.Assign a op b) at locals mode =
      mapped (λ (parts : Meant C × Meant C). meant (exprs.Assign op parts.0.tree parts.1.tree) parts.0.static_type)
      (both (alone locals a) (alone locals b))
  node_meant (ExprNode-F.Cond test a b) at locals mode =
      mapped (λ (parts : Meant C × (Meant C × Meant C)). choice parts.0 parts.1.0 parts.1.1)
      (both (alone locals test) (both (alone locals a) (alone locals b)))
  node_meant (ExprNode-F.Cast type e) at locals mode =
      mapped (λ (parts : ReadType C × Meant C). meant (exprs.Cast parts.0.tree parts.1.tree) (of_type parts.0.type))
      (both (read_type reader at type) (alone locals e))
  node_meant (ExprNode-F.InstanceOf e type) at locals mode =
      mapped (λ (parts : Meant C × ReadType C). meant (exprs.InstanceOf parts.0.tree parts.1.tree) primitive_value)
      (both (alone locals e) (read_type reader at type))
  node_meant (ExprNode-F.Paren e) at locals mode = alone locals e

  abbrev pub names_of : ExprNode-F (ℕ → Reading C) (Reading C) → Option Dotted
  names_of (ExprNode-F.Name name) = Some (record { first = name; rest = [] })
  names_of (ExprNode-F.Dot e name) = longer name e.names
  names_of node = None

  abbrev pub node_step : ExprNode-F (ℕ → Reading C) (Reading C) → ℕ → Reading C
  node_step node at = record { names = names_of node; means = node_meant node at }

  abbrev pub expr_step : Expr-F (ℕ → Reading C) (Reading C) → Reading C
  expr_step e = e.node e.at

  abbrev pub reading : Expr → Reading C
  reading = fold-Expr (ℕ → Reading C) (Reading C) node_step expr_step

  -- an expression that stands alone, with these locals
  abbrev pub read_expr : Locals C → Expr → Outcome IExpr
  read_expr locals e = mapped (λ (value : Meant C). value.tree) (alone locals (reading e))
