-- How an expression is written, by what it is and how its parts are written.
use Rattle.std.proofs.Common.{◌≡◌, ◌≢◌, ℕ, true, false, List, [], ◌∷◌, map, length, None, Some, refl, sym, ap, ◌∙◌, if◌then◌else◌}
use Rattle.std.proofs.lemmas.List.{length-map}
use Rattle.mol_base.specs.declared.ident.Id.{Id}
use Rattle.mol_values_types.specs.declared.iexpr.Argument.{Argument}
use Rattle.mol_values_types.specs.declared.iexpr.IExpr.{IExpr}
use Rattle.mol_values_types.specs.declared.iexpr.IExpr.TheFolds.{fold-roll-Argument, ind-IExpr, map-IExpr}
use Rattle.mol_values_types.specs.declared.iexpr.IExpr.TheOpen.{IExpr-F}
use Rattle.mol_values_types.specs.declared.iexpr.IExpr.TheVariants as exprs
use Rattle.mol_values_types.specs.declared.iexpr.IExpr.TheViews.{roll-IExpr}
use Rattle.mol_values_types.specs.declared.itype.IType.{IType}
use Rattle.jav_tree.specs.declared.expr.Expr.{Expr}
use Rattle.jav_tree.specs.declared.expr.ExprNode.TheVariants as node
use Rattle.jav_tree.specs.declared.types.TypeName.TheVariants as types
use Rattle.jav_names.specs.DottedNames.{Name}
use Rattle.mol_resolve_rules.specs.Locals.{Locals}
use Rattle.mol_spell_rules.proofs.SpelledEquations.{rolled, spelled_argument}
use Rattle.mol_spell_rules.specs.SpelledExpressions.{SpelledExpr, argument_step, call_form, constructor_text, dot_tree, expr_step, field_tree, importable_names, is_this_step, local_text, made, name_of, name_tree, names_tree, own_form, param_name, spelled_expr, static_call_form, static_form, tree_step, trees, type_here, class_text, created_tree}
use Rattle.mol_spell_rules.specs.Writers.{Writer, outside_import}
use Rattle.mol_spell_expr.proofs.Forms.{call-after}
use Rattle.mol_spell_expr.specs.Calls.{call_node, receiver}
use Rattle.mol_spell_expr.specs.Parts.{argument_tree, field_on, method_on, own_call, static_call, tree_of}

module _ (writer : Writer) (locals : Locals Id) where
  abbrev spelled : IExpr → SpelledExpr
  spelled = spelled_expr writer locals

  abbrev spelled_arg : Argument → SpelledExpr
  spelled_arg = spelled_argument writer locals

  -- ---- several parts

  pub trees-of : (es : List IExpr) → trees (map spelled es) ≡ map (tree_of writer locals) es
  trees-of [] = refl
  trees-of (e ∷ es) = ap (λ rest. tree_of writer locals e ∷ rest) (trees-of es)

  argument-is : (argument : Argument) → spelled_arg argument ≡ spelled argument.value
  argument-is argument = fold-roll-Argument SpelledExpr SpelledExpr (expr_step writer locals) (argument_step writer locals)
      (record { param = argument.param; value = argument.value })

  pub argument_trees-of : (args : List Argument) → trees (map spelled_arg args) ≡ map (argument_tree writer locals) args
  argument_trees-of [] = refl
  argument_trees-of (a ∷ args) = λ i. (argument-is a i).tree ∷ argument_trees-of args i

  -- as many trees as arguments
  many : (args : List Argument) → length (map spelled_arg args) ≡ length (map (argument_tree writer locals) args)
  many args = length-map args spelled_arg ∙ sym (length-map args (argument_tree writer locals))

  -- ---- `this`

  pub this-is : (e : IExpr) → e ≡ exprs.This → (spelled e).is_this ≡ true
  this-is e is = ap (λ e. (spelled e).is_this) (is ∙ sym exprs.rolls-This)
      ∙ ap (λ (part : SpelledExpr). part.is_this) (rolled writer locals IExpr-F.This)

  other-step : (x : IExpr-F IExpr Argument) → roll-IExpr x ≢ exprs.This
      → is_this_step writer locals (map-IExpr _ _ _ _ spelled spelled_arg x) ≡ false
  other-step IExpr-F.This apart = absurd (apart exprs.rolls-This)
  other-step x apart = refl

  pub other-is : (e : IExpr) → e ≢ exprs.This → (spelled e).is_this ≡ false
  other-is = ind-IExpr (λ e. e ≢ exprs.This → (spelled e).is_this ≡ false) (λ argument. Id)
      (λ x y is apart. ap (λ (part : SpelledExpr). part.is_this) (rolled writer locals x) ∙ other-step x apart) (λ x y is. x.param)

  -- ---- members

  pub field_on-this : (field : Id) (e : IExpr) (tree : Expr) → e ≡ exprs.This
      → tree ≡ field_tree writer locals (own_form writer locals field) field → tree ≡ field_on writer locals field (spelled e)
  field_on-this field e tree is written = written ∙ sym (ap (λ b. if b then field_tree writer locals (own_form writer locals field) field
      else dot_tree (spelled e).tree (name_of writer locals field)) (this-is e is))

  pub field_on-other : (field : Id) (e : IExpr) (tree : Expr) → e ≢ exprs.This
      → tree ≡ dot_tree (tree_of writer locals e) (name_of writer locals field) → tree ≡ field_on writer locals field (spelled e)
  field_on-other field e tree apart written =
      written ∙ sym (ap (λ b. if b then field_tree writer locals (own_form writer locals field) field
      else dot_tree (spelled e).tree (name_of writer locals field)) (other-is e apart))

  pub method_on-this : (method : Id) (e : IExpr) (args : List Expr) (tree : Expr) → e ≡ exprs.This
      → tree ≡ own_call writer locals method args → tree ≡ method_on writer locals method (spelled e) args
  method_on-this method e args tree is written = written ∙ sym (ap (λ b. if b then own_call writer locals method args
      else call_node (Some (spelled e).tree) (name_of writer locals method) args) (this-is e is))

  pub method_on-other : (method : Id) (e : IExpr) (args : List Expr) (tree : Expr) → e ≢ exprs.This
      → tree ≡ call_node (Some (tree_of writer locals e)) (name_of writer locals method) args
      → tree ≡ method_on writer locals method (spelled e) args
  method_on-other method e args tree apart written = written ∙ sym (ap (λ b. if b then own_call writer locals method args
      else call_node (Some (spelled e).tree) (name_of writer locals method) args) (other-is e apart))

-- The tree of an expression. A part is `found`, or a `text`, where it was looked up as another value.
module _ (writer : Writer) (locals : Locals Id) (e : IExpr) (tree : Expr) where
  abbrev Comes : Type 0
  Comes = tree ≡ tree_of writer locals e

  abbrev of : IExpr → Expr
  of = tree_of writer locals

  abbrev ofs : List IExpr → List Expr
  ofs = map (tree_of writer locals)

  abbrev of_arguments : List Argument → List Expr
  of_arguments = map (argument_tree writer locals)

  by_node : (x : IExpr-F IExpr Argument) → e ≡ roll-IExpr x
      → tree ≡ tree_step writer locals (map-IExpr _ _ _ _ (spelled_expr writer locals) (spelled_argument writer locals) x) → Comes
  by_node x is written = written ∙ sym (ap of is ∙ ap (λ (part : SpelledExpr). part.tree) (rolled writer locals x))

  -- ---- expressions that hold no other

  pub write-Lit : (text : Name) → e ≡ exprs.Lit text → tree ≡ made (node.Lit text) → Comes
  write-Lit text is = by_node (IExpr-F.Lit text) (is ∙ sym (exprs.rolls-Lit text))

  pub write-This : e ≡ exprs.This → tree ≡ made node.This → Comes
  write-This is = by_node IExpr-F.This (is ∙ sym exprs.rolls-This)

  pub write-Local : (number : ℕ) → e ≡ exprs.Local number → tree ≡ name_tree (local_text locals number) → Comes
  write-Local number is = by_node (IExpr-F.Local number) (is ∙ sym (exprs.rolls-Local number))

  pub write-Param : (id : Id) → e ≡ exprs.Param id → tree ≡ name_tree (param_name writer locals id) → Comes
  write-Param id is = by_node (IExpr-F.Param id) (is ∙ sym (exprs.rolls-Param id))

  pub write-Own : (field : Id) → e ≡ exprs.Own field → tree ≡ field_tree writer locals (own_form writer locals field) field → Comes
  write-Own field is = by_node (IExpr-F.Own field) (is ∙ sym (exprs.rolls-Own field))

  pub write-StaticField : (field : Id) → e ≡ exprs.StaticField field
      → tree ≡ field_tree writer locals (static_form writer locals field) field → Comes
  write-StaticField field is = by_node (IExpr-F.StaticField field) (is ∙ sym (exprs.rolls-StaticField field))

  pub write-NewDefault : (class : Id) → e ≡ exprs.NewDefault class
      → tree ≡ created_tree writer locals (class_text writer locals class) [] → Comes
  write-NewDefault class is = by_node (IExpr-F.NewDefault class) (is ∙ sym (exprs.rolls-NewDefault class))

  pub write-OutsideName : (name : Name) → e ≡ exprs.OutsideName name → tree ≡ name_tree name → Comes
  write-OutsideName name is = by_node (IExpr-F.OutsideName name) (is ∙ sym (exprs.rolls-OutsideName name))

  pub write-OutsideClass : (full : Name) → e ≡ exprs.OutsideClass full
      → tree ≡ names_tree (importable_names writer locals (outside_import full)) → Comes
  write-OutsideClass full is = by_node (IExpr-F.OutsideClass full) (is ∙ sym (exprs.rolls-OutsideClass full))

  -- ---- over operands

  pub write-Field : (field : Id) (on found : IExpr) → e ≡ exprs.Field field on → found ≡ on
      → tree ≡ field_on writer locals field (spelled_expr writer locals found) → Comes
  write-Field field on found is same =
      by_node (IExpr-F.Field field found) (is ∙ (λ i. exprs.Field field (sym same i)) ∙ sym (exprs.rolls-Field field found))

  pub write-OutsideField : (name text : Name) (on found : IExpr) → e ≡ exprs.OutsideField name on → text ≡ name → found ≡ on
      → tree ≡ dot_tree (of found) text → Comes
  write-OutsideField name text on found is named same =
      by_node (IExpr-F.OutsideField text found)
      (is ∙ (λ i. exprs.OutsideField (sym named i) (sym same i)) ∙ sym (exprs.rolls-OutsideField text found))

  pub write-Unary : (op : Name) (operand found : IExpr) → e ≡ exprs.Unary op operand → found ≡ operand
      → tree ≡ made (node.Unary op (of found)) → Comes
  write-Unary op operand found is same =
      by_node (IExpr-F.Unary op found) (is ∙ (λ i. exprs.Unary op (sym same i)) ∙ sym (exprs.rolls-Unary op found))

  pub write-Post : (op : Name) (operand found : IExpr) → e ≡ exprs.Post op operand → found ≡ operand
      → tree ≡ made (node.Post (of found) op) → Comes
  write-Post op operand found is same =
      by_node (IExpr-F.Post op found) (is ∙ (λ i. exprs.Post op (sym same i)) ∙ sym (exprs.rolls-Post op found))

  pub write-Cast : (type : IType) (operand found : IExpr) → e ≡ exprs.Cast type operand → found ≡ operand
      → tree ≡ made (node.Cast (type_here writer locals type).tree (of found)) → Comes
  write-Cast type operand found is same =
      by_node (IExpr-F.Cast type found) (is ∙ (λ i. exprs.Cast type (sym same i)) ∙ sym (exprs.rolls-Cast type found))

  pub write-InstanceOf : (operand found : IExpr) (type : IType) → e ≡ exprs.InstanceOf operand type → found ≡ operand
      → tree ≡ made (node.InstanceOf (of found) (type_here writer locals type).tree) → Comes
  write-InstanceOf operand found type is same =
      by_node (IExpr-F.InstanceOf found type) (is ∙ (λ i. exprs.InstanceOf (sym same i) type) ∙ sym (exprs.rolls-InstanceOf found type))

  pub write-Index : (array found_array index found_index : IExpr) → e ≡ exprs.Index array index → found_array ≡ array → found_index ≡ index
      → tree ≡ made (node.Index (of found_array) (of found_index)) → Comes
  write-Index array found_array index found_index is same_array same_index =
      by_node (IExpr-F.Index found_array found_index)
      (is ∙ (λ i. exprs.Index (sym same_array i) (sym same_index i)) ∙ sym (exprs.rolls-Index found_array found_index))

  pub write-Binary : (op : Name) (left found_left right found_right : IExpr) → e ≡ exprs.Binary op left right → found_left ≡ left
      → found_right ≡ right
      → tree ≡ made (node.Binary (of found_left) op (of found_right)) → Comes
  write-Binary op left found_left right found_right is same_left same_right =
      by_node (IExpr-F.Binary op found_left found_right)
      (is ∙ (λ i. exprs.Binary op (sym same_left i) (sym same_right i)) ∙ sym (exprs.rolls-Binary op found_left found_right))

  pub write-Assign : (op : Name) (left found_left right found_right : IExpr) → e ≡ exprs.Assign op left right → found_left ≡ left
      → found_right ≡ right
      → tree ≡ made (node.Assign (of found_left) op (of found_right)) → Comes
  write-Assign op left found_left right found_right is same_left same_right =
      by_node (IExpr-F.Assign op found_left found_right)
      (is ∙ (λ i. exprs.Assign op (sym same_left i) (sym same_right i)) ∙ sym (exprs.rolls-Assign op found_left found_right))

  pub write-Cond : (test found_test first found_first second found_second : IExpr) → e ≡ exprs.Cond test first second
      → found_test ≡ test → found_first ≡ first → found_second ≡ second
      → tree ≡ made (node.Cond (of found_test) (of found_first) (of found_second)) → Comes
  write-Cond test found_test first found_first second found_second is same_test same_first same_second =
      by_node (IExpr-F.Cond found_test found_first found_second)
      (is ∙ (λ i. exprs.Cond (sym same_test i) (sym same_first i) (sym same_second i))
      ∙ sym (exprs.rolls-Cond found_test found_first found_second))

  -- ---- over arguments

  pub write-Call : (method : Id) (args found : List Argument) → e ≡ exprs.Call method args → found ≡ args
      → tree ≡ own_call writer locals method (of_arguments found) → Comes
  write-Call method args found is same written =
      by_node (IExpr-F.Call method found) (is ∙ (λ i. exprs.Call method (sym same i)) ∙ sym (exprs.rolls-Call method found))
      (written ∙ sym (λ i. call_node (receiver writer locals (call_form writer locals method (many writer locals found i)))
      (name_of writer locals method) (argument_trees-of writer locals found i))
      ∙ call-after writer locals (call_form writer locals method (length (map (spelled_argument writer locals) found))) method
      (map (spelled_argument writer locals) found))

  pub write-StaticCall : (method : Id) (args found : List Argument) → e ≡ exprs.StaticCall method args → found ≡ args
      → tree ≡ static_call writer locals method (of_arguments found) → Comes
  write-StaticCall method args found is same written =
      by_node (IExpr-F.StaticCall method found)
      (is ∙ (λ i. exprs.StaticCall method (sym same i)) ∙ sym (exprs.rolls-StaticCall method found))
      (written ∙ sym (λ i. call_node (receiver writer locals (static_call_form writer locals method (many writer locals found i)))
      (name_of writer locals method) (argument_trees-of writer locals found i))
      ∙ call-after writer locals (static_call_form writer locals method (length (map (spelled_argument writer locals) found))) method
      (map (spelled_argument writer locals) found))

  pub write-SuperCall : (method : Id) (args found : List Argument) → e ≡ exprs.SuperCall method args → found ≡ args
      → tree ≡ made (node.SuperCall (name_of writer locals method) (of_arguments found)) → Comes
  write-SuperCall method args found is same written =
      by_node (IExpr-F.SuperCall method found)
      (is ∙ (λ i. exprs.SuperCall method (sym same i)) ∙ sym (exprs.rolls-SuperCall method found))
      (written ∙ ap (λ es. made (node.SuperCall (name_of writer locals method) es)) (sym (argument_trees-of writer locals found)))

  pub write-New : (constructor : Id) (args found : List Argument) → e ≡ exprs.New constructor args → found ≡ args
      → tree ≡ made (node.New (types.Named (constructor_text writer locals constructor)) (of_arguments found)) → Comes
  write-New constructor args found is same written =
      by_node (IExpr-F.New constructor found)
      (is ∙ (λ i. exprs.New constructor (sym same i)) ∙ sym (exprs.rolls-New constructor found))
      (written ∙ ap (λ es. made (node.New (types.Named (constructor_text writer locals constructor)) es))
      (sym (argument_trees-of writer locals found)))

  pub write-CallOn : (method : Id) (on found_on : IExpr) (args found : List Argument) → e ≡ exprs.CallOn method on args → found_on ≡ on
      → found ≡ args → tree ≡ method_on writer locals method (spelled_expr writer locals found_on) (of_arguments found) → Comes
  write-CallOn method on found_on args found is same_on same written =
      by_node (IExpr-F.CallOn method found_on found)
      (is ∙ (λ i. exprs.CallOn method (sym same_on i) (sym same i)) ∙ sym (exprs.rolls-CallOn method found_on found))
      (written ∙ by_this (spelled_expr writer locals found_on)) where
        by_this : (part : SpelledExpr)
            → method_on writer locals method part (of_arguments found)
            ≡ tree_step writer locals (IExpr-F.CallOn method part (map (spelled_argument writer locals) found))
        by_this part =
            sym (λ i. if part.is_this
            then call_node (receiver writer locals (call_form writer locals method (many writer locals found i)))
            (name_of writer locals method) (argument_trees-of writer locals found i)
            else call_node (Some part.tree) (name_of writer locals method) (argument_trees-of writer locals found i))
            ∙ (λ i. if part.is_this
            then call-after writer locals (call_form writer locals method (length (map (spelled_argument writer locals) found))) method
            (map (spelled_argument writer locals) found) i
            else call_node (Some part.tree) (name_of writer locals method) (trees (map (spelled_argument writer locals) found)))

  -- ---- over any number of expressions

  pub write-OutsideCall : (name text : Name) (args found : List IExpr) → e ≡ exprs.OutsideCall name args → text ≡ name → found ≡ args
      → tree ≡ call_node None text (ofs found) → Comes
  write-OutsideCall name text args found is named same written =
      by_node (IExpr-F.OutsideCall text found)
      (is ∙ (λ i. exprs.OutsideCall (sym named i) (sym same i)) ∙ sym (exprs.rolls-OutsideCall text found))
      (written ∙ ap (call_node None text) (sym (trees-of writer locals found)))

  pub write-OutsideCallOn : (name text : Name) (on found_on : IExpr) (args found : List IExpr) → e ≡ exprs.OutsideCallOn name on args
      → text ≡ name → found_on ≡ on → found ≡ args → tree ≡ call_node (Some (of found_on)) text (ofs found) → Comes
  write-OutsideCallOn name text on found_on args found is named same_on same written =
      by_node (IExpr-F.OutsideCallOn text found_on found)
      (is ∙ (λ i. exprs.OutsideCallOn (sym named i) (sym same_on i) (sym same i)) ∙ sym (exprs.rolls-OutsideCallOn text found_on found))
      (written ∙ ap (call_node (Some (of found_on)) text) (sym (trees-of writer locals found)))

  pub write-OutsideSuperCall : (name text : Name) (args found : List IExpr) → e ≡ exprs.OutsideSuperCall name args → text ≡ name
      → found ≡ args → tree ≡ made (node.SuperCall text (ofs found)) → Comes
  write-OutsideSuperCall name text args found is named same written =
      by_node (IExpr-F.OutsideSuperCall text found)
      (is ∙ (λ i. exprs.OutsideSuperCall (sym named i) (sym same i)) ∙ sym (exprs.rolls-OutsideSuperCall text found))
      (written ∙ ap (λ es. made (node.SuperCall text es)) (sym (trees-of writer locals found)))

  pub write-NewOutside : (type : IType) (args found : List IExpr) → e ≡ exprs.NewOutside type args → found ≡ args
      → tree ≡ made (node.New (type_here writer locals type).tree (ofs found)) → Comes
  write-NewOutside type args found is same written =
      by_node (IExpr-F.NewOutside type found)
      (is ∙ (λ i. exprs.NewOutside type (sym same i)) ∙ sym (exprs.rolls-NewOutside type found))
      (written ∙ ap (λ es. made (node.New (type_here writer locals type).tree es)) (sym (trees-of writer locals found)))

  pub write-NewArray : (type : IType) (sizes found : List IExpr) (pairs : ℕ) → e ≡ exprs.NewArray type sizes pairs → found ≡ sizes
      → tree ≡ made (node.NewArray (type_here writer locals type).tree (ofs found) pairs) → Comes
  write-NewArray type sizes found pairs is same written =
      by_node (IExpr-F.NewArray type found pairs)
      (is ∙ (λ i. exprs.NewArray type (sym same i) pairs) ∙ sym (exprs.rolls-NewArray type found pairs))
      (written ∙ ap (λ es. made (node.NewArray (type_here writer locals type).tree es pairs)) (sym (trees-of writer locals found)))

  pub write-ArrayLit : (type : IType) (items found : List IExpr) → e ≡ exprs.ArrayLit type items → found ≡ items
      → tree ≡ made (node.ArrayLit (type_here writer locals type).tree (ofs found)) → Comes
  write-ArrayLit type items found is same written =
      by_node (IExpr-F.ArrayLit type found)
      (is ∙ (λ i. exprs.ArrayLit type (sym same i)) ∙ sym (exprs.rolls-ArrayLit type found))
      (written ∙ ap (λ es. made (node.ArrayLit (type_here writer locals type).tree es)) (sym (trees-of writer locals found)))

  pub write-Braces : (items found : List IExpr) → e ≡ exprs.Braces items → found ≡ items → tree ≡ made (node.Braces (ofs found)) → Comes
  write-Braces items found is same written =
      by_node (IExpr-F.Braces found) (is ∙ (λ i. exprs.Braces (sym same i)) ∙ sym (exprs.rolls-Braces found))
      (written ∙ ap (λ es. made (node.Braces es)) (sym (trees-of writer locals found)))
