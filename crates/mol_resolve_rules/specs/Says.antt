-- When a value of a program says what source text says. A program may have several words for one text and one meaning. Reading gives one of
-- them, which is the first of two values here; the second, which the program holds, may have any. Of members of `this` and of static
-- members the text is not looked at: both words are allowed where the text, as `A.f`, is that of one alone. Which member is meant is
-- the same in either.
use Rattle.std.specs.Prelude.{◌≡◌, ℕ, Bool, true, false, IsTrue, List, [], ◌∷◌, ◌++◌, Option, Some, None, option_map}
use Rattle.mol_base.specs.declared.ident.Id.{Id}
use Rattle.mol_values_types.specs.declared.iexpr.Argument.{Argument}
use Rattle.mol_values_types.specs.declared.iexpr.IExpr.{IExpr, fold-IExpr}
use Rattle.mol_values_types.specs.declared.iexpr.IExpr.TheOpen.{IExpr-F, Argument-F}
use Rattle.mol_values_types.specs.declared.iexpr.IExpr.TheVariants as exprs
use Rattle.mol_values_types.specs.declared.itype.IType.{IType, fold-IType}
use Rattle.mol_values_types.specs.declared.itype.IType.TheOpen.{IType-F}
use Rattle.mol_values_types.specs.declared.itype.IType.TheVariants as types
use Rattle.jav_names.specs.DottedNames.{Name, dot, cut}
use Rattle.jav_names.specs.TypeTexts.{imported_text}

-- ---- texts of what is outside

-- The text of an outside type, or of an outside class with outside fields after it; and whether it stands there in full. An import of
-- one part is its own simple name.
pub record OutsideText : Type 0 where
  pub text : Option Name
  pub is_in_full : Bool

abbrev pub no_text : OutsideText
no_text = record { text = None; is_in_full = false }

abbrev pub in_full : Name → OutsideText
in_full text = record { text = Some text; is_in_full = true }

abbrev pub no_more : List Name → Bool
no_more [] = true
no_more (name ∷ names) = false

abbrev pub of_import : Name → Name → OutsideText
of_import import rest = record { text = Some (imported_text import rest); is_in_full = no_more (cut import).rest }

abbrev pub type_text_step : IType-F OutsideText → OutsideText
type_text_step (IType-F.Imported import rest) = of_import import rest
type_text_step (IType-F.Written text) = in_full text
type_text_step other = no_text

abbrev pub type_text : IType → OutsideText
type_text = fold-IType OutsideText type_text_step

-- a field after a text
abbrev pub with_field : Name → OutsideText → OutsideText
with_field name before = record { text = option_map (λ (text : Name). text ++ dot ∷ name) before.text; is_in_full = before.is_in_full }

abbrev pub expr_text_step : IExpr-F OutsideText OutsideText → OutsideText
expr_text_step (IExpr-F.OutsideName name) = in_full name
expr_text_step (IExpr-F.OutsideClass full) = of_import full []
expr_text_step (IExpr-F.OutsideField name e) = with_field name e
expr_text_step other = no_text

abbrev pub argument_text_step : Argument-F OutsideText OutsideText → OutsideText
argument_text_step argument = no_text

abbrev pub expr_text : IExpr → OutsideText
expr_text = fold-IExpr OutsideText OutsideText expr_text_step argument_text_step

-- Both are one text, and what is read stands there in full.
pub record AreOneText (first second : OutsideText) : Type 0 where
  pub text : Name
  pub first_is : first.text ≡ Some text
  pub second_is : second.text ≡ Some text
  pub full : IsTrue first.is_in_full

-- ---- types

pub data SaysType : IType → IType → Type 0 where
  equal_type : {type : IType} → SaysType type type
  text_of_type : {first second : IType} → AreOneText (type_text first) (type_text second) → SaysType first second
  array_of : {first second : IType} → SaysType first second → SaysType (types.Array first) (types.Array second)

-- ---- expressions

-- a field of `this`, or a static one, by its simple name or after `this.`
pub data NamesField (field : Id) : IExpr → Type 0 where
  as_own : NamesField field (exprs.Own field)
  as_static : NamesField field (exprs.StaticField field)
  on_this : NamesField field (exprs.Field field exprs.This)

-- and so a method
pub data NamesMethod (method : Id) (args : List Argument) : IExpr → Type 0 where
  as_own_call : NamesMethod method args (exprs.Call method args)
  as_static_call : NamesMethod method args (exprs.StaticCall method args)
  call_on_this : NamesMethod method args (exprs.CallOn method exprs.This args)

mutual
  pub data Says : IExpr → IExpr → Type 0 where
    equal_expr : {e : IExpr} → Says e e
    one_field : {field : Id} {said held : IExpr} → NamesField field said → NamesField field held → Says said held
    one_method : {method : Id} {all_said all_held : List Argument} {said held : IExpr} → NamesMethod method all_said said
        → NamesMethod method all_held held
        → SaysArguments all_said all_held → Says said held
    text_of_expr : {said held : IExpr} → AreOneText (expr_text said) (expr_text held) → Says said held
    in_field : {field : Id} {said held : IExpr} → Says said held → Says (exprs.Field field said) (exprs.Field field held)
    in_call_on : {method : Id} {said held : IExpr} {all_said all_held : List Argument} → Says said held → SaysArguments all_said all_held
        → Says (exprs.CallOn method said all_said) (exprs.CallOn method held all_held)
    in_super_call : {method : Id} {all_said all_held : List Argument} → SaysArguments all_said all_held
        → Says (exprs.SuperCall method all_said) (exprs.SuperCall method all_held)
    in_new : {constructor : Id} {all_said all_held : List Argument} → SaysArguments all_said all_held
        → Says (exprs.New constructor all_said) (exprs.New constructor all_held)
    in_cond : {said held next_said next_held last_said last_held : IExpr} → Says said held → Says next_said next_held
        → Says last_said last_held → Says (exprs.Cond said next_said last_said) (exprs.Cond held next_held last_held)
    in_outside_field : {name : Name} {said held : IExpr} → Says said held
        → Says (exprs.OutsideField name said) (exprs.OutsideField name held)
    in_outside_call : {name : Name} {all_said all_held : List IExpr} → SaysAll all_said all_held
        → Says (exprs.OutsideCall name all_said) (exprs.OutsideCall name all_held)
    in_outside_call_on : {name : Name} {said held : IExpr} {all_said all_held : List IExpr} → Says said held → SaysAll all_said all_held
        → Says (exprs.OutsideCallOn name said all_said) (exprs.OutsideCallOn name held all_held)
    in_outside_super_call : {name : Name} {all_said all_held : List IExpr} → SaysAll all_said all_held
        → Says (exprs.OutsideSuperCall name all_said) (exprs.OutsideSuperCall name all_held)
    in_new_outside : {said_type held_type : IType} {all_said all_held : List IExpr} → SaysType said_type held_type
        → SaysAll all_said all_held
        → Says (exprs.NewOutside said_type all_said) (exprs.NewOutside held_type all_held)
    in_new_array : {said_type held_type : IType} {all_said all_held : List IExpr} {pairs : ℕ} → SaysType said_type held_type
        → SaysAll all_said all_held
        → Says (exprs.NewArray said_type all_said pairs) (exprs.NewArray held_type all_held pairs)
    in_array : {said_type held_type : IType} {all_said all_held : List IExpr} → SaysType said_type held_type → SaysAll all_said all_held
        → Says (exprs.ArrayLit said_type all_said) (exprs.ArrayLit held_type all_held)
    in_braces : {all_said all_held : List IExpr} → SaysAll all_said all_held → Says (exprs.Braces all_said) (exprs.Braces all_held)
    in_index : {said held next_said next_held : IExpr} → Says said held → Says next_said next_held
        → Says (exprs.Index said next_said) (exprs.Index held next_held)
    in_unary : {op : Name} {said held : IExpr} → Says said held → Says (exprs.Unary op said) (exprs.Unary op held)
    in_post : {op : Name} {said held : IExpr} → Says said held → Says (exprs.Post op said) (exprs.Post op held)
    in_binary : {op : Name} {said held next_said next_held : IExpr} → Says said held → Says next_said next_held
        → Says (exprs.Binary op said next_said) (exprs.Binary op held next_held)
    in_assign : {op : Name} {said held next_said next_held : IExpr} → Says said held → Says next_said next_held
        → Says (exprs.Assign op said next_said) (exprs.Assign op held next_held)
    in_cast : {said_type held_type : IType} {said held : IExpr} → SaysType said_type held_type → Says said held
        → Says (exprs.Cast said_type said) (exprs.Cast held_type held)
    in_instance_of : {said_type held_type : IType} {said held : IExpr} → Says said held → SaysType said_type held_type
        → Says (exprs.InstanceOf said said_type) (exprs.InstanceOf held held_type)

  pub data SaysAll : List IExpr → List IExpr → Type 0 where
    no_exprs : SaysAll [] []
    more_exprs : {said held : IExpr} {all_said all_held : List IExpr} → Says said held → SaysAll all_said all_held
        → SaysAll (said ∷ all_said) (held ∷ all_held)

  -- each for the same parameter
  pub data SaysArguments : List Argument → List Argument → Type 0 where
    no_arguments : SaysArguments [] []
    more_arguments : {param : Id} {said held : IExpr} {all_said all_held : List Argument} → Says said held → SaysArguments all_said all_held
        → SaysArguments (record { param = param; value = said } ∷ all_said) (record { param = param; value = held } ∷ all_held)

pub data SaysMaybe : Option IExpr → Option IExpr → Type 0 where
  no_expr : SaysMaybe None None
  some_expr : {said held : IExpr} → Says said held → SaysMaybe (Some said) (Some held)
