-- Renaming keeps the forms of types and expressions, and renames what they mention.
use Rattle.std.specs.Prelude.{◌≡◌, ℕ, ◌+◌, Bool, ◌&&◌, ◌||◌, not, nat_le, List, [], ◌∷◌, ◌++◌, map, length}
use Rattle.std.proofs.Common.{refl, sym, ap, subst, ◌∙◌}
use Rattle.std.proofs.lemmas.List.{map-append}
use Rattle.std.specs.List.{list_all}
use Rattle.mol_base.specs.declared.ident.Id.{Id}
use Rattle.mol_table_rules.specs.ExpressionForms as forms
use Rattle.mol_table_rules.specs.ExpressionForms.{Shape, plain, statement, is_value, is_first_value, are_values, are_arguments, shape_of}
use Rattle.mol_table_rules.specs.Mentions as mention
use Rattle.mol_table_rules.specs.Mentions.{Mention, named, joined, expr_mentions}
use Rattle.mol_values_types.specs.Renamed as rename
use Rattle.mol_values_types.specs.Renamed.{rename_type, rename_expr, rename_argument}
use Rattle.mol_table_rules.specs.TypeForms as types_of
use Rattle.mol_table_rules.specs.TypeForms.{is_type, is_array, is_void, is_result, is_class, is_outside_class}
use Rattle.mol_values_types.specs.declared.iexpr.Argument.{Argument, fold-Argument}
use Rattle.mol_values_types.specs.declared.iexpr.IExpr.{IExpr}
use Rattle.mol_values_types.specs.declared.iexpr.IExpr.TheOpen.{IExpr-F}
use Rattle.mol_values_types.specs.declared.iexpr.IExpr.TheFolds.{fold-roll-IExpr, fold-roll-Argument, ind-IExpr, map-IExpr}
use Rattle.mol_values_types.specs.declared.iexpr.IExpr.TheVariants as exprs
use Rattle.mol_values_types.specs.declared.iexpr.IExpr.TheViews.{roll-IExpr, roll-Argument}
use Rattle.mol_values_types.specs.declared.itype.IType.{IType, fold-IType}
use Rattle.mol_values_types.specs.declared.itype.IType.TheOpen.{IType-F}
use Rattle.mol_values_types.specs.declared.itype.IType.TheFolds.{fold-roll-IType, ind-IType, map-IType}
use Rattle.mol_values_types.specs.declared.itype.IType.TheVariants as types
use Rattle.mol_values_types.specs.declared.itype.IType.TheViews.{roll-IType}

-- a mention of the new identity
abbrev pub rename_mention : (Id → Id) → Mention → Mention
rename_mention name mention = record { role = mention.role; id = name mention.id }

pub join : (name : Id → Id) (xs ys us vs : List Mention) → us ≡ map (rename_mention name) xs → vs ≡ map (rename_mention name) ys → (us ++ vs) ≡ map (rename_mention name) (xs ++ ys)
join name xs ys us vs p q = (λ i. p i ++ q i) ∙ sym (map-append (rename_mention name) xs ys)

-- ---- types

module _ (name : Id → Id) {A : Type 0} (step : IType-F A → A) where
  abbrev layer : (A → A) → IType-F A → IType-F A
  layer h (IType-F.Class id) = IType-F.Class (name id)
  layer h (IType-F.Array item) = IType-F.Array (h item)
  layer h other = other

  abbrev folded : IType → A
  folded = fold-IType A step

  abbrev Folds : (A → A) → IType → Type 0
  Folds h ty = folded (rename_type name ty) ≡ h (folded ty)

  renamed-type : (x : IType-F IType) → rename_type name (roll-IType x) ≡ rename.type_step name (map-IType _ _ (rename_type name) x)
  renamed-type x = fold-roll-IType IType (rename.type_step name) x

  from-type : (h : A → A) → ((x : IType-F A) → step (layer h x) ≡ h (step x)) → (x z : IType-F IType) → rename_type name (roll-IType x) ≡ roll-IType z
      → step (map-IType _ _ folded z) ≡ step (layer h (map-IType _ _ folded x)) → Folds h (roll-IType x)
  from-type h commutes x z is same = ap folded is ∙ fold-roll-IType A step z ∙ same ∙ commutes (map-IType _ _ folded x) ∙ ap h (sym (fold-roll-IType A step x))

  type_layer : (h : A → A) → ((x : IType-F A) → step (layer h x) ≡ h (step x)) → (y : IType-F ((ty : IType) × Folds h ty)) → Folds h (roll-IType (map-IType _ _ (λ p. p.0) y))
  type_layer h commutes IType-F.Boolean = from-type h commutes IType-F.Boolean IType-F.Boolean (renamed-type IType-F.Boolean ∙ sym types.rolls-Boolean) refl
  type_layer h commutes IType-F.Byte = from-type h commutes IType-F.Byte IType-F.Byte (renamed-type IType-F.Byte ∙ sym types.rolls-Byte) refl
  type_layer h commutes IType-F.Short = from-type h commutes IType-F.Short IType-F.Short (renamed-type IType-F.Short ∙ sym types.rolls-Short) refl
  type_layer h commutes IType-F.Char = from-type h commutes IType-F.Char IType-F.Char (renamed-type IType-F.Char ∙ sym types.rolls-Char) refl
  type_layer h commutes IType-F.Int = from-type h commutes IType-F.Int IType-F.Int (renamed-type IType-F.Int ∙ sym types.rolls-Int) refl
  type_layer h commutes IType-F.Long = from-type h commutes IType-F.Long IType-F.Long (renamed-type IType-F.Long ∙ sym types.rolls-Long) refl
  type_layer h commutes IType-F.Void = from-type h commutes IType-F.Void IType-F.Void (renamed-type IType-F.Void ∙ sym types.rolls-Void) refl
  type_layer h commutes (IType-F.Class id) = from-type h commutes (IType-F.Class id) (IType-F.Class (name id)) (renamed-type (IType-F.Class id) ∙ sym (types.rolls-Class (name id))) refl
  type_layer h commutes (IType-F.Imported full rest) = from-type h commutes (IType-F.Imported full rest) (IType-F.Imported full rest) (renamed-type (IType-F.Imported full rest) ∙ sym (types.rolls-Imported full rest)) refl
  type_layer h commutes (IType-F.Written text) = from-type h commutes (IType-F.Written text) (IType-F.Written text) (renamed-type (IType-F.Written text) ∙ sym (types.rolls-Written text)) refl
  type_layer h commutes (IType-F.Array item) = from-type h commutes (IType-F.Array item.0) (IType-F.Array (rename_type name item.0)) (renamed-type (IType-F.Array item.0) ∙ sym (types.rolls-Array (rename_type name item.0))) (ap (λ t. step (IType-F.Array t)) item.1)

  -- a fold of a renamed type
  pub type-folds : (h : A → A) → ((x : IType-F A) → step (layer h x) ≡ h (step x)) → (ty : IType) → Folds h ty
  type-folds h commutes = ind-IType (Folds h) (λ x y is. subst (λ z. Folds h (roll-IType z)) is (type_layer h commutes y))

module _ (name : Id → Id) where
  named-kept : (x : IType-F Bool) → types_of.named_step (layer name types_of.named_step (λ b. b) x) ≡ types_of.named_step x
  named-kept IType-F.Boolean = refl
  named-kept IType-F.Byte = refl
  named-kept IType-F.Short = refl
  named-kept IType-F.Char = refl
  named-kept IType-F.Int = refl
  named-kept IType-F.Long = refl
  named-kept IType-F.Void = refl
  named-kept (IType-F.Class id) = refl
  named-kept (IType-F.Imported full rest) = refl
  named-kept (IType-F.Written text) = refl
  named-kept (IType-F.Array item) = refl

  dimensions-kept : (x : IType-F ℕ) → types_of.dimensions_step (layer name types_of.dimensions_step (λ b. b) x) ≡ types_of.dimensions_step x
  dimensions-kept IType-F.Boolean = refl
  dimensions-kept IType-F.Byte = refl
  dimensions-kept IType-F.Short = refl
  dimensions-kept IType-F.Char = refl
  dimensions-kept IType-F.Int = refl
  dimensions-kept IType-F.Long = refl
  dimensions-kept IType-F.Void = refl
  dimensions-kept (IType-F.Class id) = refl
  dimensions-kept (IType-F.Imported full rest) = refl
  dimensions-kept (IType-F.Written text) = refl
  dimensions-kept (IType-F.Array item) = refl

  void-layer : (x : IType-F Bool) → types_of.void_step (layer name types_of.void_step (λ b. b) x) ≡ types_of.void_step x
  void-layer IType-F.Boolean = refl
  void-layer IType-F.Byte = refl
  void-layer IType-F.Short = refl
  void-layer IType-F.Char = refl
  void-layer IType-F.Int = refl
  void-layer IType-F.Long = refl
  void-layer IType-F.Void = refl
  void-layer (IType-F.Class id) = refl
  void-layer (IType-F.Imported full rest) = refl
  void-layer (IType-F.Written text) = refl
  void-layer (IType-F.Array item) = refl

  array-layer : (x : IType-F Bool) → types_of.array_step (layer name types_of.array_step (λ b. b) x) ≡ types_of.array_step x
  array-layer IType-F.Boolean = refl
  array-layer IType-F.Byte = refl
  array-layer IType-F.Short = refl
  array-layer IType-F.Char = refl
  array-layer IType-F.Int = refl
  array-layer IType-F.Long = refl
  array-layer IType-F.Void = refl
  array-layer (IType-F.Class id) = refl
  array-layer (IType-F.Imported full rest) = refl
  array-layer (IType-F.Written text) = refl
  array-layer (IType-F.Array item) = refl

  outside-layer : (x : IType-F Bool) → types_of.outside_step (layer name types_of.outside_step (λ b. b) x) ≡ types_of.outside_step x
  outside-layer IType-F.Boolean = refl
  outside-layer IType-F.Byte = refl
  outside-layer IType-F.Short = refl
  outside-layer IType-F.Char = refl
  outside-layer IType-F.Int = refl
  outside-layer IType-F.Long = refl
  outside-layer IType-F.Void = refl
  outside-layer (IType-F.Class id) = refl
  outside-layer (IType-F.Imported full rest) = refl
  outside-layer (IType-F.Written text) = refl
  outside-layer (IType-F.Array item) = refl

  class-layer : (x : IType-F Bool) → types_of.class_step (layer name types_of.class_step (λ b. b) x) ≡ types_of.class_step x
  class-layer IType-F.Boolean = refl
  class-layer IType-F.Byte = refl
  class-layer IType-F.Short = refl
  class-layer IType-F.Char = refl
  class-layer IType-F.Int = refl
  class-layer IType-F.Long = refl
  class-layer IType-F.Void = refl
  class-layer (IType-F.Class id) = refl
  class-layer (IType-F.Imported full rest) = refl
  class-layer (IType-F.Written text) = refl
  class-layer (IType-F.Array item) = refl

  mentions-layer : (x : IType-F (List Mention)) → mention.type_step (layer name mention.type_step (map (rename_mention name)) x) ≡ map (rename_mention name) (mention.type_step x)
  mentions-layer IType-F.Boolean = refl
  mentions-layer IType-F.Byte = refl
  mentions-layer IType-F.Short = refl
  mentions-layer IType-F.Char = refl
  mentions-layer IType-F.Int = refl
  mentions-layer IType-F.Long = refl
  mentions-layer IType-F.Void = refl
  mentions-layer (IType-F.Class id) = refl
  mentions-layer (IType-F.Imported full rest) = refl
  mentions-layer (IType-F.Written text) = refl
  mentions-layer (IType-F.Array item) = refl

  pub type-kept : (ty : IType) → is_type (rename_type name ty) ≡ is_type ty
  type-kept ty = λ i. type-folds name types_of.named_step (λ b. b) named-kept ty i && nat_le (type-folds name types_of.dimensions_step (λ b. b) dimensions-kept ty i) 255

  pub void-kept : (ty : IType) → is_void (rename_type name ty) ≡ is_void ty
  void-kept ty = type-folds name types_of.void_step (λ b. b) void-layer ty

  pub result-kept : (ty : IType) → is_result (rename_type name ty) ≡ is_result ty
  result-kept ty = λ i. void-kept ty i || type-kept ty i

  pub array-kept : (ty : IType) → is_array (rename_type name ty) ≡ is_array ty
  array-kept ty = type-folds name types_of.array_step (λ b. b) array-layer ty

  pub outside-kept : (ty : IType) → is_outside_class (rename_type name ty) ≡ is_outside_class ty
  outside-kept ty = λ i. type-folds name types_of.outside_step (λ b. b) outside-layer ty i && type-kept ty i

  pub class-kept : (ty : IType) → is_class (rename_type name ty) ≡ is_class ty
  class-kept ty = λ i. type-folds name types_of.class_step (λ b. b) class-layer ty i || outside-kept ty i

  pub type-mentions : (ty : IType) → mention.type_mentions (rename_type name ty) ≡ map (rename_mention name) (mention.type_mentions ty)
  type-mentions ty = type-folds name mention.type_step (map (rename_mention name)) mentions-layer ty

-- ---- expressions

-- an argument has the shape of its value, and mentions what that does
abbrev argument_shape : Argument → Shape
argument_shape = fold-Argument Shape Shape forms.shape_step forms.argument_step

abbrev argument_mentions : Argument → List Mention
argument_mentions = fold-Argument (List Mention) (List Mention) mention.expr_step mention.argument_step

shape_is : (argument : Argument) → argument_shape argument ≡ shape_of argument.value
shape_is argument = fold-roll-Argument Shape Shape forms.shape_step forms.argument_step (record { param = argument.param; value = argument.value })

mentions_are : (argument : Argument) → argument_mentions argument ≡ expr_mentions argument.value
mentions_are argument = fold-roll-Argument (List Mention) (List Mention) mention.expr_step mention.argument_step (record { param = argument.param; value = argument.value })

module _ (name : Id → Id) where
  abbrev renamed : IExpr → IExpr
  renamed = rename_expr name

  abbrev renamed_argument : Argument → Argument
  renamed_argument = rename_argument name

  pub argument-is : (argument : Argument) → renamed_argument argument ≡ record { param = name argument.param; value = renamed argument.value }
  argument-is argument = fold-roll-Argument IExpr Argument (rename.expr_step name) (rename.argument_step name) (record { param = argument.param; value = argument.value })

  -- what is proved of an expression: both laws
  abbrev Same : IExpr → Type 0
  Same e = (shape_of (renamed e) ≡ shape_of e) × (expr_mentions (renamed e) ≡ map (rename_mention name) (expr_mentions e))

  abbrev SameArgument : Argument → Type 0
  SameArgument argument = Same argument.value

  abbrev With : Type 0
  With = (e : IExpr) × Same e

  abbrev WithArgument : Type 0
  WithArgument = (argument : Argument) × SameArgument argument

  abbrev bare_ones : List With → List IExpr
  bare_ones es = map (λ p. p.0) es

  abbrev bare_arguments : List WithArgument → List Argument
  bare_arguments args = map (λ p. p.0) args

  shapes : (es : List With) → map shape_of (map renamed (bare_ones es)) ≡ map shape_of (bare_ones es)
  shapes [] = refl
  shapes (e ∷ es) = λ i. e.1.0 i ∷ shapes es i

  all-mentions : (es : List With) → joined (map expr_mentions (map renamed (bare_ones es))) ≡ map (rename_mention name) (joined (map expr_mentions (bare_ones es)))
  all-mentions [] = refl
  all-mentions (e ∷ es) =
      join name (expr_mentions e.0) (joined (map expr_mentions (bare_ones es))) (expr_mentions (renamed e.0)) (joined (map expr_mentions (map renamed (bare_ones es)))) e.1.1 (all-mentions es)

  one-shape : (argument : Argument) → shape_of (renamed argument.value) ≡ shape_of argument.value → argument_shape (renamed_argument argument) ≡ argument_shape argument
  one-shape argument same =
      ap argument_shape (argument-is argument) ∙ shape_is (record { param = name argument.param; value = renamed argument.value }) ∙ same ∙ sym (shape_is argument)

  one-mentions : (argument : Argument) → expr_mentions (renamed argument.value) ≡ map (rename_mention name) (expr_mentions argument.value)
      → argument_mentions (renamed_argument argument) ≡ map (rename_mention name) (argument_mentions argument)
  one-mentions argument same =
      ap argument_mentions (argument-is argument) ∙ mentions_are (record { param = name argument.param; value = renamed argument.value }) ∙ same
      ∙ ap (map (rename_mention name)) (sym (mentions_are argument))

  argument-shapes : (args : List WithArgument) → map argument_shape (map renamed_argument (bare_arguments args)) ≡ map argument_shape (bare_arguments args)
  argument-shapes [] = refl
  argument-shapes (p ∷ args) = λ i. one-shape p.0 p.1.0 i ∷ argument-shapes args i

  argument-mentions : (args : List WithArgument) → joined (map argument_mentions (map renamed_argument (bare_arguments args))) ≡ map (rename_mention name) (joined (map argument_mentions (bare_arguments args)))
  argument-mentions [] = refl
  argument-mentions (p ∷ args) =
      join name (argument_mentions p.0) (joined (map argument_mentions (bare_arguments args))) (argument_mentions (renamed_argument p.0)) (joined (map argument_mentions (map renamed_argument (bare_arguments args))))
      (one-mentions p.0 p.1.1) (argument-mentions args)

  -- ---- each variant

  renamed-is : (x : IExpr-F IExpr Argument) → renamed (roll-IExpr x) ≡ rename.expr_step name (map-IExpr _ _ _ _ renamed renamed_argument x)
  renamed-is x = fold-roll-IExpr IExpr Argument (rename.expr_step name) (rename.argument_step name) x

  from : (x z : IExpr-F IExpr Argument) → renamed (roll-IExpr x) ≡ roll-IExpr z
      → forms.shape_step (map-IExpr _ _ _ _ shape_of argument_shape z) ≡ forms.shape_step (map-IExpr _ _ _ _ shape_of argument_shape x)
      → mention.expr_step (map-IExpr _ _ _ _ expr_mentions argument_mentions z) ≡ map (rename_mention name) (mention.expr_step (map-IExpr _ _ _ _ expr_mentions argument_mentions x))
      → Same (roll-IExpr x)
  from x z is shaped refers =
      let shape : (y : IExpr-F IExpr Argument) → shape_of (roll-IExpr y) ≡ forms.shape_step (map-IExpr _ _ _ _ shape_of argument_shape y) = fold-roll-IExpr Shape Shape forms.shape_step forms.argument_step in
      let mentioned : (y : IExpr-F IExpr Argument) → expr_mentions (roll-IExpr y) ≡ mention.expr_step (map-IExpr _ _ _ _ expr_mentions argument_mentions y) = fold-roll-IExpr (List Mention) (List Mention) mention.expr_step mention.argument_step in (
        ap shape_of is ∙ shape z ∙ shaped ∙ sym (shape x),
        ap expr_mentions is ∙ mentioned z ∙ refers ∙ ap (map (rename_mention name)) (sym (mentioned x)),
      )

  same_layer : (y : IExpr-F With WithArgument) → Same (roll-IExpr (map-IExpr _ _ _ _ (λ p. p.0) (λ p. p.0) y))
  same_layer (IExpr-F.Lit text) =
      from (IExpr-F.Lit text) (IExpr-F.Lit text) (renamed-is (IExpr-F.Lit text) ∙ sym (exprs.rolls-Lit text))
      (refl)
      refl
  same_layer IExpr-F.This =
      from IExpr-F.This IExpr-F.This (renamed-is IExpr-F.This ∙ sym exprs.rolls-This)
      (refl)
      refl
  same_layer (IExpr-F.Local number) =
      from (IExpr-F.Local number) (IExpr-F.Local number) (renamed-is (IExpr-F.Local number) ∙ sym (exprs.rolls-Local number))
      (refl)
      refl
  same_layer (IExpr-F.Param id) =
      from (IExpr-F.Param id) (IExpr-F.Param (name id)) (renamed-is (IExpr-F.Param id) ∙ sym (exprs.rolls-Param (name id)))
      (refl)
      refl
  same_layer (IExpr-F.Own field) =
      from (IExpr-F.Own field) (IExpr-F.Own (name field)) (renamed-is (IExpr-F.Own field) ∙ sym (exprs.rolls-Own (name field)))
      (refl)
      refl
  same_layer (IExpr-F.StaticField field) =
      from (IExpr-F.StaticField field) (IExpr-F.StaticField (name field)) (renamed-is (IExpr-F.StaticField field) ∙ sym (exprs.rolls-StaticField (name field)))
      (refl)
      refl
  same_layer (IExpr-F.Field field e) =
      from (IExpr-F.Field field e.0) (IExpr-F.Field (name field) (renamed e.0)) (renamed-is (IExpr-F.Field field e.0) ∙ sym (exprs.rolls-Field (name field) (renamed e.0)))
      (λ i. forms.shape_step (IExpr-F.Field field (e.1.0 i)))
      (join name (named mention.a_field field) (expr_mentions e.0) (named mention.a_field (name field)) (expr_mentions (renamed e.0)) refl e.1.1)
  same_layer (IExpr-F.Call method args) =
      from (IExpr-F.Call method (bare_arguments args)) (IExpr-F.Call (name method) (map renamed_argument (bare_arguments args))) (renamed-is (IExpr-F.Call method (bare_arguments args)) ∙ sym (exprs.rolls-Call (name method) (map renamed_argument (bare_arguments args))))
      (λ i. forms.shape_step (IExpr-F.Call method (argument-shapes args i)))
      (join name (named mention.a_called_method method) (joined (map argument_mentions (bare_arguments args))) (named mention.a_called_method (name method)) (joined (map argument_mentions (map renamed_argument (bare_arguments args)))) refl (argument-mentions args))
  same_layer (IExpr-F.StaticCall method args) =
      from (IExpr-F.StaticCall method (bare_arguments args)) (IExpr-F.StaticCall (name method) (map renamed_argument (bare_arguments args))) (renamed-is (IExpr-F.StaticCall method (bare_arguments args)) ∙ sym (exprs.rolls-StaticCall (name method) (map renamed_argument (bare_arguments args))))
      (λ i. forms.shape_step (IExpr-F.StaticCall method (argument-shapes args i)))
      (join name (named mention.a_static_method method) (joined (map argument_mentions (bare_arguments args))) (named mention.a_static_method (name method)) (joined (map argument_mentions (map renamed_argument (bare_arguments args)))) refl (argument-mentions args))
  same_layer (IExpr-F.CallOn method e args) =
      from (IExpr-F.CallOn method e.0 (bare_arguments args)) (IExpr-F.CallOn (name method) (renamed e.0) (map renamed_argument (bare_arguments args))) (renamed-is (IExpr-F.CallOn method e.0 (bare_arguments args)) ∙ sym (exprs.rolls-CallOn (name method) (renamed e.0) (map renamed_argument (bare_arguments args))))
      (λ i. forms.shape_step (IExpr-F.CallOn method (e.1.0 i) (argument-shapes args i)))
      (join name ((named mention.a_called_method method) ++ (expr_mentions e.0)) (joined (map argument_mentions (bare_arguments args))) ((named mention.a_called_method (name method)) ++ (expr_mentions (renamed e.0))) (joined (map argument_mentions (map renamed_argument (bare_arguments args)))) (join name (named mention.a_called_method method) (expr_mentions e.0) (named mention.a_called_method (name method)) (expr_mentions (renamed e.0)) refl e.1.1) (argument-mentions args))
  same_layer (IExpr-F.SuperCall method args) =
      from (IExpr-F.SuperCall method (bare_arguments args)) (IExpr-F.SuperCall (name method) (map renamed_argument (bare_arguments args))) (renamed-is (IExpr-F.SuperCall method (bare_arguments args)) ∙ sym (exprs.rolls-SuperCall (name method) (map renamed_argument (bare_arguments args))))
      (λ i. forms.shape_step (IExpr-F.SuperCall method (argument-shapes args i)))
      (join name (named mention.a_called_method method) (joined (map argument_mentions (bare_arguments args))) (named mention.a_called_method (name method)) (joined (map argument_mentions (map renamed_argument (bare_arguments args)))) refl (argument-mentions args))
  same_layer (IExpr-F.New method args) =
      from (IExpr-F.New method (bare_arguments args)) (IExpr-F.New (name method) (map renamed_argument (bare_arguments args))) (renamed-is (IExpr-F.New method (bare_arguments args)) ∙ sym (exprs.rolls-New (name method) (map renamed_argument (bare_arguments args))))
      (λ i. forms.shape_step (IExpr-F.New method (argument-shapes args i)))
      (join name (named mention.a_constructor method) (joined (map argument_mentions (bare_arguments args))) (named mention.a_constructor (name method)) (joined (map argument_mentions (map renamed_argument (bare_arguments args)))) refl (argument-mentions args))
  same_layer (IExpr-F.NewDefault class) =
      from (IExpr-F.NewDefault class) (IExpr-F.NewDefault (name class)) (renamed-is (IExpr-F.NewDefault class) ∙ sym (exprs.rolls-NewDefault (name class)))
      (refl)
      refl
  same_layer (IExpr-F.Cond test a b) =
      from (IExpr-F.Cond test.0 a.0 b.0) (IExpr-F.Cond (renamed test.0) (renamed a.0) (renamed b.0)) (renamed-is (IExpr-F.Cond test.0 a.0 b.0) ∙ sym (exprs.rolls-Cond (renamed test.0) (renamed a.0) (renamed b.0)))
      (λ i. forms.shape_step (IExpr-F.Cond (test.1.0 i) (a.1.0 i) (b.1.0 i)))
      (join name ((expr_mentions test.0) ++ (expr_mentions a.0)) (expr_mentions b.0) ((expr_mentions (renamed test.0)) ++ (expr_mentions (renamed a.0))) (expr_mentions (renamed b.0)) (join name (expr_mentions test.0) (expr_mentions a.0) (expr_mentions (renamed test.0)) (expr_mentions (renamed a.0)) test.1.1 a.1.1) b.1.1)
  same_layer (IExpr-F.OutsideName text) =
      from (IExpr-F.OutsideName text) (IExpr-F.OutsideName text) (renamed-is (IExpr-F.OutsideName text) ∙ sym (exprs.rolls-OutsideName text))
      (refl)
      refl
  same_layer (IExpr-F.OutsideClass full) =
      from (IExpr-F.OutsideClass full) (IExpr-F.OutsideClass full) (renamed-is (IExpr-F.OutsideClass full) ∙ sym (exprs.rolls-OutsideClass full))
      (refl)
      refl
  same_layer (IExpr-F.OutsideField text e) =
      from (IExpr-F.OutsideField text e.0) (IExpr-F.OutsideField text (renamed e.0)) (renamed-is (IExpr-F.OutsideField text e.0) ∙ sym (exprs.rolls-OutsideField text (renamed e.0)))
      (λ i. forms.shape_step (IExpr-F.OutsideField text (e.1.0 i)))
      e.1.1
  same_layer (IExpr-F.OutsideCall text es) =
      from (IExpr-F.OutsideCall text (bare_ones es)) (IExpr-F.OutsideCall text (map renamed (bare_ones es))) (renamed-is (IExpr-F.OutsideCall text (bare_ones es)) ∙ sym (exprs.rolls-OutsideCall text (map renamed (bare_ones es))))
      (λ i. forms.shape_step (IExpr-F.OutsideCall text (shapes es i)))
      (all-mentions es)
  same_layer (IExpr-F.OutsideCallOn text e es) =
      from (IExpr-F.OutsideCallOn text e.0 (bare_ones es)) (IExpr-F.OutsideCallOn text (renamed e.0) (map renamed (bare_ones es))) (renamed-is (IExpr-F.OutsideCallOn text e.0 (bare_ones es)) ∙ sym (exprs.rolls-OutsideCallOn text (renamed e.0) (map renamed (bare_ones es))))
      (λ i. forms.shape_step (IExpr-F.OutsideCallOn text (e.1.0 i) (shapes es i)))
      (join name (expr_mentions e.0) (joined (map expr_mentions (bare_ones es))) (expr_mentions (renamed e.0)) (joined (map expr_mentions (map renamed (bare_ones es)))) e.1.1 (all-mentions es))
  same_layer (IExpr-F.OutsideSuperCall text es) =
      from (IExpr-F.OutsideSuperCall text (bare_ones es)) (IExpr-F.OutsideSuperCall text (map renamed (bare_ones es))) (renamed-is (IExpr-F.OutsideSuperCall text (bare_ones es)) ∙ sym (exprs.rolls-OutsideSuperCall text (map renamed (bare_ones es))))
      (λ i. forms.shape_step (IExpr-F.OutsideSuperCall text (shapes es i)))
      (all-mentions es)
  same_layer (IExpr-F.NewOutside ty es) =
      from (IExpr-F.NewOutside ty (bare_ones es)) (IExpr-F.NewOutside (rename_type name ty) (map renamed (bare_ones es))) (renamed-is (IExpr-F.NewOutside ty (bare_ones es)) ∙ sym (exprs.rolls-NewOutside (rename_type name ty) (map renamed (bare_ones es))))
      (λ i. statement (outside-kept name ty i && are_arguments (shapes es i)))
      (join name (mention.type_mentions ty) (joined (map expr_mentions (bare_ones es))) (mention.type_mentions (rename_type name ty)) (joined (map expr_mentions (map renamed (bare_ones es)))) (type-mentions name ty) (all-mentions es))
  same_layer (IExpr-F.NewArray ty es pairs) =
      from (IExpr-F.NewArray ty (bare_ones es) pairs) (IExpr-F.NewArray (rename_type name ty) (map renamed (bare_ones es)) pairs) (renamed-is (IExpr-F.NewArray ty (bare_ones es) pairs) ∙ sym (exprs.rolls-NewArray (rename_type name ty) (map renamed (bare_ones es)) pairs))
      (λ i. plain (type-kept name ty i && not (array-kept name ty i) && are_values (shapes es i) && nat_le 1 (length (shapes es i)) && nat_le (length (shapes es i) + pairs) 255))
      (join name (mention.type_mentions ty) (joined (map expr_mentions (bare_ones es))) (mention.type_mentions (rename_type name ty)) (joined (map expr_mentions (map renamed (bare_ones es)))) (type-mentions name ty) (all-mentions es))
  same_layer (IExpr-F.ArrayLit ty es) =
      from (IExpr-F.ArrayLit ty (bare_ones es)) (IExpr-F.ArrayLit (rename_type name ty) (map renamed (bare_ones es))) (renamed-is (IExpr-F.ArrayLit ty (bare_ones es)) ∙ sym (exprs.rolls-ArrayLit (rename_type name ty) (map renamed (bare_ones es))))
      (λ i. plain (type-kept name ty i && array-kept name ty i && list_all is_first_value (shapes es i)))
      (join name (mention.type_mentions ty) (joined (map expr_mentions (bare_ones es))) (mention.type_mentions (rename_type name ty)) (joined (map expr_mentions (map renamed (bare_ones es)))) (type-mentions name ty) (all-mentions es))
  same_layer (IExpr-F.Braces es) =
      from (IExpr-F.Braces (bare_ones es)) (IExpr-F.Braces (map renamed (bare_ones es))) (renamed-is (IExpr-F.Braces (bare_ones es)) ∙ sym (exprs.rolls-Braces (map renamed (bare_ones es))))
      (λ i. forms.shape_step (IExpr-F.Braces (shapes es i)))
      (all-mentions es)
  same_layer (IExpr-F.Index e index) =
      from (IExpr-F.Index e.0 index.0) (IExpr-F.Index (renamed e.0) (renamed index.0)) (renamed-is (IExpr-F.Index e.0 index.0) ∙ sym (exprs.rolls-Index (renamed e.0) (renamed index.0)))
      (λ i. forms.shape_step (IExpr-F.Index (e.1.0 i) (index.1.0 i)))
      (join name (expr_mentions e.0) (expr_mentions index.0) (expr_mentions (renamed e.0)) (expr_mentions (renamed index.0)) e.1.1 index.1.1)
  same_layer (IExpr-F.Unary op e) =
      from (IExpr-F.Unary op e.0) (IExpr-F.Unary op (renamed e.0)) (renamed-is (IExpr-F.Unary op e.0) ∙ sym (exprs.rolls-Unary op (renamed e.0)))
      (λ i. forms.shape_step (IExpr-F.Unary op (e.1.0 i)))
      e.1.1
  same_layer (IExpr-F.Post op e) =
      from (IExpr-F.Post op e.0) (IExpr-F.Post op (renamed e.0)) (renamed-is (IExpr-F.Post op e.0) ∙ sym (exprs.rolls-Post op (renamed e.0)))
      (λ i. forms.shape_step (IExpr-F.Post op (e.1.0 i)))
      e.1.1
  same_layer (IExpr-F.Binary op a b) =
      from (IExpr-F.Binary op a.0 b.0) (IExpr-F.Binary op (renamed a.0) (renamed b.0)) (renamed-is (IExpr-F.Binary op a.0 b.0) ∙ sym (exprs.rolls-Binary op (renamed a.0) (renamed b.0)))
      (λ i. forms.shape_step (IExpr-F.Binary op (a.1.0 i) (b.1.0 i)))
      (join name (expr_mentions a.0) (expr_mentions b.0) (expr_mentions (renamed a.0)) (expr_mentions (renamed b.0)) a.1.1 b.1.1)
  same_layer (IExpr-F.Assign op a b) =
      from (IExpr-F.Assign op a.0 b.0) (IExpr-F.Assign op (renamed a.0) (renamed b.0)) (renamed-is (IExpr-F.Assign op a.0 b.0) ∙ sym (exprs.rolls-Assign op (renamed a.0) (renamed b.0)))
      (λ i. forms.shape_step (IExpr-F.Assign op (a.1.0 i) (b.1.0 i)))
      (join name (expr_mentions a.0) (expr_mentions b.0) (expr_mentions (renamed a.0)) (expr_mentions (renamed b.0)) a.1.1 b.1.1)
  same_layer (IExpr-F.Cast ty e) =
      from (IExpr-F.Cast ty e.0) (IExpr-F.Cast (rename_type name ty) (renamed e.0)) (renamed-is (IExpr-F.Cast ty e.0) ∙ sym (exprs.rolls-Cast (rename_type name ty) (renamed e.0)))
      (λ i. plain (type-kept name ty i && is_value (e.1.0 i)))
      (join name (mention.type_mentions ty) (expr_mentions e.0) (mention.type_mentions (rename_type name ty)) (expr_mentions (renamed e.0)) (type-mentions name ty) e.1.1)
  same_layer (IExpr-F.InstanceOf e ty) =
      from (IExpr-F.InstanceOf e.0 ty) (IExpr-F.InstanceOf (renamed e.0) (rename_type name ty)) (renamed-is (IExpr-F.InstanceOf e.0 ty) ∙ sym (exprs.rolls-InstanceOf (renamed e.0) (rename_type name ty)))
      (λ i. plain (is_value (e.1.0 i) && type-kept name ty i))
      (join name (expr_mentions e.0) (mention.type_mentions ty) (expr_mentions (renamed e.0)) (mention.type_mentions (rename_type name ty)) e.1.1 (type-mentions name ty))

  -- renaming keeps the form of an expression, and renames what it mentions
  pub same : (e : IExpr) → Same e
  same = ind-IExpr Same SameArgument (λ x y is. subst (λ z. Same (roll-IExpr z)) is (same_layer y))
      (λ x y is. subst (λ z. SameArgument (roll-Argument z)) is y.value.1)
