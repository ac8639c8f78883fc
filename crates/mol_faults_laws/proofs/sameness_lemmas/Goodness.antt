-- What is said of the printed names of a value that mentions what lives alone: their targets live, and so do the classes that they use and of
-- whose values they ask for members. The static types are of classes that live.
use Rattle.std.proofs.Common.{Bool, List, None, Option, Some, [], ap, cond, false, refl, subst, suc, sym, true, true≢false, zero, ℕ, ◌++◌, ◌∙◌, ◌∷◌, ◌≡◌}
use Rattle.std.specs.FinMap.{get}
use Rattle.std.specs.List.{AllByRecursion, find, flat_map}
use Rattle.std.specs.Option.{option_and_then, option_map_or}
use Rattle.std.specs.Prelude.{codes, if◌then◌else◌, ◌&&◌, ◌==◌}
use Rattle.std.specs.Str.{bytes_eq}
use Rattle.jav_names.specs.DottedNames.{Name}
use Rattle.jav_names.specs.LookUps.{is_ancestor}
use Rattle.jav_names.specs.OnValues.{StaticType, primitive_value, null_value, void_value, mixed_value, outside_value, class_value, array_value, unread_value}
use Rattle.jav_names.specs.StaticTypes.{of_type, of_literal, common, common_apart, upper_class, same_value, are_unread, item, outside_field, outside_call, opens_string}
use Rattle.jav_names.specs.Views.{ViewType, primitive_type, void_type, class_type, outside_type, array_type, unread_type, View}
use Rattle.mol_base.specs.Operators.{is_step}
use Rattle.mol_base.specs.declared.ident.Id.{Id}
use Rattle.mol_resolve_rules.specs.ProgramViews.{seen, seen_step}
use Rattle.mol_resolve_rules.specs.ReadTrees.{arrays, unary_type, binary_type}
use Rattle.mol_resolve_rules.specs.StaticTypes.{field_value, field_value_in, result_value, result_value_in, param_value}
use Rattle.mol_spell_rules.specs.NameFaults.{is_gone}
use Rattle.mol_spell_rules.specs.Writers.{Importable, program_class, outside_import, Use, importable_use, written_use, Reference}
use Rattle.mol_table_rules.specs.Life.{lives, lives_as}
use Rattle.mol_table_rules.specs.Mentions as mentioning
use Rattle.mol_table_rules.specs.Mentions.{Mention, mentions, type_mentions, param_mentions, maybe_mentions}
use Rattle.mol_table_rules.specs.Program.{Program, same_id, value_at, params_at, params_in, method_in}
use Rattle.mol_values_types.specs.declared.cell.Slot.TheVariants as slots
use Rattle.mol_values_types.specs.declared.itype.IType.{IType}
use Rattle.mol_values_types.specs.declared.itype.IType.TheFolds.{fold-roll-IType, ind-IType, map-IType}
use Rattle.mol_values_types.specs.declared.itype.IType.TheOpen.{IType-F}
use Rattle.mol_values_types.specs.declared.itype.IType.TheViews.{roll-IType}
use Rattle.mol_values_types.specs.declared.known.Known.{Known}
use Rattle.mol_values_types.specs.declared.known.Known.TheVariants as knowns
use Rattle.mol_values_types.specs.declared.param.Param.{Param}
use Rattle.mol_values_types.specs.declared.value.Value.{Value}
use Rattle.mol_values_types.specs.declared.value.Value.TheVariants as values
use Rattle.mol_faults_laws.proofs.sameness_lemmas.Alike.{listed-same}
use Rattle.mol_faults_laws.proofs.sameness_lemmas.Places.{IsGoodAsked}
use Rattle.mol_faults_laws.proofs.sameness_lemmas.Twins.{AreGood, IsGood, IsGoodClass, IsGoodType, IsGoodValue, Twins, good-class, good-value}

-- ---- lists

module _ {X : Type 0} (P : X → Type 0) where
  pub all-front : (xs ys : List X) → AllByRecursion P (xs ++ ys) → AllByRecursion P xs
  all-front [] ys all = tt {0}
  all-front (x ∷ xs) ys all = (all.0, all-front xs ys all.1)

  pub all-back : (xs ys : List X) → AllByRecursion P (xs ++ ys) → AllByRecursion P ys
  all-back [] ys all = all
  all-back (x ∷ xs) ys all = all-back xs ys all.1

  pub all-both : (xs ys : List X) → AllByRecursion P xs → AllByRecursion P ys → AllByRecursion P (xs ++ ys)
  all-both [] ys front back = back
  all-both (x ∷ xs) ys front back = (front.0, all-both xs ys front.1 back)

module _ (P : Program) where
  -- ---- references

  abbrev pub IsGoodImportable : Importable → Type 0
  IsGoodImportable (program_class class) = IsGoodClass P class
  IsGoodImportable (outside_import full) = Unit {0}

  abbrev pub IsGoodUse : Use → Type 0
  IsGoodUse (importable_use what hidden) = IsGoodImportable what
  IsGoodUse (written_use text) = Unit {0}

  abbrev pub AreGoodUses : Option Use → Type 0
  AreGoodUses None = Unit {0}
  AreGoodUses (Some used) = IsGoodUse used

  pub record IsGoodReference (reference : Reference) : Type 0 where
    pub target : is_gone P reference.target ≡ false
    pub asked : IsGoodAsked P reference.asked
    pub uses : AreGoodUses reference.uses

  abbrev pub AreGoodReferences : List Reference → Type 0
  AreGoodReferences = AllByRecursion IsGoodReference

  -- ---- types

  module _ where
    abbrev IsSeenGood : IType → Type 0
    IsSeenGood type = AreGood P (type_mentions type) → IsGoodType P (seen type)

    from-type : (x : IType-F IType)
        → (AreGood P (mentioning.type_step (map-IType _ _ type_mentions x)) → IsGoodType P (seen_step (map-IType _ _ seen x)))
        → IsSeenGood (roll-IType x)
    from-type x good all =
        subst (IsGoodType P) (sym (fold-roll-IType (ViewType Id) seen_step x))
        (good (subst (AreGood P) (fold-roll-IType (List Mention) mentioning.type_step x) all))

    layer-type : (y : IType-F ((type : IType) × IsSeenGood type)) → IsSeenGood (roll-IType (map-IType _ _ (λ p. p.0) y))
    layer-type IType-F.Boolean = from-type IType-F.Boolean (λ all. tt {0})
    layer-type IType-F.Byte = from-type IType-F.Byte (λ all. tt {0})
    layer-type IType-F.Short = from-type IType-F.Short (λ all. tt {0})
    layer-type IType-F.Char = from-type IType-F.Char (λ all. tt {0})
    layer-type IType-F.Int = from-type IType-F.Int (λ all. tt {0})
    layer-type IType-F.Long = from-type IType-F.Long (λ all. tt {0})
    layer-type IType-F.Void = from-type IType-F.Void (λ all. tt {0})
    layer-type (IType-F.Class class) = from-type (IType-F.Class class) (λ all. good-class P class all.0)
    layer-type (IType-F.Imported import rest) = from-type (IType-F.Imported import rest) (λ all. tt {0})
    layer-type (IType-F.Written text) = from-type (IType-F.Written text) (λ all. tt {0})
    layer-type (IType-F.Array one) = from-type (IType-F.Array one.0) one.1

    pub seen-good : (type : IType) → IsSeenGood type
    seen-good = ind-IType IsSeenGood (λ x y is. subst (λ z. IsSeenGood (roll-IType z)) is (layer-type y))

  -- ---- static types

  pub of_type-good : (type : ViewType Id) → IsGoodType P type → IsGoodValue P (of_type type)
  of_type-good (primitive_type name) good = tt {0}
  of_type-good void_type good = tt {0}
  of_type-good (class_type class) good = good
  of_type-good (outside_type text) good = tt {0}
  of_type-good (array_type one) good = good
  of_type-good unread_type good = tt {0}

  pub literal-good : (text : Name) → IsGoodValue P (of_literal text)
  literal-good text = by (bytes_eq text (codes "null")) (opens_string text) where
    by : (a b : Bool) → IsGoodValue P (if a then null_value else if b then outside_value else primitive_value)
    by true b = tt {0}
    by false true = tt {0}
    by false false = tt {0}

  pub arrays-good : (count : ℕ) (type : ViewType Id) → IsGoodType P type → IsGoodType P (arrays count type)
  arrays-good zero type good = good
  arrays-good (suc count) type good = arrays-good count type good

  pub item-good : (value : StaticType Id) → IsGoodValue P value → IsGoodValue P (item value)
  item-good (array_value type) good = of_type-good type good
  item-good outside_value good = tt {0}
  item-good unread_value good = tt {0}
  item-good (class_value class) good = tt {0}
  item-good primitive_value good = tt {0}
  item-good null_value good = tt {0}
  item-good void_value good = tt {0}
  item-good mixed_value good = tt {0}

  pub field-good : (value : StaticType Id) (name : Name) → IsGoodValue P value → IsGoodValue P (outside_field value name)
  field-good (array_value type) name good = by (bytes_eq name (codes "length")) where
    by : (b : Bool) → IsGoodValue P (if b then primitive_value else outside_value)
    by true = tt {0}
    by false = tt {0}
  field-good outside_value name good = tt {0}
  field-good unread_value name good = tt {0}
  field-good (class_value class) name good = tt {0}
  field-good primitive_value name good = tt {0}
  field-good null_value name good = tt {0}
  field-good void_value name good = tt {0}
  field-good mixed_value name good = tt {0}

  pub call-good : (value : StaticType Id) (name : Name) (arity : ℕ) → IsGoodValue P value → IsGoodValue P (outside_call value name arity)
  call-good (array_value type) name arity good = by (bytes_eq name (codes "clone") && arity == 0) where
    by : (b : Bool) → IsGoodValue P (if b then array_value type else outside_value)
    by true = good
    by false = tt {0}
  call-good outside_value name arity good = tt {0}
  call-good unread_value name arity good = tt {0}
  call-good (class_value class) name arity good = tt {0}
  call-good primitive_value name arity good = tt {0}
  call-good null_value name arity good = tt {0}
  call-good void_value name arity good = tt {0}
  call-good mixed_value name arity good = tt {0}

  pub unary-good : (op : Name) (value : StaticType Id) → IsGoodValue P value → IsGoodValue P (unary_type op value)
  unary-good op value good = by (is_step op) where
    by : (b : Bool) → IsGoodValue P (if b then value else primitive_value)
    by true = good
    by false = tt {0}

  pub binary-good : (op : Name) → IsGoodValue P (binary_type op)
  binary-good op = by (bytes_eq op (codes "+")) where
    by : (b : Bool) → IsGoodValue P (if b then outside_value else primitive_value)
    by true = tt {0}
    by false = tt {0}

  module _ (view : View Id Id) where
    upper-good : (first second : Id) → IsGoodClass P first → IsGoodClass P second → IsGoodValue P (upper_class view first second)
    upper-good first second left right = by (is_ancestor view second first) (is_ancestor view first second) where
      by : (a b : Bool) → IsGoodValue P (if a then class_value first else if b then class_value second else mixed_value)
      by true b = left
      by false true = right
      by false false = tt {0}

    apart-good : (first second : StaticType Id) → IsGoodValue P first → IsGoodValue P second
        → IsGoodValue P (common_apart view first second)
    apart-good null_value second left right = right
    apart-good first null_value left right = left
    apart-good (class_value first) (class_value second) left right = upper-good first second left right
    apart-good first second left right = tt {0}

    pub common-good : (first second : StaticType Id) → IsGoodValue P first → IsGoodValue P second → IsGoodValue P (common view first second)
    common-good first second left right = by (same_value view.classes.cmp first second) (are_unread first second) where
      by : (a b : Bool) → IsGoodValue P (if a then first else if b then unread_value else common_apart view first second)
      by true b = left
      by false true = tt {0}
      by false false = apart-good first second left right

-- ---- the cells of what lives

module _ (P Q : Program) (twins : Twins P Q) where
  pub field_value-good : (field : Id) → lives P field ≡ true → IsGoodValue P (field_value P field)
  field_value-good field living = by (value_at P field slots.Value) refl where
    by : (o : Option Value) → value_at P field slots.Value ≡ o → IsGoodValue P (field_value_in o)
    by (Some (values.Value type init)) holds = of_type-good P (seen type) (seen-good P type
        (all-front (IsGood P) (type_mentions type) (maybe_mentions init)
        (good-value P Q twins field slots.Value (values.Value type init) living holds)))
    by None holds = tt {0}
    by (Some (values.Live x)) holds = tt {0}
    by (Some (values.Package x)) holds = tt {0}
    by (Some (values.Owner x)) holds = tt {0}
    by (Some (values.Method x)) holds = tt {0}
    by (Some (values.Name x)) holds = tt {0}
    by (Some (values.Super x)) holds = tt {0}
    by (Some (values.Result x)) holds = tt {0}
    by (Some (values.Params x)) holds = tt {0}
    by (Some (values.Kind x)) holds = tt {0}
    by (Some (values.Fixed x)) holds = tt {0}
    by (Some (values.Words x)) holds = tt {0}
    by (Some (values.Notes x)) holds = tt {0}
    by (Some (values.Body x)) holds = tt {0}

  pub result_value-good : (method : Id) → lives P method ≡ true → IsGoodValue P (result_value P method)
  result_value-good method living = by (value_at P method slots.Result) refl where
    by : (o : Option Value) → value_at P method slots.Result ≡ o → IsGoodValue P (result_value_in o)
    by (Some (values.Result type)) holds = of_type-good P (seen type) (seen-good P type
        (good-value P Q twins method slots.Result (values.Result type) living holds))
    by None holds = tt {0}
    by (Some (values.Live x)) holds = tt {0}
    by (Some (values.Package x)) holds = tt {0}
    by (Some (values.Owner x)) holds = tt {0}
    by (Some (values.Method x)) holds = tt {0}
    by (Some (values.Name x)) holds = tt {0}
    by (Some (values.Super x)) holds = tt {0}
    by (Some (values.Params x)) holds = tt {0}
    by (Some (values.Kind x)) holds = tt {0}
    by (Some (values.Fixed x)) holds = tt {0}
    by (Some (values.Words x)) holds = tt {0}
    by (Some (values.Notes x)) holds = tt {0}
    by (Some (values.Body x)) holds = tt {0}
    by (Some (values.Value ty init)) holds = tt {0}

  pub params-good : (method : Id) → lives P method ≡ true → AllByRecursion (λ (param : Param). AreGood P (type_mentions param.ty))
      (params_at P method)
  params-good method living = by (value_at P method slots.Params) refl where
    each : (params : List Param) → AreGood P (flat_map param_mentions params)
        → AllByRecursion (λ (param : Param). AreGood P (type_mentions param.ty)) params
    each [] all = tt {0}
    each (param ∷ params) all = (
      (all-front (IsGood P) (param_mentions param) (flat_map param_mentions params) all).1,
      each params (all-back (IsGood P) (param_mentions param) (flat_map param_mentions params) all),
    )

    by : (o : Option Value) → value_at P method slots.Params ≡ o
        → AllByRecursion (λ (param : Param). AreGood P (type_mentions param.ty)) (params_in o)
    by (Some (values.Params params)) holds = each params (good-value P Q twins method slots.Params (values.Params params) living holds)
    by None holds = tt {0}
    by (Some (values.Live x)) holds = tt {0}
    by (Some (values.Package x)) holds = tt {0}
    by (Some (values.Owner x)) holds = tt {0}
    by (Some (values.Method x)) holds = tt {0}
    by (Some (values.Name x)) holds = tt {0}
    by (Some (values.Super x)) holds = tt {0}
    by (Some (values.Result x)) holds = tt {0}
    by (Some (values.Kind x)) holds = tt {0}
    by (Some (values.Fixed x)) holds = tt {0}
    by (Some (values.Words x)) holds = tt {0}
    by (Some (values.Notes x)) holds = tt {0}
    by (Some (values.Body x)) holds = tt {0}
    by (Some (values.Value ty init)) holds = tt {0}

  abbrev given : Option Param → StaticType Id
  given o = option_map_or (λ (param : Param). of_type (seen param.ty)) o mixed_value

  abbrev among : Id → Option Id → Option Param
  among id o = option_and_then (λ method. find (λ (param : Param). same_id id param.id) (params_at P method)) o

  pub param_value-good : (id : Id) → lives P id ≡ true → IsGoodValue P (param_value P id)
  param_value-good id living = by (get P.known id) refl where
    found : (params : List Param) → AllByRecursion (λ (param : Param). AreGood P (type_mentions param.ty)) params
        → IsGoodValue P (given (find (λ (param : Param). same_id id param.id) params))
    found [] all = tt {0}
    found (param ∷ params) all = choose (same_id id param.id) (found params all.1) where
      choose : (b : Bool) → IsGoodValue P (given (find (λ (param : Param). same_id id param.id) params))
          → IsGoodValue P (given (cond b (Some param) (find (λ (param : Param). same_id id param.id) params)))
      choose true more = of_type-good P (seen param.ty) (seen-good P param.ty all.0)
      choose false more = more

    at : (o : Option Known) → get P.known id ≡ o → IsGoodValue P (given (among id (method_in o))) → IsGoodValue P (param_value P id)
    at o is good = subst (λ (o : Option Known). IsGoodValue P (given (among id (method_in o)))) (sym is) good

    by : (o : Option Known) → get P.known id ≡ o → IsGoodValue P (param_value P id)
    by None is = absurd (true≢false (sym living ∙ ap (lives_as P id) is))
    by (Some knowns.Class) is = at (Some knowns.Class) is (tt {0})
    by (Some (knowns.Method kind)) is = at (Some (knowns.Method kind)) is (tt {0})
    by (Some (knowns.Decl method)) is = at (Some (knowns.Decl method)) is (tt {0})
    by (Some knowns.Field) is = at (Some knowns.Field) is (tt {0})
    by (Some (knowns.Param method)) is = at (Some (knowns.Param method)) is
        (found (params_at P method) (params-good method (listed-same P Q twins.alike id method is living).0))
