-- Readers that are alike read alike what names, members and calls mean.
use Rattle.std.proofs.Common.{◌≡◌, ℕ, zero, suc, ◌==◌, nat_lt, Bool, true, false, ◌&&◌, cond, List, [], ◌∷◌, ◌++◌, map, length, Option, Some, None, option_map, slice_get, codes, refl, sym, ◌∙◌, ap, subst}
use Rattle.std.specs.List.{AllZip}
use Rattle.std.specs.Option.{option_map_or}
use Rattle.std.specs.Str.{bytes_eq}
use Rattle.std.proofs.lemmas.Option.{slice_get-map}
use Rattle.mol_base.specs.declared.ident.Id.{Id}
use Rattle.jav_names.specs.DottedNames.{Name, Names, Dotted}
use Rattle.jav_names.specs.Leftmost.{Leftmost, leftmost_variable, leftmost_class, leftmost_import, leftmost_outside}
use Rattle.jav_names.specs.LookUps.{variable, leftmost}
use Rattle.jav_names.specs.OnValues.{StaticType, primitive_value, null_value, void_value, mixed_value, outside_value, class_value, array_value, unread_value}
use Rattle.jav_names.specs.StaticTypes.{of_type, item, outside_field, outside_call}
use Rattle.jav_names.specs.Variables.{Place, Variable, local_variable, parameter_variable, field_variable}
use Rattle.jav_names.specs.Views.{ViewType, primitive_type, void_type, class_type, outside_type, array_type, unread_type, Found, found, outside, not_found}
use Rattle.jav_names_laws.specs.Keys.{Keys, found_as, type_as, static_as, place_as, variable_as, leftmost_as}
use Rattle.mol_resolve_keys.specs.Alike.{local_as, locals_as, ParameterAlike, ReadersAlike}
use Rattle.mol_resolve_rules.specs.FaultKinds.{unknown_name}
use Rattle.mol_resolve_rules.specs.Locals.{Local, Locals, local_name, names_in_scope}
use Rattle.mol_resolve_rules.specs.Readers.{Parameter, Reader, param_names, place_of}
use Rattle.mol_resolve_rules.specs.ReadTrees.{Meant, Mode, ClassPath, whole_path, front_path, no_path, path_by, path_of, valued, local_meant, param_meant, field_word, variable_meant, name_alone, name_before, name_meant}
use Rattle.mol_values_types.specs.Renamed.{rename_expr}
use Rattle.mol_values_types.specs.declared.iexpr.IExpr.{IExpr}
use Rattle.mol_values_types.specs.declared.iexpr.IExpr.TheVariants as exprs
use Rattle.mol_resolve_keys.proofs.FoundStands.{OfFound, VariableStands, LeftmostStands, variable-stands, leftmost-stands}
use Rattle.mol_resolve_keys.proofs.OutcomesAlike.{SameOption, OutcomesAlike, Made, alike-fine, alike-silent, alike-refused}
use Rattle.mol_resolve_keys.proofs.RenamedTrees as renamed

-- ---- lists in step

-- what stands at a place in two lists that are in step
get-alike : {X Y : Type 0} (R : X → Y → Type 0) (xs : List X) (ys : List Y) → AllZip R xs ys → (place : ℕ)
    → SameOption R (slice_get xs place) (slice_get ys place)
get-alike R [] [] all place = tt
get-alike R [] (y ∷ ys) all place = absurd all
get-alike R (x ∷ xs) [] all place = absurd all
get-alike R (x ∷ xs) (y ∷ ys) all zero = all.0
get-alike R (x ∷ xs) (y ∷ ys) all (suc place) = get-alike R xs ys all.1 place

mapped-alike : {X Y Z : Type 0} (R : X → Y → Type 0) (show : X → Z) (shown : Y → Z) → ((x : X) (y : Y) → R x y → show x ≡ shown y)
    → (xs : List X) (ys : List Y) → AllZip R xs ys → map show xs ≡ map shown ys
mapped-alike R show shown same [] [] all = refl
mapped-alike R show shown same [] (y ∷ ys) all = absurd all
mapped-alike R show shown same (x ∷ xs) [] all = absurd all
mapped-alike R show shown same (x ∷ xs) (y ∷ ys) all = λ i. same x y all.0 i ∷ mapped-alike R show shown same xs ys all.1 i

map-alike : {X Z : Type 0} (show shown : X → Z) → ((x : X) → show x ≡ shown x) → (xs : List X) → map show xs ≡ map shown xs
map-alike show shown same [] = refl
map-alike show shown same (x ∷ xs) = λ i. same x i ∷ map-alike show shown same xs i

-- ---- static types

module _ {C D : Type 0} (key : C → D) where
  pub of_type-alike : (type : ViewType C) → static_as key (of_type type) ≡ of_type (type_as key type)
  of_type-alike (primitive_type name) = refl
  of_type-alike void_type = refl
  of_type-alike (class_type class) = refl
  of_type-alike (outside_type text) = refl
  of_type-alike (array_type item) = refl
  of_type-alike unread_type = refl

  pub static-if : (b : Bool) (first second : StaticType C)
      → static_as key (cond b first second) ≡ cond b (static_as key first) (static_as key second)
  static-if true first second = refl
  static-if false first second = refl

  pub item-alike : (type : StaticType C) → static_as key (item type) ≡ item (static_as key type)
  item-alike (array_value type) = of_type-alike type
  item-alike outside_value = refl
  item-alike unread_value = refl
  item-alike (class_value class) = refl
  item-alike primitive_value = refl
  item-alike null_value = refl
  item-alike void_value = refl
  item-alike mixed_value = refl

  pub outside_field-alike : (type : StaticType C) (name : Name) → static_as key (outside_field type name)
      ≡ outside_field (static_as key type) name
  outside_field-alike (array_value type) name = static-if (bytes_eq name (codes "length")) primitive_value outside_value
  outside_field-alike outside_value name = refl
  outside_field-alike unread_value name = refl
  outside_field-alike (class_value class) name = refl
  outside_field-alike primitive_value name = refl
  outside_field-alike null_value name = refl
  outside_field-alike void_value name = refl
  outside_field-alike mixed_value name = refl

  pub outside_call-alike : (type : StaticType C) (name : Name) (arity : ℕ)
      → static_as key (outside_call type name arity) ≡ outside_call (static_as key type) name arity
  outside_call-alike (array_value type) name arity =
      static-if (bytes_eq name (codes "clone") && arity == 0) (array_value type) outside_value
  outside_call-alike outside_value name arity = refl
  outside_call-alike unread_value name arity = refl
  outside_call-alike (class_value class) name arity = refl
  outside_call-alike primitive_value name arity = refl
  outside_call-alike null_value name arity = refl
  outside_call-alike void_value name arity = refl
  outside_call-alike mixed_value name arity = refl

  -- ---- locals

  local_name-alike : (locals : Locals C) (number : ℕ) → local_name locals number ≡ local_name (locals_as key locals) number
  local_name-alike locals number = by (slice_get locals.declared number)
      ∙ ap (λ (o : Option (Local D)). option_map_or (λ local. local.name) o []) (sym (slice_get-map (local_as key) locals.declared number)) where
        by : (o : Option (Local C)) → option_map_or (λ local. local.name) o []
            ≡ option_map_or (λ (local : Local D). local.name) (option_map (local_as key) o) []
        by None = refl
        by (Some local) = refl

  pub names_in_scope-alike : (locals : Locals C) → names_in_scope locals ≡ names_in_scope (locals_as key locals)
  names_in_scope-alike locals = map-alike (local_name locals) (local_name (locals_as key locals)) (local_name-alike locals) locals.in_scope

module _ {C M D N : Type 0} (keys : Keys C M D N) (name : Id → Id) (first : Reader C M) (second : Reader D N)
    (alike : ReadersAlike keys name first second) where
  pub record MeantAlike (value : Meant C) (other : Meant D) : Type 0 where
    pub tree : value.tree ≡ rename_expr name other.tree
    pub is_this : value.is_this ≡ other.is_this
    pub static_type : static_as keys.class value.static_type ≡ other.static_type

  -- arguments of calls that are read alike, if each has a value
  abbrev pub SameTrees : List IExpr → List IExpr → Type 0
  SameTrees = Made (map (rename_expr name))

  pub valued-alike : (tree other : IExpr) (type : StaticType C) (seen : StaticType D) → tree ≡ rename_expr name other
      → static_as keys.class type ≡ seen → OutcomesAlike MeantAlike (valued first tree type) (valued second other seen)
  valued-alike tree other type seen same are = alike-fine MeantAlike _ _ (record { tree = same; is_this = refl; static_type = are })

  pub param_names-alike : param_names first ≡ param_names second
  param_names-alike = mapped-alike (ParameterAlike keys.class name) (λ (param : Parameter C). param.name)
      (λ (param : Parameter D). param.name) (λ p q same. same.named) first.params second.params alike.params

  place-alike : (locals : Locals C) → place_as keys.class (place_of first locals) ≡ place_of second (locals_as keys.class locals)
  place-alike locals = λ i. record {
    header = alike.header i;
    class = alike.class i;
    locals = names_in_scope-alike keys.class locals i;
    params = param_names-alike i;
  }

  -- ---- names

  local-alike : (locals : Locals C) (number : Option ℕ)
      → OutcomesAlike MeantAlike (local_meant first locals number) (local_meant second (locals_as keys.class locals) number)
  local-alike locals None = alike-silent MeantAlike
  local-alike locals (Some number) = valued-alike _ _ _ _ (sym (renamed.renamed-Local name number))
      (by (slice_get locals.declared number)
      ∙ ap (λ (o : Option (Local D)). option_map_or (λ local. of_type local.type) o mixed_value)
      (sym (slice_get-map (local_as keys.class) locals.declared number))) where
        by : (o : Option (Local C)) → static_as keys.class (option_map_or (λ local. of_type local.type) o mixed_value)
            ≡ option_map_or (λ (local : Local D). of_type local.type) (option_map (local_as keys.class) o) mixed_value
        by None = refl
        by (Some local) = of_type-alike keys.class local.type

  param-alike : (p : Option (Parameter C)) (q : Option (Parameter D)) → SameOption (ParameterAlike keys.class name) p q
      → OutcomesAlike MeantAlike (param_meant first p) (param_meant second q)
  param-alike None None same = alike-silent MeantAlike
  param-alike None (Some q) same = absurd same
  param-alike (Some p) None same = absurd same
  param-alike (Some p) (Some q) same = valued-alike _ _ _ _
      (ap (λ (id : Id). exprs.Param id) same.known ∙ sym (renamed.renamed-Param name q.id))
      (of_type-alike keys.class p.type ∙ ap (λ (t : ViewType D). of_type t) same.typed)

  field_word-alike : (b : Bool) (id : Id) → field_word first b (name id) ≡ rename_expr name (field_word second b id)
  field_word-alike true id = sym (renamed.renamed-StaticField name id)
  field_word-alike false id = sym (renamed.renamed-Own name id)

  variable_meant-alike : (locals : Locals C) (v : Variable C M) → VariableStands first.view alike.ordered v
      → OutcomesAlike MeantAlike (variable_meant first locals v) (variable_meant second (locals_as keys.class locals) (variable_as keys v))
  variable_meant-alike locals (local_variable place) stands = local-alike locals (slice_get locals.in_scope place)
  variable_meant-alike locals (parameter_variable place) stands =
      param-alike (slice_get first.params place) (slice_get second.params place)
      (get-alike (ParameterAlike keys.class name) first.params second.params alike.params place)
  variable_meant-alike locals (field_variable field) stands = valued-alike _ _ _ _
      (ap (field_word first field.is_static) (alike.ids.fields field stands)
      ∙ field_word-alike field.is_static (second.ids.member_id (keys.member field.key)))
      (of_type-alike keys.class field.type)

  name_alone-alike : (at : ℕ) (text : Name) (locals : Locals C) (f : Found (Variable C M))
      → OfFound (VariableStands first.view alike.ordered) f
      → OutcomesAlike MeantAlike (name_alone first at text locals f)
      (name_alone second at text (locals_as keys.class locals) (found_as (variable_as keys) f))
  name_alone-alike at text locals (found v) stands = variable_meant-alike locals v stands
  name_alone-alike at text locals outside stands = valued-alike _ _ _ _ (sym (renamed.renamed-OutsideName name text)) refl
  name_alone-alike at text locals not_found stands = alike-refused MeantAlike unknown_name at

  name_before-alike : (text : Name) (locals : Locals C) (l : Leftmost C M) → LeftmostStands first.view alike.ordered l
      → OutcomesAlike MeantAlike (name_before first text locals l)
      (name_before second text (locals_as keys.class locals) (leftmost_as keys l))
  name_before-alike text locals (leftmost_variable v) stands = variable_meant-alike locals v stands
  name_before-alike text locals (leftmost_class class spelling) stands = alike-silent MeantAlike
  name_before-alike text locals (leftmost_import import) stands =
      valued-alike _ _ _ _ (sym (renamed.renamed-OutsideClass name import)) refl
  name_before-alike text locals leftmost_outside stands = valued-alike _ _ _ _ (sym (renamed.renamed-OutsideName name text)) refl

  -- what names spell, but for keys
  leftmost-alike : (locals : Locals C) (text : Name) (rest : Names)
      → leftmost_as keys (leftmost first.view (place_of first locals) text rest)
      ≡ leftmost second.view (place_of second (locals_as keys.class locals)) text rest
  leftmost-alike locals text rest = alike.looks.leftmosts (place_of first locals) text rest
      ∙ ap (λ (place : Place D). leftmost second.view place text rest) (place-alike locals)

  pub name-alike : (at : ℕ) (text : Name) (locals : Locals C) (mode : Mode)
      → OutcomesAlike MeantAlike (name_meant first at text locals mode) (name_meant second at text (locals_as keys.class locals) mode)
  name-alike at text locals None =
      subst (λ f. OutcomesAlike MeantAlike (name_alone first at text locals (variable first.view (place_of first locals) text))
      (name_alone second at text (locals_as keys.class locals) f))
      (alike.looks.variables (place_of first locals) text
      ∙ ap (λ (place : Place D). variable second.view place text) (place-alike locals))
      (name_alone-alike at text locals (variable first.view (place_of first locals) text)
      (variable-stands first.view alike.ordered (place_of first locals) text))
  name-alike at text locals (Some follow) =
      subst (λ l. OutcomesAlike MeantAlike (name_before first text locals (leftmost first.view (place_of first locals) text follow))
      (name_before second text (locals_as keys.class locals) l))
      (leftmost-alike locals text follow)
      (name_before-alike text locals (leftmost first.view (place_of first locals) text follow)
      (leftmost-stands first.view alike.ordered (place_of first locals) text follow))

  -- ---- names that spell a class

  abbrev pub path_as : ClassPath C → ClassPath D
  path_as (whole_path class) = whole_path (keys.class class)
  path_as front_path = front_path
  path_as no_path = no_path

  path_by-alike : (count : ℕ) (l : Leftmost C M) → path_as (path_by count l) ≡ path_by count (leftmost_as keys l)
  path_by-alike count (leftmost_class class spelling) = by (spelling == count) (nat_lt count spelling) where
    by : (a b : Bool) → path_as (cond a (whole_path class) (cond b front_path no_path))
        ≡ cond a (whole_path (keys.class class)) (cond b front_path no_path)
    by true b = refl
    by false true = refl
    by false false = refl
  path_by-alike count (leftmost_variable v) = refl
  path_by-alike count (leftmost_import import) = refl
  path_by-alike count leftmost_outside = refl

  pub path-alike : (locals : Locals C) (names : Option Dotted) (follow : Names)
      → path_as (path_of first locals names follow) ≡ path_of second (locals_as keys.class locals) names follow
  path-alike locals None follow = refl
  path-alike locals (Some names) follow =
      path_by-alike (suc (length names.rest)) (leftmost first.view (place_of first locals) names.first (names.rest ++ follow))
      ∙ ap (path_by (suc (length names.rest))) (leftmost-alike locals names.first (names.rest ++ follow))
