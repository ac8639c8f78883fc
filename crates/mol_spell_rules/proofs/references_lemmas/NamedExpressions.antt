-- What an expression mentions is what its references name.
use Rattle.std.proofs.Common.{◌≡◌, ℕ, ◌+◌, Bool, List, [], ◌∷◌, ◌++◌, map, refl, sym, ap, subst, arith, if◌then◌else◌, codes, Option, None, Some}
use Rattle.mol_base.specs.declared.ident.Id.{Id}
use Rattle.mol_table_rules.specs.Mentions as mention
use Rattle.mol_table_rules.specs.Mentions.{Mention, Role, named, joined, type_mentions, expr_mentions, exprs_mentions, arguments_mentions, maybe_mentions}
use Rattle.mol_table_rules.specs.Program.{same_id}
use Rattle.mol_values_types.specs.declared.iexpr.Argument.{Argument, fold-Argument}
use Rattle.mol_values_types.specs.declared.iexpr.IExpr.{IExpr}
use Rattle.mol_values_types.specs.declared.iexpr.IExpr.TheOpen.{IExpr-F}
use Rattle.mol_values_types.specs.declared.iexpr.IExpr.TheFolds.{fold-roll-IExpr, fold-roll-Argument, ind-IExpr, map-IExpr}
use Rattle.mol_values_types.specs.declared.iexpr.IExpr.TheViews.{roll-IExpr, roll-Argument}
use Rattle.mol_values_types.specs.declared.itype.IType.{IType}
use Rattle.mol_values_types.specs.declared.itype.IType.TheOpen.{IType-F}
use Rattle.mol_values_types.specs.declared.itype.IType.TheFolds.{fold-roll-IType, ind-IType, map-IType}
use Rattle.mol_values_types.specs.declared.itype.IType.TheViews.{roll-IType}
use Rattle.jav_names.specs.TypeTexts.{imported_text}
use Rattle.mol_spell_rules.specs.references.Named.{is_named, times, NameTheSame}
use Rattle.mol_spell_rules.specs.references.References as reference
use Rattle.mol_spell_rules.specs.references.References.{Target, class_target, field_target, method_target, param_target, default_target, local_target, outside_target, References, type_references, argument_references, expr_references, exprs_references, arguments_references, maybe_references}

-- ---- lists

pub times-append : {X : Type 0} (test : X → Bool) (xs ys : List X) → times test (xs ++ ys) ≡ times test xs + times test ys
times-append test [] ys = omega arith
times-append test (x ∷ xs) ys = omega (arith, times-append test xs ys)

abbrev mentioned : Id → Mention → Bool
mentioned id mention = same_id id mention.id

pub both : (rs ss : References) (ms ns : List Mention) → NameTheSame rs ms → NameTheSame ss ns → NameTheSame (rs ++ ss) (ms ++ ns)
both rs ss ms ns first second id = omega (arith, times-append (is_named id) rs ss, times-append (mentioned id) ms ns, first id, second id)

-- the other way round
turned : (rs ss : References) (ms ns : List Mention) → NameTheSame rs ms → NameTheSame ss ns → NameTheSame (ss ++ rs) (ms ++ ns)
turned rs ss ms ns first second id = omega (arith, times-append (is_named id) ss rs, times-append (mentioned id) ms ns, first id, second id)

-- a reference to what is outside names no identity
pub outside : (text : List ℕ) (rs : References) (ms : List Mention) → NameTheSame rs ms → NameTheSame (outside_target text ∷ rs) ms
outside text rs ms same id = omega (arith, same id)

-- a reference to an identity, and its mention
module _ (target : Id → Target) (names-it : (id named : Id) → is_named id (target named) ≡ same_id id named) where
  pub first : (role : Role) (it : Id) (rs : References) (ms : List Mention) → NameTheSame rs ms
      → NameTheSame (target it ∷ rs) (named role it ++ ms)
  first role it rs ms same id = rw (names-it id it) (ap (λ n. (if same_id id it then 1 else 0) + n) (same id))

  pub alone : (role : Role) (it : Id) → NameTheSame (target it ∷ []) (named role it)
  alone role it = first role it [] [] (λ id. refl)

  -- after what it stands behind, and before arguments
  between : (role : Role) (it : Id) (rs ss : References) (ms ns : List Mention) → NameTheSame rs ms → NameTheSame ss ns
      → NameTheSame (rs ++ target it ∷ ss) (named role it ++ ms ++ ns)
  between role it rs ss ms ns before after id =
      omega (
        arith,
        times-append (is_named id) rs (target it ∷ ss),
        times-append (mentioned id) (named role it ++ ms) ns,
        before id,
        after id,
        ap {B = ℕ} (λ (b : Bool). if b then 1 else 0) (names-it id it),
      )

pub nothing : NameTheSame [] []
nothing id = refl

-- ---- types

types_of : (x : IType-F IType) → type_references (roll-IType x) ≡ reference.type_step (map-IType _ _ type_references x)
types_of x = fold-roll-IType References reference.type_step x

types_in : (x : IType-F IType) → type_mentions (roll-IType x) ≡ mention.type_step (map-IType _ _ type_mentions x)
types_in x = fold-roll-IType (List Mention) mention.type_step x

abbrev TypeNames : IType → Type 0
TypeNames type = NameTheSame (type_references type) (type_mentions type)

type_from : (x : IType-F IType)
    → NameTheSame (reference.type_step (map-IType _ _ type_references x)) (mention.type_step (map-IType _ _ type_mentions x))
    → TypeNames (roll-IType x)
type_from x same =
    subst (λ rs. NameTheSame rs (type_mentions (roll-IType x))) (sym (types_of x)) (subst (NameTheSame _) (sym (types_in x)) same)

type_layer : (y : IType-F ((type : IType) × TypeNames type)) → TypeNames (roll-IType (map-IType _ _ (λ p. p.0) y))
type_layer IType-F.Boolean = type_from IType-F.Boolean nothing
type_layer IType-F.Byte = type_from IType-F.Byte nothing
type_layer IType-F.Short = type_from IType-F.Short nothing
type_layer IType-F.Char = type_from IType-F.Char nothing
type_layer IType-F.Int = type_from IType-F.Int nothing
type_layer IType-F.Long = type_from IType-F.Long nothing
type_layer IType-F.Void = type_from IType-F.Void nothing
type_layer (IType-F.Class id) = type_from (IType-F.Class id) (alone class_target (λ id named. refl) mention.a_class id)
type_layer (IType-F.Imported import rest) = type_from (IType-F.Imported import rest) (outside (imported_text import rest) [] [] nothing)
type_layer (IType-F.Written text) = type_from (IType-F.Written text) (outside text [] [] nothing)
type_layer (IType-F.Array item) = type_from (IType-F.Array item.0) item.1

pub types-name : (type : IType) → TypeNames type
types-name = ind-IType TypeNames (λ x y is. subst (λ z. TypeNames (roll-IType z)) is (type_layer y))

-- ---- expressions

abbrev argument_mentions : Argument → List Mention
argument_mentions = fold-Argument (List Mention) (List Mention) mention.expr_step mention.argument_step

abbrev pub Names : IExpr → Type 0
Names e = NameTheSame (expr_references e) (expr_mentions e)

abbrev NamesArgument : Argument → Type 0
NamesArgument argument = NameTheSame (argument_references argument) (argument_mentions argument)

abbrev With : Type 0
With = (e : IExpr) × Names e

abbrev WithArgument : Type 0
WithArgument = (argument : Argument) × NamesArgument argument

abbrev alone_all : List With → List IExpr
alone_all es = map (λ p. p.0) es

abbrev arguments_alone : List WithArgument → List Argument
arguments_alone args = map (λ p. p.0) args

each : (es : List With) → NameTheSame (reference.joined (map expr_references (alone_all es))) (joined (map expr_mentions (alone_all es)))
each [] = nothing
each (e ∷ es) = both (expr_references e.0) (reference.joined (map expr_references (alone_all es))) (expr_mentions e.0)
    (joined (map expr_mentions (alone_all es))) e.1 (each es)

each_argument : (args : List WithArgument)
    → NameTheSame (reference.joined (map argument_references (arguments_alone args)))
    (joined (map argument_mentions (arguments_alone args)))
each_argument [] = nothing
each_argument (a ∷ args) =
    both (argument_references a.0) (reference.joined (map argument_references (arguments_alone args))) (argument_mentions a.0)
    (joined (map argument_mentions (arguments_alone args))) a.1 (each_argument args)

from : (x : IExpr-F IExpr Argument)
    → NameTheSame (reference.expr_step (map-IExpr _ _ _ _ expr_references argument_references x))
    (mention.expr_step (map-IExpr _ _ _ _ expr_mentions argument_mentions x))
    → Names (roll-IExpr x)
from x same = subst (λ rs. NameTheSame rs (expr_mentions (roll-IExpr x)))
    (sym (fold-roll-IExpr References References reference.expr_step reference.argument_step x))
    (subst (NameTheSame _) (sym (fold-roll-IExpr (List Mention) (List Mention) mention.expr_step mention.argument_step x)) same)

layer : (y : IExpr-F With WithArgument) → Names (roll-IExpr (map-IExpr _ _ _ _ (λ p. p.0) (λ p. p.0) y))
layer (IExpr-F.Lit text) = from (IExpr-F.Lit text) nothing
layer IExpr-F.This = from IExpr-F.This nothing
layer (IExpr-F.Local number) = from (IExpr-F.Local number) (λ id. refl)
layer (IExpr-F.Param id) = from (IExpr-F.Param id) (alone param_target (λ id named. refl) mention.a_param id)
layer (IExpr-F.Own field) = from (IExpr-F.Own field) (alone field_target (λ id named. refl) mention.a_field field)
layer (IExpr-F.StaticField field) = from (IExpr-F.StaticField field) (alone field_target (λ id named. refl) mention.a_field field)
layer (IExpr-F.Field field e) =
    from (IExpr-F.Field field e.0) (turned (field_target field ∷ []) (expr_references e.0) (named mention.a_field field) (expr_mentions e.0)
    (alone field_target (λ id named. refl) mention.a_field field) e.1)
layer (IExpr-F.Call method args) =
    from (IExpr-F.Call method (arguments_alone args))
    (first method_target (λ id named. refl) mention.a_called_method method _ _ (each_argument args))
layer (IExpr-F.StaticCall method args) =
    from (IExpr-F.StaticCall method (arguments_alone args))
    (first method_target (λ id named. refl) mention.a_static_method method _ _ (each_argument args))
layer (IExpr-F.CallOn method e args) =
    from (IExpr-F.CallOn method e.0 (arguments_alone args))
    (between method_target (λ id named. refl) mention.a_called_method method _ _ _ _ e.1 (each_argument args))
layer (IExpr-F.SuperCall method args) =
    from (IExpr-F.SuperCall method (arguments_alone args))
    (first method_target (λ id named. refl) mention.a_called_method method _ _ (each_argument args))
layer (IExpr-F.New constructor args) =
    from (IExpr-F.New constructor (arguments_alone args))
    (first method_target (λ id named. refl) mention.a_constructor constructor _ _ (each_argument args))
layer (IExpr-F.NewDefault class) = from (IExpr-F.NewDefault class) (alone default_target (λ id named. refl) mention.a_class class)
layer (IExpr-F.Cond test a b) = from (IExpr-F.Cond test.0 a.0 b.0) (both _ _ _ _ (both _ _ _ _ test.1 a.1) b.1)
layer (IExpr-F.OutsideName text) = from (IExpr-F.OutsideName text) (outside text [] [] nothing)
layer (IExpr-F.OutsideClass name) = from (IExpr-F.OutsideClass name) (outside name [] [] nothing)
layer (IExpr-F.OutsideField text e) =
    from (IExpr-F.OutsideField text e.0)
    (turned (outside_target text ∷ []) (expr_references e.0) [] (expr_mentions e.0) (outside text [] [] nothing) e.1)
layer (IExpr-F.OutsideCall text args) = from (IExpr-F.OutsideCall text (alone_all args)) (outside text _ _ (each args))
layer (IExpr-F.OutsideCallOn text e args) =
    from (IExpr-F.OutsideCallOn text e.0 (alone_all args)) (both _ _ _ _ e.1 (outside text _ _ (each args)))
layer (IExpr-F.OutsideSuperCall text args) = from (IExpr-F.OutsideSuperCall text (alone_all args)) (outside text _ _ (each args))
layer (IExpr-F.NewOutside type args) = from (IExpr-F.NewOutside type (alone_all args)) (both _ _ _ _ (types-name type) (each args))
layer (IExpr-F.NewArray type sizes pairs) =
    from (IExpr-F.NewArray type (alone_all sizes) pairs) (both _ _ _ _ (types-name type) (each sizes))
layer (IExpr-F.ArrayLit type items) = from (IExpr-F.ArrayLit type (alone_all items)) (both _ _ _ _ (types-name type) (each items))
layer (IExpr-F.Braces items) = from (IExpr-F.Braces (alone_all items)) (each items)
layer (IExpr-F.Index e i) = from (IExpr-F.Index e.0 i.0) (both _ _ _ _ e.1 (outside (codes "[]") _ _ i.1))
layer (IExpr-F.Unary op e) = from (IExpr-F.Unary op e.0) e.1
layer (IExpr-F.Post op e) = from (IExpr-F.Post op e.0) e.1
layer (IExpr-F.Binary op a b) = from (IExpr-F.Binary op a.0 b.0) (both _ _ _ _ a.1 b.1)
layer (IExpr-F.Assign op a b) = from (IExpr-F.Assign op a.0 b.0) (both _ _ _ _ a.1 b.1)
layer (IExpr-F.Cast type e) = from (IExpr-F.Cast type e.0) (both _ _ _ _ (types-name type) e.1)
layer (IExpr-F.InstanceOf e type) = from (IExpr-F.InstanceOf e.0 type) (both _ _ _ _ e.1 (types-name type))

argument_layer : (argument : Argument) → Names argument.value → NamesArgument argument
argument_layer argument same = subst (λ rs. NameTheSame rs (argument_mentions argument))
    (sym (fold-roll-Argument References References reference.expr_step reference.argument_step
    (record { param = argument.param; value = argument.value })))
    (subst (NameTheSame _)
    (sym (fold-roll-Argument (List Mention) (List Mention) mention.expr_step mention.argument_step
    (record { param = argument.param; value = argument.value }))) same)

pub expressions-name : (e : IExpr) → Names e
expressions-name = ind-IExpr Names NamesArgument (λ x y is. subst (λ z. Names (roll-IExpr z)) is (layer y))
    (λ x y is. subst (λ z. NamesArgument (roll-Argument z)) is (argument_layer (record { param = y.param; value = y.value.0 }) y.value.1))

-- ---- expressions in statements

pub all-name : (es : List IExpr) → NameTheSame (exprs_references es) (exprs_mentions es)
all-name [] = nothing
all-name (e ∷ es) = both (expr_references e) (exprs_references es) (expr_mentions e) (exprs_mentions es) (expressions-name e) (all-name es)

pub arguments-name : (args : List Argument) → NameTheSame (arguments_references args) (arguments_mentions args)
arguments-name [] = nothing
arguments-name (a ∷ args) =
    both (expr_references a.value) (arguments_references args) (expr_mentions a.value) (arguments_mentions args) (expressions-name a.value)
    (arguments-name args)

pub maybe-name : (e : Option IExpr) → NameTheSame (maybe_references e) (maybe_mentions e)
maybe-name None = nothing
maybe-name (Some e) = expressions-name e
