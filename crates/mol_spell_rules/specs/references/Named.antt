-- Which identities the references of a value name, and how often, beside those that it mentions.
use Rattle.std.specs.Prelude.{◌≡◌, ℕ, ◌+◌, Bool, false, List, [], ◌∷◌, Option, if◌then◌else◌}
use Rattle.std.specs.List.{flat_map}
use Rattle.mol_base.specs.declared.ident.Id.{Id}
use Rattle.mol_table_rules.specs.Mentions.{Mention, type_mentions, expr_mentions, body_mentions, mentions}
use Rattle.mol_table_rules.specs.Program.{same_id}
use Rattle.mol_values_types.specs.declared.iblock.IBody.{IBody}
use Rattle.mol_values_types.specs.declared.iexpr.IExpr.{IExpr}
use Rattle.mol_values_types.specs.declared.itype.IType.{IType}
use Rattle.mol_values_types.specs.declared.param.Param.{Param}
use Rattle.mol_values_types.specs.declared.value.Value.{Value}
use Rattle.mol_values_types.specs.declared.value.Value.TheVariants as values
use Rattle.mol_spell_rules.specs.references.References.{Target, class_target, field_target, method_target, param_target, default_target, local_target, outside_target, References, type_references, expr_references, body_references, references}

-- the identity that a name stands for, or whose default constructor it stands for
abbrev pub is_named : Id → Target → Bool
is_named id (class_target named) = same_id id named
is_named id (field_target named) = same_id id named
is_named id (method_target named) = same_id id named
is_named id (param_target named) = same_id id named
is_named id (default_target class) = same_id id class
is_named id (local_target number) = false
is_named id (outside_target text) = false

-- how often a test passes
abbrev pub times : {X : Type 0} → (X → Bool) → List X → ℕ
times test [] = 0
times test (x ∷ xs) = (if test x then 1 else 0) + times test xs

-- These references name each identity as often as these mentions.
abbrev pub NameTheSame : References → List Mention → Type 0
NameTheSame targets mentioned = (id : Id) → times (is_named id) targets ≡ times (λ (mention : Mention). same_id id mention.id) mentioned

-- What a value mentions where it prints names: the owner and the method of a declaration stand in no source, and a parameter that a
-- list declares is no reference.
abbrev pub printed_mentions : Value → List Mention
printed_mentions (values.Owner owner) = []
printed_mentions (values.Method method) = []
printed_mentions (values.Params params) = flat_map (λ (param : Param). type_mentions param.ty) params
printed_mentions value = mentions value

-- What a type, an expression, a body or the value of a cell mentions is what its references name, each identity as often.
pub record ReferencesName : Type 0 where
  pub types : (type : IType) → NameTheSame (type_references type) (type_mentions type)
  pub expressions : (e : IExpr) → NameTheSame (expr_references e) (expr_mentions e)
  pub bodies : (body : Option IBody) → NameTheSame (body_references body) (body_mentions body)
  pub values : (value : Value) → NameTheSame (references value) (printed_mentions value)
