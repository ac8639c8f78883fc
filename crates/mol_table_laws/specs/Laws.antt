-- Values that are tidied alike.
use Rattle.std.specs.Prelude.{◌≡◌, List, Option, Contains}
use Rattle.mol_base.specs.declared.ident.Id.{Id}
use Rattle.mol_table_rules.specs.Mentions.{Mention, expr_mentions, mentions}
use Rattle.mol_table_rules.specs.Tidy.{tidy_expr, tidy_value}
use Rattle.mol_values_types.specs.declared.iexpr.IExpr.{IExpr}
use Rattle.mol_values_types.specs.declared.param.Param.{Param}
use Rattle.mol_values_types.specs.declared.value.Value.{Value}

-- both functions list the same parameters for each identity that is mentioned
abbrev pub AgreeOn : List Mention → (Id → List Param) → (Id → List Param) → Type 0
AgreeOn mentioned first second = (mention : Mention) → Contains mentioned mention → first mention.id ≡ second mention.id

-- Two functions that give the present parameters of methods, and agree on what is mentioned in the form that the first one leaves, leave
-- the same form. An argument that is dropped may mention what it will, and so may one that is given in its place.
pub record TidiedAlike : Type 0 where
  pub expressions : (first second : Id → List Param) (bare : Id → Option Id) (e : IExpr)
      → AgreeOn (expr_mentions (tidy_expr first bare e)) first second → tidy_expr first bare e ≡ tidy_expr second bare e
  pub values : (first second : Id → List Param) (bare : Id → Option Id) (value : Value)
      → AgreeOn (mentions (tidy_value first bare value)) first second → tidy_value first bare value ≡ tidy_value second bare value
