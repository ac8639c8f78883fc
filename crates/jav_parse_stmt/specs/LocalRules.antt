-- The rules of variables in declarations.
use Rattle.std.specs.Prelude.{ℕ, zero, suc, ◌+◌, max, if◌then◌else◌, nat_eq, List, [], ◌∷◌, ◌++◌, map, Some, None}
use Rattle.mol_base.specs.Token.{Token}
use Rattle.jav_tree.specs.declared.stmt.Declarator.{Declarator}
use Rattle.jav_parse_cursor.specs.declared.limits.Limits.{Limits}
use Rattle.jav_parse_stmt.specs.declared.local.Variable.{Variable}
use Rattle.jav_parse_stmt.specs.declared.local.VariableList.{VariableList}
use Rattle.jav_parse_expr.specs.declared.primary.Goal.TheVariants.{Init}
use Rattle.jav_parse_cursor.specs.declared.sort.Sort.TheVariants as sort
use Rattle.jav_parse_cursor.specs.declared.tall.Tall.{Tall}
use Rattle.jav_parse_expr.specs.ExprRules.{expr}
use Rattle.jav_parse_cursor.specs.Reading.{Parser, ◌>>=◌, ◌>>◌, pure, refuse, peek, take_token, expect, when_next}

abbrev pub no_variables : VariableList
no_variables = record { items = []; height = 0 }

abbrev pub alone : VariableList → Token → VariableList
alone all name = record { items = all.items ++ record { at = name.start; name = name.text; init = None } ∷ []; height = all.height }

abbrev pub valued : VariableList → Token → Tall → VariableList
valued all name x = record { items = all.items ++ record { at = name.start; name = name.text; init = Some x.expr } ∷ []; height = max all.height x.height }

abbrev pub declarator : Variable → Declarator
declarator v = record { name = v.name; init = v.init }

abbrev pub declarators : List Variable → List Declarator
declarators = map declarator

module _ (l : Limits) (top : ℕ) where
  -- a variable after its name, added to those before it
  unfoldable pub with_variable : VariableList → Token → Parser VariableList
  with_variable all name = when_next sort.Equals
      (if nat_eq top 0 then refuse else (do
        take_token
        x ← expr l top Init
        pure (valued all name x)))
      (pure (alone all name))

  unfoldable pub further_variables : ℕ → VariableList → Parser VariableList
  further_variables zero all = refuse
  further_variables (suc n) all = when_next sort.Comma
      (do
        take_token
        name ← expect sort.Name
        more ← with_variable all name
        further_variables n more)
      (pure all)

  -- variables after the first name
  unfoldable pub variables : Token → Parser VariableList
  variables first = with_variable no_variables first >>= further_variables l.turns
