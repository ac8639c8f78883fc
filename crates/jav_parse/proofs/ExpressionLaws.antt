-- What statements rest on: how types and expressions are read.
use Rattle.std.proofs.Common.{ℕ, zero, suc, ◌-◌, ◌<◌, ◌≤◌, inl, inr, ◌∷◌, ◌++◌, refl, arith}
use Rattle.mol_base.specs.Token.{Token}
use Rattle.jav_tree.specs.Tokens.{IsKeyword}
use Rattle.jav_tree.specs.Types.{WholeType}
use Rattle.jav_tree.specs.Expressions.{Expression}
use Rattle.jav_tree.specs.Statements.{MayBeStatement}
use Rattle.jav_parse_expr.specs.declared.action.Lead.{Lead}
use Rattle.jav_parse_expr.specs.declared.action.Lead.TheVariants.{Declaration, Part}
use Rattle.jav_parse_cursor.specs.declared.limits.Limits.{Limits}
use Rattle.jav_parse_expr.specs.declared.primary.Goal.TheVariants as goal
use Rattle.jav_parse_cursor.specs.declared.tall.Tall.{Tall}
use Rattle.jav_parse_expr.specs.ActionRules.{action, acting_on, super_action, type_or_part}
use Rattle.jav_parse_expr.specs.ExprRules.{expr}
use Rattle.jav_parse_expr.specs.PrimaryRules.{arguments}
use Rattle.jav_parse_cursor.specs.TypeRules.{whole_type}
use Rattle.jav_parse.proofs.Meets.{Spelling, Reads}
use Rattle.jav_parse.proofs.Steps.{Tries}
use Rattle.jav_parse.proofs.Within.{IsLevel, IsInit, AreArguments}

-- an expression that may be a statement
abbrev pub IsAction : Limits → ℕ → Spelling Tall
IsAction l top x ts = Expression l.most 1 x.height x.expr ts × MayBeStatement x.expr × (x.height ≤ top)

-- the type of a declaration, or what an action begins with
abbrev pub IsLead : Limits → ℕ → Spelling Lead
IsLead l top (Declaration to) ts = WholeType l.most to ts
IsLead l top (Part first) ts = Reads (λ x us. IsAction l top x (ts ++ us)) (acting_on l top first)

pub record ExpressionLaws (l : Limits) : Type 0 where
  pub type : Reads (WholeType l.most) (whole_type l)
  pub level : (top : ℕ) → 0 < top → Reads (IsLevel l 1 top) (expr l top (goal.Level 1))
  pub value : (top : ℕ) → 0 < top → Reads (IsInit l top) (expr l top goal.Init)
  pub arguments_are : (room : ℕ) → 0 < room → Reads (AreArguments l room) (arguments l.most room (expr l (room - 1) (goal.Level 1)))
  pub acts : (top : ℕ) → 0 < top → Reads (IsAction l top) (action l top)
  pub super_acts : (top : ℕ) (word : Token) → IsKeyword "super" word → Tries (λ x ts. IsAction l top x (word ∷ ts)) (super_action l top word.start)
  pub lead : (top : ℕ) → Reads (IsLead l top) (type_or_part l top)

-- the same where nothing may fit
pub tries_action : (l : Limits) → ExpressionLaws l → (top : ℕ) → Tries (IsAction l top) (action l top)
unfolding action
tries_action l laws zero = inr (λ ts. refl)
tries_action l laws (suc top) = inl (laws.acts (suc top) (omega arith))
