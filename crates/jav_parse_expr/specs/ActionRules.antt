-- The rules of expressions that may be statements, and of what begins with names where a declaration may stand too.
use Rattle.std.specs.Prelude.{ℕ, zero, suc, ◌+◌, ◌-◌, Bool, true, false, if◌then◌else◌, nat_eq, List, [], ◌∷◌}
use Rattle.mol_base.specs.Token.{Token}
use Rattle.jav_tree.specs.declared.types.TypeName.TheVariants as ty
use Rattle.jav_parse_expr.specs.declared.action.Lead.{Lead}
use Rattle.jav_parse_expr.specs.declared.action.Lead.TheVariants.{Declaration, Part}
use Rattle.jav_parse_cursor.specs.declared.limits.Limits.{Limits}
use Rattle.jav_parse_expr.specs.declared.primary.Goal.TheVariants.{Level, Target}
use Rattle.jav_parse_cursor.specs.declared.sort.Sort.{Sort}
use Rattle.jav_parse_cursor.specs.declared.sort.Sort.TheVariants as sort
use Rattle.jav_parse_cursor.specs.declared.tall.Tall.{Tall}
use Rattle.jav_parse_cursor.specs.declared.tall.Listed.{Listed}
use Rattle.jav_parse_expr.specs.ExprRules.{expr, inside, is_assignment, step_after, assignment, prefixed}
use Rattle.jav_parse_cursor.specs.Nodes as made
use Rattle.jav_parse_cursor.specs.Nodes.{is_target, is_invocation, text_of, array_type}
use Rattle.jav_parse_expr.specs.PrimaryRules as primaries
use Rattle.jav_parse_expr.specs.PrimaryRules.{acting}
use Rattle.jav_parse_cursor.specs.Reading.{Parser, ◌>>=◌, ◌>>◌, pure, refuse, peek, take_token, expect, when_next}
use Rattle.jav_parse_cursor.specs.Sorts.{same_sort}
use Rattle.jav_parse_cursor.specs.TypeRules.{qualified, brackets}

module _ (l : Limits) (top : ℕ) where
  -- what makes a statement of an expression of level 15
  unfoldable pub ending : Tall → Parser Tall
  ending left = do
    s ← peek
    if same_sort s sort.Step then step_after l top (expr l (top - 1)) (expr l (top - 1 - 1)) left else
        (if is_assignment s then
        (if is_target left.shape then assignment l top (expr l (top - 1)) (expr l (top - 1 - 1)) left else refuse) else
        (if is_invocation left.shape then pure left else refuse))

  unfoldable pub goes_on : Tall → Parser Tall
  goes_on first = primaries.chain l top (acting top) (inside l (acting top)) top first >>= ending

  unfoldable pub acts : Parser Tall
  acts = when_next sort.Step
      (prefixed l top (expr l (top - 1)) (expr l (top - 1 - 1)) Target)
      (primaries.part l top (acting top) (inside l (acting top)) >>= ending)

  -- an expression that may be a statement, at most `top` high
  unfoldable pub action : Parser Tall
  action = if nat_eq top 0 then refuse else acts

  -- the same, which begins with the one given
  unfoldable pub acting_on : Tall → Parser Tall
  acting_on first = if nat_eq top 0 then refuse else goes_on first

  -- the same, which begins with a call by `super`, after that word
  unfoldable pub super_action : ℕ → Parser Tall
  super_action at = if nat_eq top 0 then refuse else (primaries.super_call l top (acting top) (inside l (acting top)) at >>= goes_on)

  unfoldable pub indexed_or_array : List Token → Parser Lead
  indexed_or_array names = when_next sort.Right
      (do
        take_token
        n ← brackets (l.most - 1) 1
        pure (Declaration (array_type l.builds n (ty.Named (text_of names)))))
      (if nat_eq top 0 then refuse else (primaries.named_item l top (acting top) (inside l (acting top)) names >>= (λ x. pure (Part x))))

  abbrev pub lead_by : List Token → Sort → Parser Lead
  lead_by names sort.Name = pure (Declaration (ty.Named (text_of names)))
  lead_by names sort.Left = take_token >> indexed_or_array names
  lead_by names _ = if nat_eq top 0 then refuse else (primaries.named l top (acting top) (inside l (acting top)) names >>= (λ x. pure (Part x)))

  -- the type of a declaration, or the first part of an expression that may be a statement
  unfoldable pub type_or_part : Parser Lead
  type_or_part = do
    names ← qualified l.turns
    s ← peek
    lead_by names s

  unfoldable pub further_actions : ℕ → Listed → Parser Listed
  further_actions zero all = refuse
  further_actions (suc n) all = when_next sort.Comma
      (do
        take_token
        x ← action
        further_actions n (made.with all x))
      (pure all)

  unfoldable pub actions_after : Tall → Parser Listed
  actions_after first = further_actions l.turns (made.with made.no_exprs first)

  unfoldable pub actions : Parser Listed
  actions = action >>= actions_after
