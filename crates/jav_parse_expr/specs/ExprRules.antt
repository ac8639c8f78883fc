-- The rules of operators, casts and whole expressions.
use Rattle.std.specs.Prelude.{ℕ, zero, suc, ◌+◌, ◌-◌, max, ◌||◌, ◌&&◌, not, Bool, true, false, if◌then◌else◌, nat_lt, nat_le, nat_eq, List, [], ◌∷◌, ◌++◌}
use Rattle.mol_base.specs.Token.{Token}
use Rattle.jav_tree.specs.declared.types.TypeName.{TypeName}
use Rattle.jav_tree.specs.declared.types.TypeName.TheVariants as ty
use Rattle.jav_parse_cursor.specs.declared.limits.Limits.{Limits}
use Rattle.jav_parse_expr.specs.declared.primary.Goal.{Goal}
use Rattle.jav_parse_expr.specs.declared.primary.Goal.TheVariants.{Level, Target, Init, After}
use Rattle.jav_parse_expr.specs.declared.primary.Rooms.{Rooms}
use Rattle.jav_parse_cursor.specs.declared.sort.Sort.{Sort}
use Rattle.jav_parse_cursor.specs.declared.sort.Sort.TheVariants as sort
use Rattle.jav_parse_cursor.specs.declared.tall.Tall.{Tall}
use Rattle.jav_parse_cursor.specs.Nodes as made
use Rattle.jav_parse_cursor.specs.Nodes.{is_target, count_of, text_of, array_type}
use Rattle.jav_parse_expr.specs.PrimaryRules.{Inside, free, stepping, part, chain, named, named_item, items}
use Rattle.jav_parse_cursor.specs.Reading.{Parser, ◌>>=◌, ◌>>◌, pure, refuse, peek, place, take_token, expect, when_next}
use Rattle.jav_parse_cursor.specs.Sorts.{same_sort}
use Rattle.jav_parse_cursor.specs.TypeRules.{qualified, primitive, brackets, whole_type}

-- the level of an operator between two operands, and of `instanceof`; 0 for any other token
abbrev pub level_of : Sort → ℕ
level_of sort.Or = 3
level_of sort.And = 4
level_of sort.BitOr = 5
level_of sort.Xor = 6
level_of sort.BitAnd = 7
level_of sort.Equality = 8
level_of sort.Relation = 9
level_of sort.InstanceOf = 9
level_of sort.Shift = 10
level_of sort.Sign = 11
level_of sort.Product = 12
level_of _ = 0

abbrev pub is_assignment : Sort → Bool
is_assignment sort.Equals = true
is_assignment sort.Compound = true
is_assignment _ = false

-- whether what is cast to a class or array type may begin with such a token (JLS 15.16)
abbrev pub begins_operand : Sort → Bool
begins_operand sort.Name = true
begins_operand sort.Literal = true
begins_operand sort.This = true
begins_operand sort.Super = true
begins_operand sort.New = true
begins_operand sort.Open = true
begins_operand sort.Not = true
begins_operand _ = false

-- What stands inside an expression with these rooms; `at k` reads what may be less than k high.
abbrev pub inside_by : (at_invocation at_target at_rest : Goal → Parser Tall) → Inside
inside_by i t r = record { argument = i (Level 1); index = t (Level 1); within = r (Level 1); init = r Init }

-- `once` reads what may be one less high than the whole, `twice` what may be two less high.
module _ (l : Limits) (top : ℕ) (once twice : Goal → Parser Tall) where
  unfoldable pub step_after : Tall → Parser Tall
  step_after left = if not (is_target left.shape) || nat_le top left.height then refuse else
      (take_token >>= (λ op. pure (made.stepped left op)))

  unfoldable pub postfix : Tall → Parser Tall
  postfix left = when_next sort.Step (step_after left) (pure left)

  unfoldable pub assign_to : Tall → Parser Tall
  assign_to left = do
    op ← take_token
    right ← once (Level 1)
    pure (made.assigned left op right)

  unfoldable pub assignment : Tall → Parser Tall
  assignment left = if nat_le top left.height then refuse else assign_to left

  unfoldable pub instance_of : Tall → Parser Tall
  instance_of left = do
    take_token
    to ← whole_type l
    pure (made.tested left to)

  unfoldable pub binary : Tall → ℕ → Parser Tall
  binary left own = do
    op ← take_token
    right ← once (Level (own + 1))
    pure (made.joined left op right)

  unfoldable pub operation : Tall → ℕ → Parser Tall
  operation left own = if nat_le top left.height then refuse else
      when_next sort.InstanceOf (instance_of left) (binary left own)

  -- operators of the level `least` and tighter ones, and no tighter than `cap`
  unfoldable pub climb : ℕ → ℕ → ℕ → Tall → Parser Tall
  climb zero least cap left = pure left
  climb (suc n) least cap left = do
    s ← peek
    if nat_lt (level_of s) least || nat_lt cap (level_of s) then pure left else
        (operation left (level_of s) >>= climb n least (level_of s))

  unfoldable pub choice : Tall → Parser Tall
  choice test = if nat_le top test.height then refuse else (do
    take_token
    x ← once (Level 1)
    expect sort.Colon
    y ← once (Level 2)
    pure (made.chosen test x y))

  unfoldable pub operators : ℕ → Tall → Parser Tall
  operators level first = do
    s ← peek
    if nat_le level 1 && (is_target first.shape && is_assignment s) then assignment first else (do
      left ← climb top (max level 1) 12 first
      u ← peek
      if nat_le level 2 && same_sort u sort.Question then choice left else pure left)

  unfoldable pub cast : ℕ → TypeName → Parser Tall
  cast at to = do
    x ← once (Level 13)
    pure (made.cast at to x)

  unfoldable pub array_cast : ℕ → TypeName → ℕ → Parser Tall
  array_cast at base n = do
    expect sort.Close
    s ← peek
    if begins_operand s then cast at (array_type l.builds n base) else refuse

  unfoldable pub primitive_cast : ℕ → Parser Tall
  primitive_cast at = do
    base ← primitive
    n ← brackets l.most 0
    if nat_eq n 0 then (expect sort.Close >> cast at base) else array_cast at base n

  -- what goes on from an expression in parentheses
  unfoldable pub after_parens : Tall → Parser Tall
  after_parens left = chain l top (free top) (inside_by once once once) top left >>= postfix

  unfoldable pub closed : ℕ → Tall → Parser Tall
  closed at x = do
    expect sort.Close
    after_parens (made.in_parens at x)

  unfoldable pub goes_on : ℕ → Tall → Parser Tall
  goes_on at first = once (After first) >>= closed at

  unfoldable pub name_closed : ℕ → List Token → Parser Tall
  name_closed at names = do
    s ← peek
    if begins_operand s then cast at (ty.Named (text_of names)) else
        (if nat_le top (count_of names) then refuse else after_parens (made.in_parens at (made.named l.builds names)))

  abbrev pub opened_by : ℕ → List Token → Sort → Parser Tall
  opened_by at names sort.Close = take_token >> name_closed at names
  opened_by at names sort.Left = take_token >> when_next sort.Right
      (do
        take_token
        n ← brackets (l.most - 1) 1
        array_cast at (ty.Named (text_of names)) n)
      (named_item l (top - 1) (free (top - 1)) (inside_by twice twice twice) names >>= goes_on at)
  opened_by at names _ = named l (top - 1) (free (top - 1)) (inside_by twice twice twice) names >>= goes_on at

  unfoldable pub opened_name : ℕ → Parser Tall
  opened_name at = do
    names ← qualified l.turns
    s ← peek
    opened_by at names s

  abbrev pub opened_at : ℕ → Sort → Parser Tall
  opened_at at sort.Prim = primitive_cast at
  opened_at at sort.Name = opened_name at
  opened_at at _ = once (Level 1) >>= closed at

  unfoldable pub opened : Parser Tall
  opened = do
    left ← take_token
    s ← peek
    opened_at left.start s

  unfoldable pub prefixed : Goal → Parser Tall
  prefixed goal = if nat_le top 1 then refuse else (do
    op ← take_token
    x ← once goal
    pure (made.unary op x))

  abbrev pub operand_by : Sort → Parser Tall
  operand_by sort.Sign = prefixed (Level 13)
  operand_by sort.Not = prefixed (Level 13)
  operand_by sort.Step = prefixed Target
  operand_by sort.Open = if nat_le top 1 then refuse else opened
  operand_by _ = part l top (free top) (inside_by once once once) >>= postfix

  unfoldable pub operand : Parser Tall
  operand = peek >>= operand_by

  unfoldable pub level : ℕ → Parser Tall
  level k = operand >>= operators k

  unfoldable pub after : Tall → Parser Tall
  after first = chain l top (free top) (inside_by once once once) top first >>= postfix >>= operators 1

  unfoldable pub target : Parser Tall
  target = part l top (stepping top) (inside_by twice once twice) >>= (λ x. if is_target x.shape then pure x else refuse)

  unfoldable pub init : Parser Tall
  init = when_next sort.Begin
      (do
        at ← place
        all ← items l.turns top (once Init)
        pure (made.braced at all))
      (level 1)

  abbrev pub asked : Goal → Parser Tall
  asked (Level k) = level k
  asked Target = target
  asked Init = init
  asked (After first) = after first

-- what is asked for, at most d high
unfoldable pub expr : Limits → ℕ → Goal → Parser Tall
expr l zero goal = refuse
expr l (suc zero) goal = asked l 1 (expr l zero) (expr l zero) goal
expr l (suc (suc d)) goal = asked l (suc (suc d)) (expr l (suc d)) (expr l d) goal

-- what stands inside an expression with these rooms
abbrev pub inside : Limits → Rooms → Inside
inside l rooms = inside_by (expr l (rooms.invocation - 1)) (expr l (rooms.target - 1)) (expr l (rooms.rest - 1))
