-- The rules of expressions of level 15 and array creations. Each takes the parser of what stands inside.
use Rattle.std.specs.Prelude.{ℕ, zero, suc, ◌+◌, ◌-◌, ◌||◌, Bool, true, false, if◌then◌else◌, nat_lt, nat_le, nat_eq, List, [], ◌∷◌, ◌++◌}
use Rattle.mol_base.specs.Token.{Token}
use Rattle.jav_tree.specs.declared.types.TypeName.{TypeName}
use Rattle.jav_tree.specs.declared.types.TypeName.TheVariants as ty
use Rattle.jav_parse_cursor.specs.declared.limits.Limits.{Limits}
use Rattle.jav_parse_expr.specs.declared.primary.Rooms.{Rooms}
use Rattle.jav_parse_cursor.specs.declared.sort.Sort.{Sort}
use Rattle.jav_parse_cursor.specs.declared.sort.Sort.TheVariants as sort
use Rattle.jav_parse_cursor.specs.declared.tall.Tall.{Tall}
use Rattle.jav_parse_cursor.specs.declared.tall.Listed.{Listed}
use Rattle.jav_parse_cursor.specs.Nodes as made
use Rattle.jav_parse_cursor.specs.Nodes.{is_target, is_array, count_of, text_of, array_type}
use Rattle.jav_parse_cursor.specs.Reading.{Parser, ◌>>=◌, ◌>>◌, pure, refuse, peek, take_token, expect, when_next}
use Rattle.jav_parse_cursor.specs.Sorts.{same_sort}
use Rattle.jav_parse_cursor.specs.TypeRules.{qualified, primitive, base_type, brackets}

-- rooms where nothing must follow
abbrev pub free : ℕ → Rooms
free top = record { invocation = top; target = top; rest = top }

-- rooms at the front of a statement
abbrev pub acting : ℕ → Rooms
acting top = record { invocation = top; target = top - 1; rest = top - 1 }

-- rooms of the operand of `++` and `--`
abbrev pub stepping : ℕ → Rooms
stepping top = record { invocation = top - 1; target = top; rest = top - 1 }

abbrev pub is_link : Sort → Bool
is_link sort.Dot = true
is_link sort.Left = true
is_link _ = false

-- further expressions, each after a comma
unfoldable pub further_arguments : Parser Tall → ℕ → Listed → Parser Listed
further_arguments e zero all = pure all
further_arguments e (suc n) all = when_next sort.Comma
    (do
      take_token
      x ← e
      further_arguments e n (made.with all x))
    (pure all)

unfoldable pub some_arguments : ℕ → Parser Tall → Parser Listed
some_arguments most e = do
  x ← e
  all ← further_arguments e (most - 1) (made.with made.no_exprs x)
  expect sort.Close
  pure all

-- arguments after their parenthesis, of an invocation that may be `room` high; e reads each of them
unfoldable pub arguments_after : ℕ → ℕ → Parser Tall → Parser Listed
arguments_after most room e = when_next sort.Close (take_token >> pure made.no_exprs)
    (if nat_le room 1 then refuse else some_arguments most e)

unfoldable pub arguments : ℕ → ℕ → Parser Tall → Parser Listed
arguments most room e = expect sort.Open >> arguments_after most room e

-- further items in braces, and perhaps a last comma
unfoldable pub further_items : Parser Tall → ℕ → Listed → Parser Listed
further_items e zero all = pure all
further_items e (suc n) all = when_next sort.Comma
    (do
      take_token
      when_next sort.Finish (pure all)
          (e >>= (λ x. further_items e n (made.with all x))))
    (pure all)

unfoldable pub some_items : ℕ → Parser Tall → Parser Listed
some_items turns e = do
  x ← e
  all ← further_items e turns (made.with made.no_exprs x)
  expect sort.Finish
  pure all

unfoldable pub items_after : ℕ → ℕ → Parser Tall → Parser Listed
items_after turns room e = when_next sort.Finish (take_token >> pure made.no_exprs)
    (if nat_le room 1 then refuse else some_items turns e)

unfoldable pub items : ℕ → ℕ → Parser Tall → Parser Listed
items turns room e = expect sort.Begin >> items_after turns room e

-- a dot and a name, after a part of this height
unfoldable pub member_name : ℕ → ℕ → Parser Token
member_name top height = if nat_le top height then refuse else (take_token >> expect sort.Name)

-- The parsers of what stands inside: an argument, an index, an expression in parentheses or a size, and an item in braces.
pub record Inside : Type 0 where
  pub argument : Parser Tall
  pub index : Parser Tall
  pub within : Parser Tall
  pub init : Parser Tall

module _ (l : Limits) (top : ℕ) (rooms : Rooms) (e : Inside) where
  unfoldable pub filled : ℕ → TypeName → Parser Tall
  filled at base = do
    expect sort.Right
    n ← brackets (l.most - 1) 1
    all ← items l.turns rooms.rest e.init
    pure (made.filled at (array_type l.builds n base) all)

  -- pairs of empty brackets after k sizes, after the first bracket
  unfoldable pub empty_pairs : ℕ → TypeName → Listed → ℕ → Parser Tall
  empty_pairs at base all k = do
    expect sort.Right
    pairs ← brackets (l.most - (k + 1)) (k + 1)
    pure (made.sized at base all (pairs - k))

  -- further sizes, after k of them
  unfoldable pub further_sizes : ℕ → TypeName → ℕ → ℕ → Listed → Parser Tall
  further_sizes at base zero k all = pure (made.sized at base all 0)
  further_sizes at base (suc n) k all = when_next sort.Left
      (do
        take_token
        when_next sort.Right (empty_pairs at base all k)
            (do
              x ← e.within
              expect sort.Right
              further_sizes at base n (k + 1) (made.with all x)))
      (pure (made.sized at base all 0))

  unfoldable pub sized : ℕ → TypeName → Parser Tall
  sized at base = do
    x ← e.within
    expect sort.Right
    further_sizes at base (l.most - 1) 1 (made.with made.no_exprs x)

  unfoldable pub array : ℕ → TypeName → Parser Tall
  array at base = if nat_eq rooms.rest 0 then refuse else (do
    expect sort.Left
    when_next sort.Right (filled at base)
        (if nat_eq rooms.rest 1 then refuse else sized at base))

  unfoldable pub creation : Parser Tall
  creation = if nat_eq rooms.invocation 0 then refuse else (do
    word ← take_token
    when_next sort.Prim
        (if nat_eq rooms.rest 0 then refuse else (primitive >>= array word.start))
        (do
          base ← base_type l.turns
          when_next sort.Open
              (arguments l.most rooms.invocation e.argument >>= (λ args. pure (made.created word.start base args)))
              (array word.start base)))

  unfoldable pub super_call : ℕ → Parser Tall
  super_call at = do
    expect sort.Dot
    t ← expect sort.Name
    args ← arguments l.most rooms.invocation e.argument
    pure (made.super_called at t args)

  unfoldable pub name : Parser Tall
  name = do
    t ← expect sort.Name
    when_next sort.Open
        (if nat_eq rooms.invocation 0 then refuse else
        (arguments l.most rooms.invocation e.argument >>= (λ args. pure (made.called t args))))
        (if nat_eq rooms.target 0 then refuse else pure (made.name t))

  unfoldable pub parens : Parser Tall
  parens = if nat_le rooms.rest 1 then refuse else (do
    left ← take_token
    x ← e.within
    expect sort.Close
    pure (made.in_parens left.start x))

  abbrev pub primary_by : Sort → Parser Tall
  primary_by sort.Name = name
  primary_by sort.Literal = if nat_eq rooms.rest 0 then refuse else (take_token >>= (λ t. pure (made.literal t)))
  primary_by sort.This = if nat_eq rooms.rest 0 then refuse else (take_token >>= (λ t. pure (made.this t)))
  primary_by sort.Super = if nat_eq rooms.invocation 0 then refuse else (take_token >>= (λ t. super_call t.start))
  primary_by sort.New = creation
  primary_by sort.Open = parens
  primary_by _ = refuse

  unfoldable pub primary : Parser Tall
  primary = peek >>= primary_by

  unfoldable pub call_on : Tall → Token → Parser Tall
  call_on left t = if nat_le rooms.invocation left.height then refuse else
      (arguments l.most rooms.invocation e.argument >>= (λ args. pure (made.called_on left t args)))

  unfoldable pub member_named : Tall → Token → Parser Tall
  member_named left t = when_next sort.Open (call_on left t)
      (if nat_le rooms.target left.height then refuse else pure (made.dotted left t))

  -- a dot and what follows it
  unfoldable pub member : Tall → Parser Tall
  member left = member_name top left.height >>= member_named left

  -- an index after its bracket
  unfoldable pub index : Tall → Parser Tall
  index left = do
    i ← e.index
    expect sort.Right
    pure (made.indexed left i)

  unfoldable pub item : Tall → Parser Tall
  item left = if is_array left.shape || nat_le rooms.target left.height then refuse else (take_token >> index left)

  abbrev pub link_by : Tall → Sort → Parser Tall
  link_by left sort.Dot = member left
  link_by left sort.Left = item left
  link_by left _ = refuse

  unfoldable pub link : Tall → Parser Tall
  link left = peek >>= link_by left

  -- what goes on from left by at most n members and indexes
  unfoldable pub chain : ℕ → Tall → Parser Tall
  chain zero left = peek >>= (λ s. if is_link s then refuse else pure left)
  chain (suc n) left = peek >>= (λ s. if is_link s then link left >>= chain n else pure left)

  unfoldable pub part : Parser Tall
  part = primary >>= chain top

  -- the variable or field of these names, or a call of it
  unfoldable pub named : List Token → Parser Tall
  named names = when_next sort.Open
      (if nat_lt rooms.invocation (count_of names) then refuse else
      (arguments l.most rooms.invocation e.argument >>= (λ args. pure (made.named_call l.builds names args))))
      (if nat_lt rooms.target (count_of names) then refuse else pure (made.named l.builds names))

  -- an index of the array that these names are, after its bracket
  unfoldable pub named_item : List Token → Parser Tall
  named_item names = if nat_le rooms.target (count_of names) then refuse else index (made.named l.builds names)
