-- What trees with their heights spell, within limits.
use Rattle.std.proofs.Common.{◌≡◌, ◌⊎◌, ℕ, ◌+◌, ◌-◌, ◌<◌, ◌≤◌, true, List, [], ◌∷◌, ◌++◌, arith}
use Rattle.mol_base.specs.Token.{Token}
use Rattle.jav_tree.specs.declared.expr.Expr.{Expr}
use Rattle.jav_tree.specs.Expressions as tree
use Rattle.jav_tree.specs.Expressions.{Expression, Primary, BeforeDot, ArrayCreation, Arguments, Items, Init}
use Rattle.jav_parse_cursor.specs.declared.limits.Limits.{Limits}
use Rattle.jav_parse_expr.specs.declared.primary.Rooms.{Rooms}
use Rattle.jav_parse_cursor.specs.declared.tall.Shape.{Shape}
use Rattle.jav_parse_cursor.specs.declared.tall.Shape.TheVariants.{Target, Invocation, Atom, Array, Loose}
use Rattle.jav_parse_cursor.specs.declared.tall.Tall.{Tall}
use Rattle.jav_parse_cursor.specs.declared.tall.Listed.{Listed}
use Rattle.jav_parse_cursor.specs.Nodes as made
use Rattle.jav_parse_expr.specs.PrimaryRules.{Inside, free}
use Rattle.jav_parse_cursor.specs.Reading.{Parser}
use Rattle.jav_parse_expr.specs.declared.primary.Goal.{Goal}
use Rattle.jav_parse_expr.specs.declared.primary.Goal.TheVariants.{Level, After}
use Rattle.jav_parse_expr.specs.declared.primary.Goal.TheVariants as goals
use Rattle.jav_parse.proofs.Meets.{Spelling, Some_of, Reads}
use Rattle.jav_parse.proofs.Samples.{a_name}
use Rattle.jav_parse.proofs.TokenSorts.{name_is}

-- limits under which trees are built, with room for one item at least
pub record IsBuilding (l : Limits) : Type 0 where
  pub builds : l.builds ≡ true
  pub some : 0 < l.most

-- an expression of this level, at most d high
abbrev pub IsLevel : Limits → ℕ → ℕ → Spelling Tall
IsLevel l k d y ts = Expression l.most k y.height y.expr ts × (y.height ≤ d)

-- a name, field or item, at most d high
abbrev pub IsTarget : Limits → ℕ → Spelling Tall
IsTarget l d y ts = Primary l.most tree.target y.height y.expr ts × (y.height ≤ d)

-- a first value, at most d high
abbrev pub IsInit : Limits → ℕ → Spelling Tall
IsInit l d y ts = Init l.most y.height y.expr ts × (y.height ≤ d)

-- arguments of an invocation that is at most `room` high
abbrev pub AreArguments : Limits → ℕ → Spelling Listed
AreArguments l room y ts = Arguments l.most y.height y.exprs ts × (y.height + 1 ≤ room)

-- items in braces of what is at most `room` high
abbrev pub AreItems : Limits → ℕ → Spelling Listed
AreItems l room y ts = Items l.most y.height y.exprs ts × (y.height + 1 ≤ room)

-- an expression of level 15, or an array creation, by its shape
abbrev pub Shaped : ℕ → Shape → ℕ → Expr → List Token → Type 0
Shaped m Target h e ts = Primary m tree.target h e ts
Shaped m Invocation h e ts = Primary m tree.invocation h e ts
Shaped m Atom h e ts = Primary m tree.atom h e ts
Shaped m Array h e ts = ArrayCreation m h e ts
Shaped m Loose h e ts = ⊥

-- the greatest height of a shape
abbrev pub room : Rooms → Shape → ℕ
room rooms Target = rooms.target
room rooms Invocation = rooms.invocation
room rooms Atom = rooms.rest
room rooms Array = rooms.rest
room rooms Loose = rooms.rest

-- a part within these rooms
abbrev pub IsPart : Limits → Rooms → Spelling Tall
IsPart l rooms y ts = Shaped l.most y.shape y.height y.expr ts × (y.height ≤ room rooms y.shape)

-- rooms in which what is lower than `top` goes on by a member
pub record HasRoom (top : ℕ) (rooms : Rooms) : Type 0 where
  pub some : 0 < top
  pub goes_on : (top ≤ rooms.invocation) ⊎ (top ≤ rooms.target)

-- how what stands inside is read
pub record ReadsInside (l : Limits) (rooms : Rooms) (e : Inside) : Type 0 where
  pub argument : 1 < rooms.invocation → Reads (IsLevel l 1 (rooms.invocation - 1)) e.argument
  pub index : 1 < rooms.target → Reads (IsLevel l 1 (rooms.target - 1)) e.index
  pub within : 1 < rooms.rest → Reads (IsLevel l 1 (rooms.rest - 1)) e.within
  pub init : 1 < rooms.rest → Reads (IsInit l (rooms.rest - 1)) e.init

-- how each goal is read, at most d high
pub record ReadsExpr (l : Limits) (d : ℕ) (p : Goal → Parser Tall) : Type 0 where
  pub level : (k : ℕ) → k ≤ 13 → Reads (IsLevel l k d) (p (Level k))
  pub target : Reads (IsTarget l d) (p goals.Target)
  pub init : Reads (IsInit l d) (p goals.Init)
  pub after : (x : Tall) (us : List Token) → IsPart l (free d) x us → Reads (λ y vs. IsLevel l 1 d y (us ++ vs)) (p (After x))

tall_primary : {m h : ℕ} {s : tree.Shape} {e : Expr} {ts : List Token} → Primary m s h e ts → 0 < h
tall_primary (tree.literal a) = omega arith
tall_primary (tree.this a) = omega arith
tall_primary (tree.paren a b c) = omega arith
tall_primary (tree.name a) = omega arith
tall_primary (tree.field a b c) = omega arith
tall_primary (tree.index a b c d) = omega arith
tall_primary (tree.call_on a b c d) = omega arith
tall_primary (tree.call a b) = omega arith
tall_primary (tree.super_call a b c d) = omega arith
tall_primary (tree.new a b c) = omega arith

tall_array : {m h : ℕ} {e : Expr} {ts : List Token} → ArrayCreation m h e ts → 0 < h
tall_array (tree.sized a b c d f) = omega arith
tall_array (tree.filled a b c d f) = omega arith

-- an expression is at least 1 high
pub tall_level : {m k h : ℕ} {e : Expr} {ts : List Token} → Expression m k h e ts → 0 < h
tall_level (tree.assign a b c d) = omega arith
tall_level (tree.cond a b c d f g) = omega arith
tall_level (tree.binary a b c d) = omega arith
tall_level (tree.instance_of a b c d) = omega arith
tall_level (tree.prefix a b c) = omega arith
tall_level (tree.step_before a b c) = omega arith
tall_level (tree.cast a b c d f g) = omega arith
tall_level (tree.step_after a b c) = omega arith
tall_level (tree.creation a b) = tall_array b
tall_level (tree.primary a) = tall_primary a

-- a part is at least 1 high
pub tall_part : (m : ℕ) (s : Shape) (h : ℕ) (e : Expr) (ts : List Token) → Shaped m s h e ts → 0 < h
tall_part m Target h e ts p = tall_primary p
tall_part m Invocation h e ts p = tall_primary p
tall_part m Atom h e ts p = tall_primary p
tall_part m Array h e ts p = tall_array p
tall_part m Loose h e ts p = absurd p

-- a dot may follow a part
pub before_dot : (m : ℕ) (s : Shape) (h : ℕ) (e : Expr) (ts : List Token) → Shaped m s h e ts → BeforeDot m h e ts
before_dot m Target h e ts p = tree.primary_before_dot p
before_dot m Invocation h e ts p = tree.primary_before_dot p
before_dot m Atom h e ts p = tree.primary_before_dot p
before_dot m Array h e ts p = tree.array_before_dot p
before_dot m Loose h e ts p = absurd p

-- a part of this level is an expression of each level
pub whole_part : (m k : ℕ) → k ≤ 14 → (s : Shape) (h : ℕ) (e : Expr) (ts : List Token) → Shaped m s h e ts → Expression m k h e ts
whole_part m k low Target h e ts p = tree.primary p
whole_part m k low Invocation h e ts p = tree.primary p
whole_part m k low Atom h e ts p = tree.primary p
whole_part m k low Array h e ts p = tree.creation low p
whole_part m k low Loose h e ts p = absurd p

-- an expression of a level is one of each lower level
pub loosen : {m j k h : ℕ} {e : Expr} {ts : List Token} → k ≤ j → Expression m j h e ts → Expression m k h e ts
loosen low (tree.assign a b c d) = tree.assign (omega arith) b c d
loosen low (tree.cond a b c d f g) = tree.cond (omega arith) b c d f g
loosen low (tree.binary a b c d) = tree.binary (omega arith) b c d
loosen low (tree.instance_of a b c d) = tree.instance_of (omega arith) b c d
loosen low (tree.prefix a b c) = tree.prefix (omega arith) b c
loosen low (tree.step_before a b c) = tree.step_before (omega arith) b c
loosen low (tree.cast a b c d f g) = tree.cast (omega arith) b c d f g
loosen low (tree.step_after a b c) = tree.step_after (omega arith) b c
loosen low (tree.creation a b) = tree.creation (omega arith) b
loosen low (tree.primary a) = tree.primary a

-- the expression `a`
pub some_level : (l : Limits) (k d : ℕ) → 0 < d → Some_of (IsLevel l k d)
some_level l k d p = (made.name a_name.token, a_name.token ∷ [], (tree.primary (tree.name (name_is a_name.token a_name.is)), omega arith))
