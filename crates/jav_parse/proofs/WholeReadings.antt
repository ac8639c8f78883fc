-- What it is that an expression of the grammar is read, within each height and whatever follows.
use Rattle.std.proofs.Common.{◌≡◌, ◌⊎◌, inl, inr, ℕ, zero, suc, ◌+◌, ◌-◌, ◌<◌, ◌≤◌, min, max, true, false, List, ◌∷◌, ◌++◌, length, Ok, ap, ◌∙◌, arith}
use Rattle.mol_base.specs.Token.{Token}
use Rattle.jav_tree.specs.declared.types.TypeName.{TypeName}
use Rattle.jav_tree.specs.declared.expr.Expr.{Expr}
use Rattle.jav_tree.specs.Tokens.{start_of}
use Rattle.jav_parse_cursor.specs.declared.limits.Limits.{Limits}
use Rattle.jav_parse_expr.specs.declared.primary.Goal.TheVariants.{Level, Init}
use Rattle.jav_parse_expr.specs.declared.primary.Rooms.{Rooms}
use Rattle.jav_parse_cursor.specs.declared.sort.Sort.{Sort}
use Rattle.jav_parse_cursor.specs.declared.sort.Sort.TheVariants as sort
use Rattle.jav_parse_cursor.specs.declared.tall.Shape.{Shape}
use Rattle.jav_parse_cursor.specs.declared.tall.Shape.TheVariants.{Array}
use Rattle.jav_parse_cursor.specs.declared.tall.Tall.{Tall}
use Rattle.jav_parse_cursor.specs.declared.tall.Listed.{Listed}
use Rattle.jav_parse_expr.specs.ExprRules.{level_of, is_assignment, climb, operand, operators, level, expr, inside}
use Rattle.jav_parse_expr.specs.PrimaryRules as rule
use Rattle.jav_parse_expr.specs.PrimaryRules.{arguments, items, further_sizes}
use Rattle.jav_parse_cursor.specs.Reading.{and_then, sort as next}
use Rattle.jav_parse_cursor.specs.Sorts.{same_sort, sort_of}
use Rattle.jav_parse.proofs.FirstTokens.{Begins}
use Rattle.jav_parse.proofs.ListSteps.{joined, first_argument, first_item}
use Rattle.jav_parse.proofs.OperatorSteps.{climb_stops, operators_climb, chosen_after, chosen_ends, no_assignment}
use Rattle.jav_parse.proofs.PartSteps.{sized, room, Near, ReachesPart}
use Rattle.jav_parse.proofs.ReadingSteps.{IsNot, Ends, ends_level}
use Rattle.jav_parse_expr.proofs.AtHeight.{expr_is}

-- Limits within which trees are made.
pub record Builds (l : Limits) : Type 0 where
  pub built : l.builds ≡ true

-- there are more turns than tokens
abbrev pub Short : Limits → List Token → List Token → Type 0
Short l ts rest = length ts + length rest < l.turns

-- what may follow a part: no call of a name, and no index of an array creation
abbrev pub Follows : Shape → List Token → Type 0
Follows Array rest = IsNot sort.Left rest
Follows s rest = IsNot sort.Open rest

-- a part is read
pub record PartRead (l : Limits) (s : Shape) (h : ℕ) (e : Expr) (ts : List Token) : Type 0 where
  pub some : 0 < h
  pub reach : (top : ℕ) (rooms : Rooms) → Near top rooms → h ≤ room rooms s → (rest : List Token) → Follows s rest → Short l ts rest
      → ReachesPart l top rooms (ts ++ rest) (sized e h s) rest

-- a part before a dot
pub record DottedRead (l : Limits) (h : ℕ) (e : Expr) (ts : List Token) : Type 0 where
  pub shape : Shape
  pub part : PartRead l shape h e ts

-- how far reading operators has come: to x, whose last operator is of the level `cap`, before these tokens
pub record Climbing (l : Limits) (top least : ℕ) (ts : List Token) (x : Tall) (cap : ℕ) (rest : List Token) : Type 0 where
  pub first : Tall
  pub mid : List Token
  pub operand_is : operand l top (expr l (top - 1)) (expr l (top - 1 - 1)) ts ≡ Ok (first, mid)
  pub plain : is_assignment (next rest) ≡ false → is_assignment (next mid) ≡ false
  pub turns : ℕ
  pub enough : top ≤ turns + x.height
  pub same : climb l top (expr l (top - 1)) (expr l (top - 1 - 1)) top least 12 first mid ≡ climb l top (expr l (top - 1)) (expr l (top - 1 - 1)) turns least cap x rest

-- operands with operators of the levels 3 to 12 between them, the last of the level `cap`; 12 where there is none
pub record Climbs (l : Limits) (level h : ℕ) (e : Expr) (s : Shape) (ts : List Token) : Type 0 where
  pub cap : ℕ
  pub tight : min level 12 ≤ cap
  pub high : cap ≤ 12
  pub reach : (top : ℕ) → h ≤ top → (least : ℕ) → least ≤ level → (rest : List Token) → Ends (suc cap) rest → Short l ts rest → Climbing l top least (ts ++ rest) (sized e h s) cap rest

-- an assignment or a choice
abbrev pub LooseRead : Limits → ℕ → ℕ → Expr → Shape → List Token → Type 0
LooseRead l level h e s ts = (top : ℕ) → h ≤ top → (rest : List Token) → Ends level rest → Short l ts rest → expr l top (Level level) (ts ++ rest) ≡ Ok (sized e h s, rest)

pub record ExprRead (l : Limits) (level h : ℕ) (e : Expr) (ts : List Token) : Type 0 where
  pub some : 0 < h
  pub begins : (rest : List Token) → Begins (next (ts ++ rest))
  pub shape : Shape
  pub form : Climbs l level h e shape ts ⊎ ((level ≤ 2) × LooseRead l level h e shape ts)

pub record ArgumentsRead (l : Limits) (h : ℕ) (args : List Expr) (ts : List Token) : Type 0 where
  pub opens : (rest : List Token) → next (ts ++ rest) ≡ sort.Open
  pub read : (room : ℕ) → h < room → (rest : List Token) → Short l ts rest → arguments l.most room (expr l (room - 1) (Level 1)) (ts ++ rest) ≡ Ok (record { exprs = args; height = h }, rest)

pub record ListedRead (l : Limits) (h : ℕ) (es : List Expr) (ts : List Token) : Type 0 where
  pub some : 0 < h
  pub one : 0 < length es
  pub begins : (rest : List Token) → Begins (next (ts ++ rest))
  pub read : (d n : ℕ) (all : Listed) (rest : List Token) → h ≤ d → length es ≤ suc n → Ends 1 rest → Short l ts rest
      → first_argument (expr l d (Level 1)) n all (ts ++ rest) ≡ rule.further_arguments (expr l d (Level 1)) (suc n - length es) (joined all es h) rest

-- a first value begins with no such token
abbrev pub Apart : List Token → Type 0
Apart ts = (s : Sort) → (Begins s → ⊥) → same_sort sort.Begin s ≡ false → (rest : List Token) → IsNot s (ts ++ rest)

pub record InitRead (l : Limits) (h : ℕ) (e : Expr) (ts : List Token) : Type 0 where
  pub some : 0 < h
  pub apart : Apart ts
  pub shape : Shape
  pub read : (d : ℕ) (rest : List Token) → h ≤ d → Ends 1 rest → Short l ts rest → expr l d Init (ts ++ rest) ≡ Ok (sized e h shape, rest)

pub record ItemsRead (l : Limits) (h : ℕ) (es : List Expr) (ts : List Token) : Type 0 where
  pub opens : (rest : List Token) → next (ts ++ rest) ≡ sort.Begin
  pub start : (rest : List Token) → start_of (ts ++ rest) ≡ start_of ts
  pub read : (room : ℕ) → h < room → (rest : List Token) → Short l ts rest → items l.turns room (expr l (room - 1) Init) (ts ++ rest) ≡ Ok (record { exprs = es; height = h }, rest)

pub record InitsRead (l : Limits) (h : ℕ) (es : List Expr) (ts : List Token) : Type 0 where
  pub some : 0 < h
  pub few : length es ≤ length ts
  pub one : 0 < length es
  pub apart : Apart ts
  pub read : (d n : ℕ) (all : Listed) (rest : List Token) → h ≤ d → length es ≤ suc n → Ends 1 rest → Short l ts rest
      → first_item (expr l d Init) n all (ts ++ rest) ≡ rule.further_items (expr l d Init) (suc n - length es) (joined all es h) rest

pub record SizesRead (l : Limits) (h : ℕ) (sizes : List Expr) (ts : List Token) : Type 0 where
  pub some : 0 < h
  pub one : 0 < length sizes
  pub opens : (rest : List Token) → (left : Token) × (us : List Token) × (ts ++ rest ≡ left ∷ us) × (sort_of left ≡ sort.Left) × IsNot sort.Right us
  pub read : (top : ℕ) (rooms : Rooms) (at : ℕ) (base : TypeName) (n k : ℕ) (all : Listed) (rest : List Token) → h < rooms.rest → length sizes ≤ n → Short l ts rest
      → further_sizes l top rooms (inside l rooms) at base n k all (ts ++ rest) ≡ further_sizes l top rooms (inside l rooms) at base (n - length sizes) (k + length sizes) (joined all sizes h) rest

-- ---- whole expressions

level_is : (l : Limits) (top k : ℕ) (ts : List Token) (first x : Tall) (mid rest : List Token) → operand l top (expr l (top - 1)) (expr l (top - 1 - 1)) ts ≡ Ok (first, mid)
    → operators l top (expr l (top - 1)) (expr l (top - 1 - 1)) k first mid ≡ Ok (x, rest) → level l top (expr l (top - 1)) (expr l (top - 1 - 1)) k ts ≡ Ok (x, rest)
unfolding level
level_is l top k ts first x mid rest h q = rw h q

-- from an operand and what goes on from it
pub level_read : (l : Limits) (top k : ℕ) (ts : List Token) (first x : Tall) (mid rest : List Token) → 0 < top → operand l top (expr l (top - 1)) (expr l (top - 1 - 1)) ts ≡ Ok (first, mid)
    → operators l top (expr l (top - 1)) (expr l (top - 1 - 1)) k first mid ≡ Ok (x, rest) → expr l top (Level k) ts ≡ Ok (x, rest)
level_read l top k ts first x mid rest some h q = expr_is l top (Level k) some ts ∙ level_is l top k ts first x mid rest h q

-- the operators that were read, up to what follows them
pub climbed : (l : Limits) (top k : ℕ) (ts : List Token) (x : Tall) (cap : ℕ) (rest : List Token) (r : Tall × List Token) → (c : Climbing l top (max k 1) ts x cap rest) → 0 < top
    → level_of (next rest) < max k 1 → (is_assignment (next (c.mid)) ≡ false) ⊎ (1 < k) → chosen_after l top (expr l (top - 1)) (expr l (top - 1 - 1)) k x rest ≡ Ok r
    → expr l top (Level k) ts ≡ Ok r
climbed l top k ts x cap rest r c some stops plain h =
    level_read l top k ts c.first r.0 c.mid r.1 some c.operand_is
    (operators_climb l top (expr l (top - 1)) (expr l (top - 1 - 1)) k c.first c.mid plain
    ∙ ap (λ o. and_then o (chosen_after l top (expr l (top - 1)) (expr l (top - 1 - 1)) k)) (c.same ∙ climb_stops l top (expr l (top - 1)) (expr l (top - 1 - 1)) c.turns (max k 1) cap x rest stops)
    ∙ h)

plain_at : (k : ℕ) (rest mid : List Token) → Ends k rest → (is_assignment (next rest) ≡ false → is_assignment (next mid) ≡ false) → (is_assignment (next mid) ≡ false) ⊎ (1 < k)
plain_at zero rest mid h p = absurd (omega arith)
plain_at (suc zero) rest mid h p = inl (p (no_assignment rest h))
plain_at (suc (suc k)) rest mid h p = inr (omega arith)

climbs_whole : (l : Limits) (level h : ℕ) (e : Expr) (s : Shape) (ts : List Token) → 0 < h → Climbs l level h e s ts → level ≤ 13 → LooseRead l level h e s ts
climbs_whole l level h e s ts some c low top fits rest ends short =
    let t = c.tight in let z = c.high in
    let k : max level 1 ≡ level = omega arith in
    let r = c.reach top fits (max level 1) (omega arith) rest (omega arith) short in
    let stops = ends_level level rest ends in
    climbed l top level (ts ++ rest) (sized e h s) c.cap rest (sized e h s, rest) r (omega arith) (omega arith) (plain_at level rest r.mid ends r.plain)
    (chosen_ends l top (expr l (top - 1)) (expr l (top - 1 - 1)) level (sized e h s) rest ends)

form_whole : (l : Limits) (level h : ℕ) (e : Expr) (s : Shape) (ts : List Token) → 0 < h → Climbs l level h e s ts ⊎ ((level ≤ 2) × LooseRead l level h e s ts) → level ≤ 13 → LooseRead l level h e s ts
form_whole l level h e s ts some (inl c) low = climbs_whole l level h e s ts some c low
form_whole l level h e s ts some (inr x) low = x.1

-- an expression is read whole where no operator of its level follows
pub whole : {l : Limits} {level h : ℕ} {e : Expr} {ts : List Token} → (x : ExprRead l level h e ts) → level ≤ 13 → LooseRead l level h e x.shape ts
whole {l} {level} {h} {e} {ts} x low = form_whole l level h e x.shape ts x.some x.form low

form_climbs : {l : Limits} {level h : ℕ} {e : Expr} {s : Shape} {ts : List Token} → 3 ≤ level → Climbs l level h e s ts ⊎ ((level ≤ 2) × LooseRead l level h e s ts) → Climbs l level h e s ts
form_climbs low (inl c) = c
form_climbs low (inr x) = absurd (let z = x.0 in omega arith)

pub climbs : {l : Limits} {level h : ℕ} {e : Expr} {ts : List Token} → (x : ExprRead l level h e ts) → 3 ≤ level → Climbs l level h e x.shape ts
climbs x low = form_climbs low x.form
