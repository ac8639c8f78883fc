-- What the reading of whole statements rests on: the parts and expressions of the grammar are read.
use Rattle.std.proofs.Common.{◌≡◌, ℕ, ◌-◌, ◌≤◌, true, List, ◌++◌, Ok, refl, ◌∙◌, arith}
use Rattle.mol_base.specs.Token.{Token}
use Rattle.jav_tree.specs.declared.expr.Expr.{Expr}
use Rattle.jav_tree.specs.Expressions as tree
use Rattle.jav_tree.specs.Expressions.{Expression, Primary, Arguments, Init}
use Rattle.jav_parse_cursor.specs.declared.limits.Limits.{Limits}
use Rattle.jav_parse_expr.specs.declared.primary.Goal.TheVariants as goals
use Rattle.jav_parse_cursor.specs.declared.sort.Sort.TheVariants as sort
use Rattle.jav_parse_cursor.specs.declared.tall.Shape.{Shape}
use Rattle.jav_parse_cursor.specs.declared.tall.Shape.TheVariants.{Target, Invocation, Atom}
use Rattle.jav_parse_expr.specs.ExprRules.{expr, target, inside}
use Rattle.jav_parse_expr.specs.PrimaryRules.{part, stepping}
use Rattle.jav_parse.proofs.PartSteps.{sized, near_stepping, part_ends}
use Rattle.jav_parse.proofs.ReadingSteps.{Ends, no_link, ends_not}
use Rattle.jav_parse_expr.proofs.AtHeight.{expr_is}
use Rattle.jav_parse.proofs.WholeReadings.{Short, PartRead, ExprRead, ArgumentsRead, InitRead}

-- the shape as the parser has it
abbrev pub shape_of : tree.Shape → Shape
shape_of tree.target = Target
shape_of tree.invocation = Invocation
shape_of tree.atom = Atom

pub record WholeLaws (l : Limits) : Type 0 where
  pub builds : l.builds ≡ true
  pub part : (s : tree.Shape) (h : ℕ) (e : Expr) (ts : List Token) → Primary l.most s h e ts → PartRead l (shape_of s) h e ts
  pub expression : (h : ℕ) (e : Expr) (ts : List Token) → Expression l.most 1 h e ts → ExprRead l 1 h e ts
  pub init : (h : ℕ) (e : Expr) (ts : List Token) → Init l.most h e ts → InitRead l h e ts
  pub arguments : (h : ℕ) (es : List Expr) (ts : List Token) → Arguments l.most h es ts → ArgumentsRead l h es ts

target_goes : (l : Limits) (d : ℕ) (e : Expr) (h : ℕ) (ts rest : List Token) → part l d (stepping d) (inside l (stepping d)) ts ≡ Ok (sized e h Target, rest)
    → target l d (expr l (d - 1)) (expr l (d - 1 - 1)) ts ≡ Ok (sized e h Target, rest)
unfolding target
target_goes l d e h ts rest q = rw q refl

-- the operand of `++` and `--` before it
pub target_read : (l : Limits) → WholeLaws l → (h : ℕ) (e : Expr) (ts : List Token) → Primary l.most tree.target h e ts → (d : ℕ) → h ≤ d → (rest : List Token) → Ends 15 rest → Short l ts rest
    → expr l d goals.Target (ts ++ rest) ≡ Ok (sized e h Target, rest)
target_read l w h e ts p d low rest ends short =
    let x = w.part tree.target h e ts p in
    let some = x.some in
    expr_is l d goals.Target (omega arith) (ts ++ rest)
    ∙ target_goes l d e h (ts ++ rest) rest (part_ends l d (stepping d) (ts ++ rest) (sized e h Target) rest
    (x.reach d (stepping d) (near_stepping d) low rest (ends_not sort.Open 15 rest ends (omega arith)) short) (no_link rest ends))
