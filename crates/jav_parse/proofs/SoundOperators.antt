-- Operators, assignments and choices that are read are in the grammar, and what is refused could have gone on.
use Rattle.std.proofs.Common.{◌≡◌, ℕ, zero, suc, ◌+◌, ◌-◌, ◌<◌, ◌≤◌, max, ◌||◌, ◌&&◌, not, Bool, true, false, List, [], ◌∷◌, ◌++◌, nat_le, nat_lt, if◌then◌else◌, refl, sym, ap, ◌∙◌, subst, append_assoc, arith}
use Rattle.std.proofs.Math.Numerals.{add-one}
use Rattle.std.proofs.lemmas.List.{append-nil}
use Rattle.mol_base.specs.Token.{Token}
use Rattle.jav_tree.specs.declared.expr.Expr.{Expr}
use Rattle.jav_tree.specs.Expressions as tree
use Rattle.jav_tree.specs.Expressions.{Expression, Primary}
use Rattle.jav_parse_cursor.specs.declared.limits.Limits.{Limits}
use Rattle.jav_parse_expr.specs.declared.primary.Goal.{Goal}
use Rattle.jav_parse_cursor.specs.declared.sort.Sort.{Sort}
use Rattle.jav_parse_cursor.specs.declared.sort.Sort.TheVariants as sort
use Rattle.jav_parse_cursor.specs.declared.tall.Shape.{Shape}
use Rattle.jav_parse_cursor.specs.declared.tall.Shape.TheVariants.{Target, Invocation, Atom, Array, Loose}
use Rattle.jav_parse_cursor.specs.declared.tall.Tall.{Tall}
use Rattle.jav_parse_cursor.specs.Nodes as made
use Rattle.jav_parse_cursor.specs.Nodes.{is_target}
use Rattle.jav_parse_expr.specs.PrimaryRules.{free}
use Rattle.jav_parse_cursor.specs.TypeRules.{whole_type}
use Rattle.jav_parse_expr.specs.ExprRules.{level_of, is_assignment, step_after, postfix, assign_to, assignment, instance_of, binary, operation, climb, choice, operators}
use Rattle.jav_parse_cursor.specs.Reading.{Parser, ◌>>=◌, pure}
use Rattle.jav_parse_cursor.specs.Sorts.{sort_of, same_sort}
use Rattle.jav_parse.proofs.Meets.{Spelling, ReadsAt, Reads, reads_pure, reads_refuse, reads_map, reads_bind, reads_made, reads_if, reads_when, reads_where, reads_any, reads_token, reads_expect, reads_peek, reads_peek_at}
use Rattle.jav_parse.proofs.Samples.{a_colon}
use Rattle.jav_parse.proofs.SoundPrimary.{or_false}
use Rattle.jav_parse.proofs.SoundTypes.{reads_whole_type}
use Rattle.jav_parse.proofs.Tests.{le_is, le_not, lt_not}
use Rattle.jav_parse.proofs.TokenSorts.{step_is, assignment_is, instance_of_is, binary_is, question_is, colon_is}
use Rattle.jav_parse.proofs.Within.{IsBuilding, IsLevel, IsPart, Shaped, room, ReadsExpr, whole_part, loosen, tall_level}
use Rattle.jav_parse.proofs.Written.{is_same}

-- what operators may follow: a part, or an expression of level 13
abbrev pub Operand : ℕ → Shape → ℕ → Expr → List Token → Type 0
Operand m Loose h e ts = Expression m 13 h e ts
Operand m s h e ts = Shaped m s h e ts

-- an operand, at most d high
abbrev pub IsOperand : Limits → ℕ → Spelling Tall
IsOperand l d y ts = Operand l.most y.shape y.height y.expr ts × (y.height ≤ d)

operand_of : (m : ℕ) (s : Shape) (h : ℕ) (e : Expr) (ts : List Token) → Shaped m s h e ts → Operand m s h e ts
operand_of m Loose h e ts p = absurd p
operand_of m s h e ts p = p

free_room : (d : ℕ) (s : Shape) → room (free d) s ≡ d
free_room d Target = refl
free_room d Invocation = refl
free_room d Atom = refl
free_room d Array = refl
free_room d Loose = refl

-- a part is an operand
pub part_operand : (l : Limits) (d : ℕ) (y : Tall) (ts : List Token) → IsPart l (free d) y ts → IsOperand l d y ts
part_operand l d y ts h = (operand_of l.most y.shape y.height y.expr ts h.0, subst (λ r. y.height ≤ r) (free_room d y.shape) h.1)

-- an operand is an expression of each level up to 13
pub whole_operand : (m k : ℕ) → k ≤ 13 → (s : Shape) (h : ℕ) (e : Expr) (ts : List Token) → Operand m s h e ts → Expression m k h e ts
whole_operand m k low Loose h e ts p = loosen low p
whole_operand m k low s h e ts p = whole_part m k (omega arith) s h e ts p

pub target_part : (m : ℕ) (s : Shape) (h : ℕ) (e : Expr) (ts : List Token) → not (is_target s) ≡ false → Shaped m s h e ts → Primary m tree.target h e ts
target_part m Target h e ts b p = p
target_part m s h e ts b p = absurd (cc)

pub not_target : (s : Shape) → is_target s ≡ true → not (is_target s) ≡ false
not_target s b = rw b refl

target_operand : (m : ℕ) (s : Shape) (h : ℕ) (e : Expr) (ts : List Token) → is_target s ≡ true → Operand m s h e ts → Primary m tree.target h e ts
target_operand m Target h e ts b p = p
target_operand m s h e ts b p = absurd (cc)

and_true : (a b : Bool) → (a && b) ≡ true → (a ≡ true) × (b ≡ true)
and_true true b h = (refl, h)
and_true false b h = absurd (cc)

pub no_assignment : (s : Sort) → is_assignment s ≡ true → sort.End ≡ s → ⊥
no_assignment s h e = let k = subst (λ u. is_assignment u ≡ true) (sym e) h in cc

no_level : (s : Sort) → 0 < level_of s → sort.End ≡ s → ⊥
no_level s h e = let k : 0 < 0 = subst (λ u. 0 < level_of u) (sym e) h in omega arith

-- the loosest operators between two operands are of level 3
level_three : (s : Sort) → 0 < level_of s → 3 ≤ level_of s
level_three sort.Or h = omega arith
level_three sort.And h = omega arith
level_three sort.BitOr h = omega arith
level_three sort.Xor h = omega arith
level_three sort.BitAnd h = omega arith
level_three sort.Equality h = omega arith
level_three sort.Relation h = omega arith
level_three sort.InstanceOf h = omega arith
level_three sort.Shift h = omega arith
level_three sort.Sign h = omega arith
level_three sort.Product h = omega arith
level_three s h = absurd (omega arith)

module _ (l : Limits) (good : IsBuilding l) (top : ℕ) (once twice : Goal → Parser Tall) (one : 0 < top - 1 → ReadsExpr l (top - 1) once) where
  -- ---- `++` and `--` after a part

  pub reads_postfix : (x : Tall) (front : List Token) → IsPart l (free top) x front → Reads (λ y vs. IsOperand l top y (front ++ vs)) (postfix l top once twice x)
  unfolding postfix step_after
  reads_postfix x front h =
      let same : IsOperand l top x (front ++ []) = rw append-nil (part_operand l top x front h) in
      reads_when sort.Step
      (reads_if (not (is_target x.shape) || nat_le top x.height) (λ b. reads_refuse (x, [], same))
      (λ b. let k = or_false (not (is_target x.shape)) (nat_le top x.height) b in let low = le_not top x.height k.1 in
      reads_token (λ z. cc) (λ op ho. reads_pure (made.stepped x op)
      (rw add-one (tree.step_after {level = 13} (omega arith) (target_part l.most x.shape x.height x.expr front k.0 h.0) (step_is op ho)), omega arith))))
      (reads_pure x same)

  -- ---- assignments

  pub reads_assignment : (k : ℕ) → k ≤ 1 → (x : Tall) (front : List Token) → Primary l.most tree.target x.height x.expr front → x.height ≤ top → (s : Sort) → is_assignment s ≡ true
      → ReadsAt (λ y vs. IsLevel l k top y (front ++ vs)) (λ u. u ≡ s) (assignment l top once twice x)
  unfolding assignment assign_to
  reads_assignment k low x front p tall s a = reads_if (nat_le top x.height)
      (λ b. reads_refuse (x, [], rw append-nil (tree.primary p, tall)))
      (λ b. let below = le_not top x.height b in let some = tall_level {k = 1} (tree.primary p) in
      reads_token (no_assignment s a) (λ op ho. reads_made (λ y. made.assigned x op y) ((one (omega arith)).level 1 (omega arith))
      (λ y us hy. (rw add-one (tree.assign low p (assignment_is op s ho a) hy.0), let t = hy.1 in omega arith))))

  -- ---- operators between two operands

  instance_level : (x : Tall) (front : List Token) → Expression l.most 9 x.height x.expr front → x.height < top → (word : Token) → sort_of word ≡ sort.InstanceOf
      → Reads (λ y vs. IsLevel l 9 top y (front ++ (word ∷ vs))) (whole_type l >>= (λ to. pure (made.tested x to)))
  instance_level x front p low word hw = reads_made (λ to. made.tested x to) (reads_whole_type l good.builds)
      (λ to us ht. (rw add-one (tree.instance_of {level = 9} (omega arith) p (instance_of_is word hw) ht), omega arith))

  reads_instance_of : (s : Sort) → s ≡ sort.InstanceOf → (x : Tall) (front : List Token) → Expression l.most (level_of s) x.height x.expr front → x.height < top
      → ReadsAt (λ y vs. IsLevel l (level_of s) top y (front ++ vs)) (λ u. u ≡ s) (instance_of l top once twice x)
  unfolding instance_of
  reads_instance_of s is x front p low =
      let nine = subst (λ u. Expression l.most (level_of u) x.height x.expr front) is p in
      reads_where (reads_map {F = λ y vs. IsLevel l 9 top y (front ++ vs)} (reads_token {s = sort.InstanceOf} (λ z. cc) (λ word hw. instance_level x front nine low word hw))
      (λ y vs k. subst (λ u. IsLevel l (level_of u) top y (front ++ vs)) (sym is) k)) (λ u e. e ∙ is)

  reads_binary : (s : Sort) → same_sort s sort.InstanceOf ≡ false → 0 < level_of s → level_of s ≤ 12 → (x : Tall) (front : List Token) → Expression l.most (level_of s) x.height x.expr front → x.height < top
      → ReadsAt (λ y vs. IsLevel l (level_of s) top y (front ++ vs)) (λ u. u ≡ s) (binary l top once twice x (level_of s))
  unfolding binary
  reads_binary s other some few x front p low =
      let tall = tall_level p in
      reads_token (no_level s some) (λ op ho. reads_made (λ y. made.joined x op y) ((one (omega arith)).level (level_of s + 1) (omega arith))
      (λ y us hy. let right : Expression l.most (suc (level_of s)) y.height y.expr us = rw add-one at hy.0 in
      (rw add-one (tree.binary {level = level_of s} {own = level_of s} (omega arith) (binary_is op s ho other some) p right), let t = hy.1 in omega arith)))

  reads_operation : (s : Sort) → 0 < level_of s → level_of s ≤ 12 → (x : Tall) (front : List Token) → Expression l.most (level_of s) x.height x.expr front → x.height ≤ top
      → ReadsAt (λ y vs. IsLevel l (level_of s) top y (front ++ vs)) (λ u. u ≡ s) (operation l top once twice x (level_of s))
  unfolding operation
  reads_operation s some few x front p tall = reads_if (nat_le top x.height)
      (λ b. reads_refuse (x, [], rw append-nil (p, tall)))
      (λ b. let low = le_not top x.height b in
      reads_peek_at (λ u e. reads_where (reads_if (same_sort u sort.InstanceOf)
      (λ c. reads_instance_of s (sym e ∙ is_same u sort.InstanceOf c) x front p low)
      (λ c. reads_binary s (ap (λ w. same_sort w sort.InstanceOf) (sym e) ∙ c) some few x front p low)) (λ v z. z ∙ e)))

  -- operators of the level `least` and tighter ones are of the level `floor`
  reads_climb : (n least cap floor : ℕ) → 0 < least → cap ≤ 12 → ((s : Sort) → least ≤ level_of s → floor ≤ level_of s) → (x : Tall) (front : List Token)
      → Expression l.most cap x.height x.expr front → Expression l.most floor x.height x.expr front → x.height ≤ top
      → Reads (λ y vs. IsLevel l floor top y (front ++ vs)) (climb l top once twice n least cap x)
  unfolding climb
  reads_climb zero least cap floor some few up x front p q tall = reads_pure x (rw append-nil (q, tall))
  reads_climb (suc n) least cap floor some few up x front p q tall = reads_peek (λ s. reads_if (nat_lt (level_of s) least || nat_lt cap (level_of s))
      (λ b. reads_pure x (rw append-nil (q, tall)))
      (λ b. let k = or_false (nat_lt (level_of s) least) (nat_lt cap (level_of s)) b in
      let above = lt_not (level_of s) least k.0 in let below = lt_not cap (level_of s) k.1 in
      reads_bind (reads_operation s (omega arith) (omega arith) x front (loosen below p) tall)
      (λ y us h. reads_map (reads_climb n least (level_of s) floor some (omega arith) up y (front ++ us) h.0 (loosen (up s above) h.0) h.1) (λ z ws j. rw append_assoc at j))))

  -- ---- choices

  chosen_level : (k : ℕ) → k ≤ 2 → (x : Tall) (front : List Token) → Expression l.most 3 x.height x.expr front → x.height < top → (question colon : Token) → sort_of question ≡ sort.Question
      → sort_of colon ≡ sort.Colon → (y : Tall) (us : List Token) → IsLevel l 1 (top - 1) y us → (z : Tall) (vs : List Token) → IsLevel l 2 (top - 1) z vs
      → IsLevel l k top (made.chosen x y z) (front ++ (question ∷ (us ++ (colon ∷ vs))))
  chosen_level k low x front p below question colon hq hc y us hy z vs hz =
      (rw add-one (tree.cond low p (question_is question hq) hy.0 (colon_is colon hc) hz.0), let a = hy.1 in let b = hz.1 in omega arith)

  reads_choice : (k : ℕ) → k ≤ 2 → (x : Tall) (front : List Token) → IsLevel l 3 top x front → ReadsAt (λ y vs. IsLevel l k top y (front ++ vs)) (λ u. u ≡ sort.Question) (choice l top once twice x)
  unfolding choice
  reads_choice k low x front h = reads_if (nat_le top x.height)
      (λ b. reads_refuse (x, [], rw append-nil (loosen (omega arith) h.0, h.1)))
      (λ b. let below = le_not top x.height b in let some = tall_level h.0 in let next = one (omega arith) in
      reads_token (λ z. cc) (λ question hq. reads_bind (next.level 1 (omega arith)) (λ y us hy. reads_expect a_colon (λ colon hc.
      reads_made (λ z. made.chosen x y z) (next.level 2 (omega arith)) (λ z vs hz. chosen_level k low x front h.0 below question colon hq hc y us hy z vs hz)))))

  end_of_operators : (k : ℕ) → k ≤ 13 → (x : Tall) (front : List Token) → IsLevel l (max k 3) top x front → (u : Sort)
      → ReadsAt (λ y vs. IsLevel l k top y (front ++ vs)) (λ v. v ≡ u) (if nat_le k 2 && same_sort u sort.Question then choice l top once twice x else pure x)
  end_of_operators k few x front h u = reads_if (nat_le k 2 && same_sort u sort.Question)
      (λ b. let c = and_true (nat_le k 2) (same_sort u sort.Question) b in
      reads_where (reads_choice k (le_is k 2 c.0) x front (loosen (omega arith) h.0, h.1)) (λ v e. e ∙ is_same u sort.Question c.1))
      (λ b. reads_pure x (rw append-nil (loosen (omega arith) h.0, h.1)))

  pub reads_operators : (k : ℕ) → k ≤ 13 → (x : Tall) (front : List Token) → IsOperand l top x front → Reads (λ y vs. IsLevel l k top y (front ++ vs)) (operators l top once twice k x)
  unfolding operators
  reads_operators k few x front h = reads_peek (λ s. reads_if (nat_le k 1 && (is_target x.shape && is_assignment s))
      (λ b. let c = and_true (nat_le k 1) (is_target x.shape && is_assignment s) b in let d = and_true (is_target x.shape) (is_assignment s) c.1 in
      reads_assignment k (le_is k 1 c.0) x front (target_operand l.most x.shape x.height x.expr front d.0 h.0) h.1 s d.1)
      (λ b. reads_any (reads_bind (reads_climb top (max k 1) 12 (max k 3) (omega arith) (omega arith) (λ u low. let t = level_three u (omega arith) in omega arith) x front
      (whole_operand l.most 12 (omega arith) x.shape x.height x.expr front h.0) (whole_operand l.most (max k 3) (omega arith) x.shape x.height x.expr front h.0) h.1)
      (λ y us j. reads_map {F = λ z vs. IsLevel l k top z ((front ++ us) ++ vs)} (reads_peek (end_of_operators k few y (front ++ us) j)) (λ z ws i. rw append_assoc at i)))))
