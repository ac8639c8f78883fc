-- Expressions that are read are in the grammar, within their height, and what is refused could have gone on up to the bad token.
use Rattle.std.proofs.Common.{◌≡◌, inr, ℕ, zero, suc, ◌-◌, ◌<◌, ◌≤◌, true, false, if◌then◌else◌, List, [], ◌∷◌, ◌++◌, nat_le, refl, subst, append_assoc, arith}
use Rattle.std.proofs.Math.Numerals.{add-one}
use Rattle.std.proofs.lemmas.List.{append-nil}
use Rattle.mol_base.specs.Token.{Token}
use Rattle.jav_tree.specs.Operators.{IsPrefix, IsStep}
use Rattle.jav_tree.specs.declared.expr.Expr.{Expr}
use Rattle.jav_tree.specs.Expressions as tree
use Rattle.jav_tree.specs.Expressions.{Expression, Init, Items, expr_at}
use Rattle.jav_parse_cursor.specs.declared.limits.Limits.{Limits}
use Rattle.jav_parse_expr.specs.declared.primary.Goal.{Goal}
use Rattle.jav_parse_expr.specs.declared.primary.Goal.TheVariants as goals
use Rattle.jav_parse_expr.specs.declared.primary.Rooms.{Rooms}
use Rattle.jav_parse_cursor.specs.declared.sort.Sort.{Sort}
use Rattle.jav_parse_cursor.specs.declared.sort.Sort.TheVariants as sort
use Rattle.jav_parse_cursor.specs.declared.tall.Shape.{Shape}
use Rattle.jav_parse_cursor.specs.declared.tall.Shape.TheVariants.{Target}
use Rattle.jav_parse_cursor.specs.declared.tall.Tall.{Tall}
use Rattle.jav_parse_cursor.specs.declared.tall.Listed.{Listed}
use Rattle.jav_parse_cursor.specs.Nodes as made
use Rattle.jav_parse_cursor.specs.Nodes.{is_target}
use Rattle.jav_parse_expr.specs.PrimaryRules.{free, stepping, part}
use Rattle.jav_parse_expr.specs.ExprRules.{inside_by, inside, postfix, prefixed, operand_by, operand, level, after, target, init, asked, expr}
use Rattle.jav_parse_cursor.specs.Reading.{Parser, ◌>>=◌, pure, refuse}
use Rattle.jav_parse_cursor.specs.Sorts.{sort_of}
use Rattle.jav_parse.proofs.Meets.{Spelling, Some_of, ReadsAt, Reads, reads_pure, reads_refuse, reads_map, reads_bind, reads_made, reads_if, reads_when, reads_token, reads_peek, reads_place}
use Rattle.jav_parse.proofs.Samples.{a_name, a_dot}
use Rattle.jav_parse.proofs.SoundCasts.{free_rooms, free_inside, reads_opened}
use Rattle.jav_parse.proofs.SoundLists.{reads_items}
use Rattle.jav_parse.proofs.SoundOperators.{IsOperand, reads_postfix, reads_operators, not_target, target_part}
use Rattle.jav_parse.proofs.SoundPrimary.{reads_chain, reads_part}
use Rattle.jav_parse.proofs.Tests.{le_not}
use Rattle.jav_parse.proofs.TokenSorts.{name_is, dot_is, sign_is, not_is, step_is}
use Rattle.jav_parse.proofs.Within.{IsBuilding, IsLevel, IsTarget, IsInit, AreItems, IsPart, room, ReadsInside, ReadsExpr, before_dot, some_level}

-- what is no target has one less room under `++`
stepping_low : (d : ℕ) (s : Shape) → is_target s ≡ false → room (stepping d) s ≡ d - 1
stepping_low d Target b = absurd (cc)
stepping_low d s b = refl

stepping_high : (d : ℕ) (s : Shape) → is_target s ≡ true → room (stepping d) s ≡ d
stepping_high d Target b = refl
stepping_high d s b = absurd (cc)

no_tokens : {m h : ℕ} {es : List Expr} {ts : List Token} → Items m h es ts → ts ≡ [] → ⊥
no_tokens (tree.no_items a b) e = cc
no_tokens (tree.some_items a b c) e = cc
no_tokens (tree.items_comma a b c d) e = cc

module _ (l : Limits) (good : IsBuilding l) (top : ℕ) (some : 0 < top) (once twice : Goal → Parser Tall) (one : 0 < top - 1 → ReadsExpr l (top - 1) once) (two : 0 < top - 1 - 1 → ReadsExpr l (top - 1 - 1) twice) where
  some_operand : Some_of (IsOperand l top)
  some_operand = (made.name a_name.token, a_name.token ∷ [], (tree.name (name_is a_name.token a_name.is), omega arith))

  reads_prefixed : (s : Sort) → (sort.End ≡ s → ⊥) → (goal : Goal) (R : Spelling Tall) → (0 < top - 1 → Reads R (once goal))
      → ((op : Token) → sort_of op ≡ s → (x : Tall) (us : List Token) → R x us → 1 < top → IsOperand l top (made.unary op x) (op ∷ us)) → ReadsAt (IsOperand l top) (λ u. u ≡ s) (prefixed l top once twice goal)
  unfolding prefixed
  reads_prefixed s n goal R h step = reads_if (nat_le top 1) (λ b. reads_refuse some_operand) (λ b. let high = le_not top 1 b in
      reads_token n (λ op ho. reads_made (λ x. made.unary op x) (h (omega arith)) (λ x us hx. step op ho x us hx high)))

  prefix_operand : (op : Token) → IsPrefix op → (x : Tall) (us : List Token) → IsLevel l 13 (top - 1) x us → 1 < top → IsOperand l top (made.unary op x) (op ∷ us)
  prefix_operand op ho x us hx high = (rw add-one (tree.prefix {level = 13} (omega arith) ho hx.0), let a = hx.1 in omega arith)

  step_operand : (op : Token) → IsStep op → (x : Tall) (us : List Token) → IsTarget l (top - 1) x us → 1 < top → IsOperand l top (made.unary op x) (op ∷ us)
  step_operand op ho x us hx high = (rw add-one (tree.step_before {level = 13} (omega arith) ho hx.0), let a = hx.1 in omega arith)

  -- a part, and `++` or `--` after it
  reads_stepped : {P : Sort → Type 0} → ReadsAt (IsOperand l top) P (part l top (free top) (inside_by once once once) >>= postfix l top once twice)
  reads_stepped = reads_bind (reads_part l good top (free top) (free_rooms top some) (inside_by once once once) (free_inside l top once one))
      (λ x us h. reads_postfix l good top once twice one x us h)

  reads_operand_by : (s : Sort) → ReadsAt (IsOperand l top) (λ u. u ≡ s) (operand_by l top once twice s)
  reads_operand_by sort.Sign = reads_prefixed sort.Sign (λ z. cc) (goals.Level 13) (IsLevel l 13 (top - 1)) (λ p. (one p).level 13 (omega arith)) (λ op ho x us hx high. prefix_operand op (sign_is op ho) x us hx high)
  reads_operand_by sort.Not = reads_prefixed sort.Not (λ z. cc) (goals.Level 13) (IsLevel l 13 (top - 1)) (λ p. (one p).level 13 (omega arith)) (λ op ho x us hx high. prefix_operand op (not_is op ho) x us hx high)
  reads_operand_by sort.Step = reads_prefixed sort.Step (λ z. cc) goals.Target (IsTarget l (top - 1)) (λ p. (one p).target) (λ op ho x us hx high. step_operand op (step_is op ho) x us hx high)
  reads_operand_by sort.Open = reads_if (nat_le top 1) (λ b. reads_refuse some_operand)
      (λ b. let high = le_not top 1 b in reads_opened l good top high once twice (one (omega arith)) two)
  reads_operand_by s = reads_stepped

  reads_level : {P : Sort → Type 0} → (k : ℕ) → k ≤ 13 → ReadsAt (IsLevel l k top) P (level l top once twice k)
  unfolding level operand
  reads_level k few = reads_bind (reads_peek reads_operand_by) (λ x us h. reads_operators l good top once twice one k few x us h)

  reads_after : (x : Tall) (front : List Token) → IsPart l (free top) x front → Reads (λ y vs. IsLevel l 1 top y (front ++ vs)) (after l top once twice x)
  unfolding after
  reads_after x front h = reads_bind (reads_bind (reads_chain l good top (free top) (free_rooms top some) (inside_by once once once) (free_inside l top once one) top x front h)
      (λ y us k. reads_map {S = λ z vs. IsOperand l top z (front ++ (us ++ vs))} (reads_postfix l good top once twice one y (front ++ us) k) (λ z ws j. rw append_assoc at j)))
      (λ y us k. reads_map (reads_operators l good top once twice one 1 (omega arith) y (front ++ us) k) (λ z ws j. rw append_assoc at j))

  -- ---- the operand of `++` and `--`

  stepping_inside : ReadsInside l (stepping top) (inside_by twice once twice)
  stepping_inside = record {
    argument = λ q. (two (omega arith)).level 1 (omega arith);
    index = λ q. (one (omega arith)).level 1 (omega arith);
    within = λ q. (two (omega arith)).level 1 (omega arith);
    init = λ q. (two (omega arith)).init;
  }

  -- a part with room under `++` is a target, or goes on to a field
  reads_end_of_target : (x : Tall) (us : List Token) → IsPart l (stepping top) x us → Reads (λ y vs. IsTarget l top y (us ++ vs)) (if is_target x.shape then pure x else refuse)
  reads_end_of_target x us h = reads_if (is_target x.shape)
      (λ b. reads_pure x (rw append-nil (target_part l.most x.shape x.height x.expr us (not_target x.shape b) h.0, subst (λ r. x.height ≤ r) (stepping_high top x.shape b) h.1)))
      (λ b. let low = subst (λ r. x.height ≤ r) (stepping_low top x.shape b) h.1 in
      reads_refuse (
        made.dotted x a_name.token,
        a_dot.token ∷ a_name.token ∷ [],
        (rw add-one (tree.field (before_dot l.most x.shape x.height x.expr us h.0) (dot_is a_dot.token a_dot.is) (name_is a_name.token a_name.is)), omega arith),
      ))

  reads_target : Reads (IsTarget l top) (target l top once twice)
  unfolding target
  reads_target = reads_bind (reads_part l good top (stepping top) (record { some = some; goes_on = inr (omega arith) }) (inside_by twice once twice) stepping_inside) reads_end_of_target

  -- ---- first values

  abbrev IsBraced : ℕ → Spelling Tall
  IsBraced at y ts = (all : Listed) × (y ≡ made.braced at all) × AreItems l top all ts

  braced_init : (at : ℕ) (y : Tall) (t : Token) (us : List Token) → at ≡ t.start → IsBraced at y (t ∷ us) → IsInit l top y (t ∷ us)
  braced_init at y t us e h = rw (h.1, e) (rw add-one (tree.braces h.2.0), h.2.1)

  reads_init : Reads (IsInit l top) (init l top once twice)
  unfolding init
  reads_init = reads_when sort.Begin
      (reads_place IsBraced (λ at. reads_made (λ all. made.braced at all) (reads_items l top (once goals.Init) some (λ p. (one (omega arith)).init) l.turns) (λ all us h. (all, refl, h)))
      braced_init (λ at y h. no_tokens h.2.0 refl) (let k = some_level l 1 top some in (k.0, k.1, (tree.value k.2.0, k.2.1))))
      (reads_map (reads_level 1 (omega arith)) (λ y us h. (tree.value h.0, h.1)))

  pub reads_asked : ReadsExpr l top (asked l top once twice)
  reads_asked = record {
    level = λ k few. reads_level k few;
    target = reads_target;
    init = reads_init;
    after = λ x us h. reads_after x us h;
  }

-- what each goal reads is in the grammar, at most d high
pub reads_expr : (l : Limits) → IsBuilding l → (d : ℕ) → 0 < d → ReadsExpr l d (expr l d)
unfolding expr
reads_expr l good zero p = absurd (omega arith)
reads_expr l good (suc zero) p = reads_asked l good 1 p (expr l zero) (expr l zero) (λ q. absurd (omega arith)) (λ q. absurd (omega arith))
reads_expr l good (suc (suc d)) p =
    let e : suc d ≡ suc (suc d) - 1 = omega arith in
    let f : d ≡ suc (suc d) - 1 - 1 = omega arith in
    reads_asked l good (suc (suc d)) p (expr l (suc d)) (expr l d) (λ q. subst (λ k. ReadsExpr l k (expr l (suc d))) e (reads_expr l good (suc d) (omega arith)))
    (λ q. subst (λ k. ReadsExpr l k (expr l d)) f (reads_expr l good d (omega arith)))

-- what stands inside an expression within these rooms
pub reads_inside : (l : Limits) → IsBuilding l → (rooms : Rooms) → ReadsInside l rooms (inside l rooms)
reads_inside l good rooms = record {
  argument = λ q. (reads_expr l good (rooms.invocation - 1) (omega arith)).level 1 (omega arith);
  index = λ q. (reads_expr l good (rooms.target - 1) (omega arith)).level 1 (omega arith);
  within = λ q. (reads_expr l good (rooms.rest - 1) (omega arith)).level 1 (omega arith);
  init = λ q. (reads_expr l good (rooms.rest - 1) (omega arith)).init;
}
