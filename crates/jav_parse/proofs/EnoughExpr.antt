-- Limits that are large enough for n tokens: operators, casts and whole expressions.
use Rattle.std.proofs.Common.{ℕ, zero, suc, ◌+◌, ◌-◌, ◌<◌, ◌≤◌, max, ◌||◌, ◌&&◌, not, nat_lt, nat_le, nat_eq, List, refl, ap, arith}
use Rattle.mol_base.specs.Token.{Token}
use Rattle.jav_tree.specs.declared.types.TypeName.{TypeName}
use Rattle.jav_tree.specs.declared.types.TypeName.TheVariants as ty
use Rattle.jav_parse_cursor.specs.declared.limits.Limits.{Limits}
use Rattle.jav_parse_expr.specs.declared.primary.Goal.{Goal}
use Rattle.jav_parse_expr.specs.declared.primary.Goal.TheVariants.{Level, Target, Init, After}
use Rattle.jav_parse_cursor.specs.declared.sort.Sort.{Sort}
use Rattle.jav_parse_cursor.specs.declared.sort.Sort.TheVariants as sort
use Rattle.jav_parse_cursor.specs.declared.tall.Tall.{Tall}
use Rattle.jav_parse_cursor.specs.Nodes as made
use Rattle.jav_parse_cursor.specs.Nodes.{is_target, count_of, text_of, array_type}
use Rattle.jav_parse_expr.specs.ExprRules.{level_of, is_assignment, begins_operand, inside_by, step_after, postfix, assign_to, assignment, instance_of, binary, operation, climb, choice, operators, cast, array_cast, primitive_cast, after_parens, closed, goes_on, name_closed, opened_by, opened_name, opened_at, opened, prefixed, operand_by, operand, level, after, target, init, asked, expr}
use Rattle.jav_parse_expr.specs.PrimaryRules.{free, stepping, named_item}
use Rattle.jav_parse_cursor.specs.Reading.{Parser}
use Rattle.jav_parse_cursor.specs.Sorts.{same_sort}
use Rattle.jav_parse.proofs.Agree.{Agree, Turns, Enough, agree_pure, agree_refuse, agree_known, agree_frame, agree_bind, agree_then, agree_if, agree_peek, agree_place, agree_when, agree_take, agree_expect, enough, enough_for, lower, lower_two, enough_turns, turns, turns_more, turned, agree_turns, agree_turns', same_le, agree_le}
use Rattle.jav_parse.proofs.EnoughPrimary.{tall, inner_at, agree_items, LikeRooms, LikeInside, risen, or_same, agree_links, agree_part, agree_named, agree_named_item}
use Rattle.jav_parse.proofs.EnoughTypes.{LikeLimits, like_less, agree_qualified, agree_primitive, agree_brackets, agree_whole_type}
use Rattle.jav_parse.proofs.LikeTrees.{LikeTall, like_named, count_low, named_high}

-- the same is asked for; what it begins with took h tokens at least
pub data LikeGoal (h : ℕ) : Goal → Goal → Type 0 where
  at_level : (k : ℕ) → LikeGoal h (Level k) (Level k)
  at_target : LikeGoal h Target Target
  at_init : LikeGoal h Init Init
  at_first : {x y : Tall} → LikeTall x y → x.height ≤ h → LikeGoal h (After x) (After y)

-- p and q do alike on fewer than n tokens
abbrev pub Asks : ℕ → (p q : Goal → Parser Tall) → Type 0
Asks n p q = (m j : ℕ) → suc m ≤ n → (g g' : Goal) → LikeGoal j g g' → Agree LikeTall tall m j (p g) (q g')

pub asks_less : {n : ℕ} {p q : Goal → Parser Tall} (m : ℕ) → m ≤ n → Asks n p q → Asks m p q
asks_less m le a = λ k j l. a k j (omega arith)

pub like_inside : {n : ℕ} (i t r i' t' r' : Goal → Parser Tall) → Asks n i i' → Asks n t t' → Asks n r r' → LikeInside n (inside_by i t r) (inside_by i' t' r')
like_inside i t r i' t' r' a b c = record {
  argument = λ m l. a m 0 l (Level 1) (Level 1) (LikeGoal.at_level 1);
  index = λ m l. b m 0 l (Level 1) (Level 1) (LikeGoal.at_level 1);
  within = λ m l. c m 0 l (Level 1) (Level 1) (LikeGoal.at_level 1);
  init = λ m l. c m 0 l Init Init LikeGoal.at_init;
}

pub like_free : {n d e : ℕ} → Enough 2 n d e → LikeRooms n (free d) (free e)
like_free a = record { invocation = a; target = a; rest = a }

module _ {n : ℕ} (l l' : Limits) (like : LikeLimits n l l') (top top' : ℕ) (tops : Enough 3 n top top') (once twice once' twice' : Goal → Parser Tall)
    (one : Asks n once once') (two : Asks n twice twice') where
  low : Enough 2 n top top'
  low = enough_for 2 n (omega arith) tops

  once_at : {h : ℕ} (k : ℕ) → 0 < h → Agree LikeTall (λ x. x.height + h) n h (once (Level k)) (once' (Level k))
  once_at k some = inner_at some (λ m le. one m 0 le (Level k) (Level k) (LikeGoal.at_level k))

  pub agree_step_after : {h : ℕ} (left left' : Tall) → LikeTall left left' → left.height ≤ h → Agree LikeTall tall n h (step_after l top once twice left) (step_after l' top' once' twice' left')
  unfolding step_after
  agree_step_after left left' r le = agree_known (λ z. agree_if _ _
      (or_same (not (is_target left.shape)) (not (is_target left'.shape)) _ _ (ap (λ s. not (is_target s)) r.shape) (same_le low r.height (omega arith)))
      agree_refuse (agree_take (λ op. agree_pure (record { height = let i = r.height in omega arith; shape = refl }) (omega arith))))

  agree_postfix : {h : ℕ} (left left' : Tall) → LikeTall left left' → left.height ≤ h → Agree LikeTall tall n h (postfix l top once twice left) (postfix l' top' once' twice' left')
  unfolding postfix
  agree_postfix left left' r le = agree_when sort.Step (agree_step_after left left' r le) (agree_pure r le)

  pub agree_assignment : {h : ℕ} (left left' : Tall) → LikeTall left left' → left.height ≤ h → Agree LikeTall tall n h (assignment l top once twice left) (assignment l' top' once' twice' left')
  unfolding assignment assign_to
  agree_assignment left left' r le = agree_le low r.height (omega arith) agree_refuse (agree_take (λ op. agree_bind (once_at 1 (omega arith)) (λ x y s.
      agree_pure (record { height = let i = r.height in let j = s.height in omega arith; shape = refl }) (omega arith))))

  agree_operation : {h : ℕ} (left left' : Tall) (own : ℕ) → LikeTall left left' → left.height ≤ h → Agree LikeTall (risen h) n h (operation l top once twice left own) (operation l' top' once' twice' left' own)
  unfolding operation instance_of binary
  agree_operation left left' own r le = agree_le low r.height (omega arith) agree_refuse (agree_when sort.InstanceOf
      (agree_take (λ _. agree_bind (agree_whole_type l l' like) (λ x y s. agree_pure (record { height = let i = r.height in omega arith; shape = refl }) (omega arith))))
      (agree_take (λ op. agree_bind (once_at (own + 1) (omega arith)) (λ x y s.
      agree_pure (record { height = let i = r.height in let j = s.height in omega arith; shape = refl }) (omega arith)))))

  agree_climb : (f g : ℕ) {h : ℕ} (least cap : ℕ) (left left' : Tall) → LikeTall left left' → left.height ≤ h → Turns n h f g
      → Agree LikeTall tall n h (climb l top once twice f least cap left) (climb l' top' once' twice' g least cap left')
  unfolding climb
  agree_climb zero zero least cap left left' r le a = agree_pure r le
  agree_climb zero (suc g) least cap left left' r le a = agree_turns a
  agree_climb (suc f) zero least cap left left' r le a = agree_turns' a
  agree_climb (suc f) (suc g) least cap left left' r le a = agree_peek (λ s. agree_if (nat_lt (level_of s) least || nat_lt cap (level_of s)) _ refl
      (agree_pure r le)
      (agree_bind (agree_operation left left' (level_of s) r le) (λ x y i. agree_climb f g least (level_of s) x y i (omega arith) (turned _ (omega arith) a))))

  agree_choice : {h : ℕ} (test test' : Tall) → LikeTall test test' → test.height ≤ h → Agree LikeTall tall n h (choice l top once twice test) (choice l' top' once' twice' test')
  unfolding choice
  agree_choice test test' r le = agree_le low r.height (omega arith) agree_refuse (agree_take (λ _. agree_bind (once_at 1 (omega arith)) (λ x x' s.
      agree_expect sort.Colon (λ _. agree_bind (once_at 2 (omega arith)) (λ y y' t.
      agree_pure (record { height = let i = r.height in let j = s.height in let k = t.height in omega arith; shape = refl }) (omega arith))))))

  agree_operators : {h : ℕ} (k : ℕ) (first first' : Tall) → LikeTall first first' → first.height ≤ h → Agree LikeTall tall n h (operators l top once twice k first) (operators l' top' once' twice' k first')
  unfolding operators
  agree_operators k first first' r le = agree_peek (λ s. agree_if _ _ (ap (λ z. nat_le k 1 && (is_target z && is_assignment s)) r.shape)
      (agree_assignment first first' r le)
      (agree_bind (agree_climb top top' (max k 1) 12 first first' r le (enough_turns _ low)) (λ x y i.
      agree_peek (λ u. agree_if (nat_le k 2 && same_sort u sort.Question) _ refl (agree_choice x y i (omega arith)) (agree_pure i (omega arith))))))

  -- ---- casts and parentheses

  agree_cast : {h : ℕ} (at : ℕ) (to to' : TypeName) → 0 < h → Agree LikeTall tall n h (cast l top once twice at to) (cast l' top' once' twice' at to')
  unfolding cast
  agree_cast at to to' some = agree_bind (once_at 13 some) (λ x y r. agree_pure (record { height = let i = r.height in omega arith; shape = refl }) (omega arith))

  agree_array_cast : {h : ℕ} (at : ℕ) (base : TypeName) (k : ℕ) → Agree LikeTall tall n h (array_cast l top once twice at base k) (array_cast l' top' once' twice' at base k)
  unfolding array_cast
  agree_array_cast at base k = agree_expect sort.Close (λ _. agree_peek (λ s. agree_if (begins_operand s) _ refl
      (agree_cast at (array_type l.builds k base) (array_type l'.builds k base) (omega arith)) agree_refuse))

  agree_primitive_cast : {h : ℕ} (at : ℕ) → Agree LikeTall tall n h (primitive_cast l top once twice at) (primitive_cast l' top' once' twice' at)
  unfolding primitive_cast
  agree_primitive_cast at = agree_then agree_primitive (λ base. agree_then (agree_brackets l.most l'.most 0 (turns_more _ (omega arith) like.most)) (λ k.
      agree_if (nat_eq k 0) _ refl (agree_expect sort.Close (λ _. agree_cast at base base (omega arith))) (agree_array_cast at base k)))

  like_once : LikeInside n (inside_by once once once) (inside_by once' once' once')
  like_once = like_inside once once once once' once' once' one one one

  agree_after_parens : {h : ℕ} (left left' : Tall) → LikeTall left left' → left.height ≤ h → Agree LikeTall tall n h (after_parens l top once twice left) (after_parens l' top' once' twice' left')
  unfolding after_parens
  agree_after_parens left left' r le = agree_bind
      (agree_links l l' like top top' low (free top) (free top') (like_free low) (inside_by once once once) (inside_by once' once' once') like_once left left' r le)
      (λ x y i. agree_postfix x y i (omega arith))

  agree_closed : {h : ℕ} (at : ℕ) (x y : Tall) → LikeTall x y → x.height ≤ h → Agree LikeTall tall n h (closed l top once twice at x) (closed l' top' once' twice' at y)
  unfolding closed
  agree_closed at x y r le = agree_expect sort.Close (λ _. agree_after_parens (made.in_parens at x) (made.in_parens at y)
      (record { height = let i = r.height in omega arith; shape = refl }) (omega arith))

  agree_goes_on : {h : ℕ} (at : ℕ) (first first' : Tall) → LikeTall first first' → first.height + 1 ≤ h → Agree LikeTall tall n h (goes_on l top once twice at first) (goes_on l' top' once' twice' at first')
  unfolding goes_on
  agree_goes_on at first first' r le = agree_bind
      (agree_frame 1 first.height le (λ m few. one m first.height (omega arith) (After first) (After first') (LikeGoal.at_first r (omega arith))))
      (λ x y i. agree_closed at x y i (omega arith))

  agree_name_closed : {h : ℕ} (at : ℕ) (names : List Token) → count_of names + 1 ≤ h → Agree LikeTall tall n h (name_closed l top once twice at names) (name_closed l' top' once' twice' at names)
  unfolding name_closed
  agree_name_closed at names le = agree_peek (λ s. agree_if (begins_operand s) _ refl
      (agree_cast at (ty.Named (text_of names)) (ty.Named (text_of names)) (omega arith))
      (agree_le {x = count_of names} {y = count_of names} low refl (omega arith) agree_refuse (agree_after_parens (made.in_parens at (made.named l.builds names)) (made.in_parens at (made.named l'.builds names))
      (record { height = let i = (like_named l.builds l'.builds names).height in omega arith; shape = refl }) (let i = named_high l.builds names in omega arith))))

  like_twice : (m : ℕ) → m + 1 ≤ n → LikeInside m (inside_by twice twice twice) (inside_by twice' twice' twice')
  like_twice m le = let a = asks_less m (omega arith) two in like_inside twice twice twice twice' twice' twice' a a a

  agree_on_names : {h : ℕ} (at : ℕ) (names : List Token) → count_of names + 1 ≤ h → Agree LikeTall tall n h (opened_by l top once twice at names sort.End) (opened_by l' top' once' twice' at names sort.End)
  agree_on_names at names le = agree_bind
      (agree_frame 1 (count_of names) le (λ m few. let low' = enough 2 m 1 (omega arith) tops in
      agree_named l l' (like_less m (omega arith) like) (top - 1) (top' - 1) low' (free (top - 1)) (free (top' - 1)) (like_free low')
      (inside_by twice twice twice) (inside_by twice' twice' twice') (like_twice m few) names (omega arith)))
      (λ x y r. agree_goes_on at x y r (omega arith))

  agree_on_item : {h : ℕ} (at : ℕ) (names : List Token) → count_of names + 2 ≤ h
      → Agree LikeTall (λ x. x.height + 1) n h (named_item l (top - 1) (free (top - 1)) (inside_by twice twice twice) names) (named_item l' (top' - 1) (free (top' - 1)) (inside_by twice' twice' twice') names)
  agree_on_item at names le =
      agree_frame 1 (count_of names + 1) (omega arith) (λ m few. let low' = enough 2 m 1 (omega arith) tops in
      agree_named_item l l' (like_less m (omega arith) like) (top - 1) (top' - 1) low' (free (top - 1)) (free (top' - 1)) (like_free low')
      (inside_by twice twice twice) (inside_by twice' twice' twice') (like_twice m few) names (omega arith) (omega arith))

  agree_opened_by : {h : ℕ} (at : ℕ) (names : List Token) → count_of names + 1 ≤ h → (s : Sort) → Agree LikeTall tall n h (opened_by l top once twice at names s) (opened_by l' top' once' twice' at names s)
  agree_opened_by at names le sort.Close = agree_take (λ _. agree_name_closed at names (omega arith))
  agree_opened_by at names le sort.Left = agree_take (λ _. agree_when sort.Right
      (agree_take (λ _. agree_then (agree_brackets (l.most - 1) (l'.most - 1) 1 (turns _ 1 (omega arith) like.most)) (λ k. agree_array_cast at (ty.Named (text_of names)) k)))
      (agree_bind (agree_on_item at names (omega arith)) (λ x y r. agree_goes_on at x y r (omega arith))))
  agree_opened_by at names le s = agree_on_names at names le

  agree_opened_name : {h : ℕ} (at : ℕ) → 0 < h → Agree LikeTall tall n h (opened_name l top once twice at) (opened_name l' top' once' twice' at)
  unfolding opened_name
  agree_opened_name at some = agree_then (agree_qualified l.turns l'.turns like.turns like.turns') (λ names.
      agree_peek (agree_opened_by at names (let c = count_low names in omega arith)))

  agree_opened_rest : {h : ℕ} (at : ℕ) → 0 < h → Agree LikeTall tall n h (opened_at l top once twice at sort.End) (opened_at l' top' once' twice' at sort.End)
  agree_opened_rest at some = agree_bind (once_at 1 some) (λ x y r. agree_closed at x y r (omega arith))

  agree_opened_at : {h : ℕ} (at : ℕ) → 0 < h → (s : Sort) → Agree LikeTall tall n h (opened_at l top once twice at s) (opened_at l' top' once' twice' at s)
  agree_opened_at at some sort.Prim = agree_primitive_cast at
  agree_opened_at at some sort.Name = agree_opened_name at some
  agree_opened_at at some s = agree_opened_rest at some

  -- ---- operands and what is asked for

  pub agree_prefixed : {h : ℕ} (goal : Goal) → LikeGoal 0 goal goal → Agree LikeTall tall n h (prefixed l top once twice goal) (prefixed l' top' once' twice' goal)
  unfolding prefixed
  agree_prefixed goal g = agree_le low refl (omega arith) agree_refuse (agree_take (λ op. agree_bind
      (inner_at (omega arith) (λ m le. one m 0 le goal goal g))
      (λ x y r. agree_pure (record { height = let i = r.height in omega arith; shape = refl }) (omega arith))))

  agree_operand_rest : {h : ℕ} → Agree LikeTall tall n h (operand_by l top once twice sort.End) (operand_by l' top' once' twice' sort.End)
  agree_operand_rest = agree_bind
      (agree_part l l' like top top' low (free top) (free top') (like_free low) (inside_by once once once) (inside_by once' once' once') like_once)
      (λ x y r. agree_postfix x y r (omega arith))

  agree_opened : {h : ℕ} → Agree LikeTall tall n h (opened l top once twice) (opened l' top' once' twice')
  unfolding opened
  agree_opened = agree_take (λ left. agree_peek (agree_opened_at left.start (omega arith)))

  agree_operand_by : {h : ℕ} (s : Sort) → Agree LikeTall tall n h (operand_by l top once twice s) (operand_by l' top' once' twice' s)
  agree_operand_by sort.Sign = agree_prefixed (Level 13) (LikeGoal.at_level 13)
  agree_operand_by sort.Not = agree_prefixed (Level 13) (LikeGoal.at_level 13)
  agree_operand_by sort.Step = agree_prefixed Target LikeGoal.at_target
  agree_operand_by sort.Open = agree_le low refl (omega arith) agree_refuse agree_opened
  agree_operand_by s = agree_operand_rest

  agree_level : {h : ℕ} (k : ℕ) → Agree LikeTall tall n h (level l top once twice k) (level l' top' once' twice' k)
  unfolding level operand
  agree_level k = agree_bind (agree_peek (λ s. agree_operand_by s)) (λ x y r. agree_operators k x y r (omega arith))

  agree_after : {h : ℕ} (first first' : Tall) → LikeTall first first' → first.height ≤ h → Agree LikeTall tall n h (after l top once twice first) (after l' top' once' twice' first')
  unfolding after
  agree_after first first' r le = agree_bind (agree_bind
      (agree_links l l' like top top' low (free top) (free top') (like_free low) (inside_by once once once) (inside_by once' once' once') like_once first first' r le)
      (λ x y i. agree_postfix x y i (omega arith)))
      (λ x y i. agree_operators 1 x y i (omega arith))

  agree_target : {h : ℕ} → Agree LikeTall tall n h (target l top once twice) (target l' top' once' twice')
  unfolding target
  agree_target = agree_bind
      (agree_part l l' like top top' low (stepping top) (stepping top')
      (record { invocation = enough 2 n 1 (omega arith) tops; target = low; rest = enough 2 n 1 (omega arith) tops })
      (inside_by twice once twice) (inside_by twice' once' twice') (like_inside twice once twice twice' once' twice' two one two))
      (λ x y r. agree_if _ _ (ap is_target r.shape) (agree_pure r (omega arith)) agree_refuse)

  agree_init : {h : ℕ} → Agree LikeTall tall n h (init l top once twice) (init l' top' once' twice')
  unfolding init
  agree_init = agree_when sort.Begin
      (agree_place (λ at. agree_bind
      (agree_items (once Init) (once' Init) (λ m le. one m 0 le Init Init LikeGoal.at_init) l.turns l'.turns top top' (Turns.many (let a = like.turns in omega arith) (let a = like.turns' in omega arith)) low)
      (λ x y r. agree_pure {a = made.braced at x} {b = made.braced at y} (record { height = let i = r.height in omega arith; shape = refl }) (omega arith))))
      (agree_level 1)

  agree_asked : {j : ℕ} (g g' : Goal) → LikeGoal j g g' → Agree LikeTall tall n j (asked l top once twice g) (asked l' top' once' twice' g')
  agree_asked g g' (at_level k) = agree_level k
  agree_asked g g' at_target = agree_target
  agree_asked g g' at_init = agree_init
  agree_asked g g' (at_first {x = x} {y = y} r le) = agree_after x y r le

-- ---- by recursion on the height

pub agree_expr : (d d' : ℕ) {n : ℕ} (l l' : Limits) → LikeLimits n l l' → Enough 3 n d d' → {j : ℕ} (g g' : Goal) → LikeGoal j g g' → Agree LikeTall tall n j (expr l d g) (expr l' d' g')
unfolding expr
agree_expr zero zero l l' like a g g' r = agree_refuse
agree_expr zero (suc e) l l' like (Enough.same p) g g' r = absurd (omega arith)
agree_expr zero (suc e) l l' like (Enough.large x y) g g' r = absurd (omega arith)
agree_expr (suc d) zero l l' like (Enough.same p) g g' r = absurd (omega arith)
agree_expr (suc d) zero l l' like (Enough.large x y) g g' r = absurd (omega arith)
agree_expr (suc zero) (suc zero) l l' like a g g' r =
    agree_asked l l' like 1 1 a (expr l zero) (expr l zero) (expr l' zero) (expr l' zero) (λ m j le x y k. agree_refuse) (λ m j le x y k. agree_refuse) g g' r
agree_expr (suc zero) (suc (suc e)) l l' like (Enough.same p) g g' r = absurd (omega arith)
agree_expr (suc zero) (suc (suc e)) l l' like (Enough.large x y) g g' r = absurd (omega arith)
agree_expr (suc (suc d)) (suc zero) l l' like (Enough.same p) g g' r = absurd (omega arith)
agree_expr (suc (suc d)) (suc zero) l l' like (Enough.large x y) g g' r = absurd (omega arith)
agree_expr (suc (suc d)) (suc (suc e)) l l' like a g g' r =
    agree_asked l l' like (suc (suc d)) (suc (suc e)) a (expr l (suc d)) (expr l d) (expr l' (suc e)) (expr l' e)
    (λ m j le x y k. agree_expr (suc d) (suc e) l l' (like_less m (omega arith) like) (lower m le a) x y k)
    (λ m j le x y k. agree_expr d e l l' (like_less m (omega arith) like) (lower_two m le a) x y k) g g' r
