-- Limits that are large enough for n tokens: expressions that may be statements, and what begins with names.
use Rattle.std.proofs.Common.{ℕ, zero, suc, ◌+◌, ◌-◌, ◌<◌, ◌≤◌, List, refl, ap, arith}
use Rattle.mol_base.specs.Token.{Token}
use Rattle.jav_tree.specs.declared.types.TypeName.{TypeName}
use Rattle.jav_parse_expr.specs.declared.action.Lead.{Lead}
use Rattle.jav_parse_expr.specs.declared.action.Lead.TheVariants.{Declaration, Part}
use Rattle.jav_parse_cursor.specs.declared.limits.Limits.{Limits}
use Rattle.jav_parse_expr.specs.declared.primary.Goal.{Goal}
use Rattle.jav_parse_expr.specs.declared.primary.Goal.TheVariants.{Target}
use Rattle.jav_parse_cursor.specs.declared.sort.Sort.{Sort}
use Rattle.jav_parse_cursor.specs.declared.sort.Sort.TheVariants as sort
use Rattle.jav_parse_cursor.specs.declared.tall.Tall.{Tall}
use Rattle.jav_parse_cursor.specs.declared.tall.Listed.{Listed}
use Rattle.jav_parse_expr.specs.ActionRules as acts
use Rattle.jav_parse_expr.specs.ActionRules.{ending, action, acting_on, super_action, indexed_or_array, lead_by, type_or_part, further_actions, actions_after, actions}
use Rattle.jav_parse_expr.specs.ExprRules.{expr, inside, is_assignment}
use Rattle.jav_parse_cursor.specs.Nodes as made
use Rattle.jav_parse_cursor.specs.Nodes.{is_target, is_invocation, count_of, text_of, array_type}
use Rattle.jav_parse_expr.specs.PrimaryRules.{acting}
use Rattle.jav_parse_cursor.specs.Sorts.{same_sort}
use Rattle.jav_parse.proofs.Agree.{Agree, Any, Enough, agree_pure, agree_refuse, agree_known, agree_frame, agree_bind, agree_then, agree_if, agree_peek, agree_when, agree_take, enough, enough_for, turns, agree_eq}
use Rattle.jav_parse.proofs.EnoughExpr.{LikeGoal, Asks, like_inside, agree_step_after, agree_assignment, agree_prefixed, agree_expr}
use Rattle.jav_parse.proofs.EnoughPrimary.{tall, LikeRooms, LikeInside, agree_super_call, agree_links, agree_part, agree_named, agree_named_item}
use Rattle.jav_parse.proofs.EnoughTypes.{LikeLimits, like_less, agree_qualified, agree_brackets}
use Rattle.jav_parse.proofs.LikeTrees.{LikeTall, count_low}

-- an expression at some place
pub agree_expr_at : {n h d d' : ℕ} (l l' : Limits) → LikeLimits n l l' → Enough 3 n d d' → (g : Goal) → LikeGoal 0 g g → Agree LikeTall (λ x. x.height + h) n h (expr l d g) (expr l' d' g)
agree_expr_at {h = h} {d = d} {d' = d'} l l' like a g k = agree_frame h 0 (omega arith) (λ m le.
    agree_expr d d' l l' (like_less m (omega arith) like) (enough_for 3 m (omega arith) a) g g k)

-- types on both sides, or parts that are alike
pub data LikeLead : Lead → Lead → Type 0 where
  types : (to other : TypeName) → LikeLead (Declaration to) (Declaration other)
  parts : {x y : Tall} → LikeTall x y → LikeLead (Part x) (Part y)

abbrev pub lead_height : Lead → ℕ
lead_height (Declaration to) = 0
lead_height (Part x) = x.height

asks_expr : {n : ℕ} (l l' : Limits) → LikeLimits n l l' → (a d d' : ℕ) → Enough 3 n d d' → a ≤ 2 → Asks n (expr l (d - a)) (expr l' (d' - a))
asks_expr l l' like a d d' e two m j le g g' k = agree_expr (d - a) (d' - a) l l' (like_less m (omega arith) like) (enough 3 m a (omega arith) e) g g' k

module _ {n : ℕ} (l l' : Limits) (like : LikeLimits n l l') (top top' : ℕ) (tops : Enough 3 n top top') where
  low : Enough 2 n top top'
  low = enough_for 2 n (omega arith) tops

  one : Asks n (expr l (top - 1)) (expr l' (top' - 1))
  one = asks_expr l l' like 1 top top' tops (omega arith)

  two : Asks n (expr l (top - 1 - 1)) (expr l' (top' - 1 - 1))
  two m j le g g' k = agree_expr (top - 1 - 1) (top' - 1 - 1) l l' (like_less m (omega arith) like) (enough 3 m 1 (omega arith) (enough 2 n 1 (omega arith) tops)) g g' k

  like_acting : LikeRooms n (acting top) (acting top')
  like_acting = record { invocation = low; target = enough 2 n 1 (omega arith) tops; rest = enough 2 n 1 (omega arith) tops }

  like_acts : LikeInside n (inside l (acting top)) (inside l' (acting top'))
  like_acts = like_inside (expr l (top - 1)) (expr l (top - 1 - 1)) (expr l (top - 1 - 1)) (expr l' (top' - 1)) (expr l' (top' - 1 - 1)) (expr l' (top' - 1 - 1)) one two two

  agree_ending : {h : ℕ} (left left' : Tall) → LikeTall left left' → left.height ≤ h → Agree LikeTall tall n h (ending l top left) (ending l' top' left')
  unfolding ending
  agree_ending left left' r le = agree_peek (λ s. agree_if (same_sort s sort.Step) _ refl
      (agree_step_after l l' like top top' tops (expr l (top - 1)) (expr l (top - 1 - 1)) (expr l' (top' - 1)) (expr l' (top' - 1 - 1)) one two left left' r le)
      (agree_if (is_assignment s) _ refl
      (agree_if _ _ (ap is_target r.shape)
      (agree_assignment l l' like top top' tops (expr l (top - 1)) (expr l (top - 1 - 1)) (expr l' (top' - 1)) (expr l' (top' - 1 - 1)) one two left left' r le)
      agree_refuse)
      (agree_if _ _ (ap is_invocation r.shape) (agree_pure r le) agree_refuse)))

  agree_acting : {h : ℕ} (first first' : Tall) → LikeTall first first' → first.height ≤ h → Agree LikeTall tall n h (acts.goes_on l top first) (acts.goes_on l' top' first')
  unfolding acts.goes_on
  agree_acting first first' r le = agree_bind
      (agree_links l l' like top top' low (acting top) (acting top') like_acting (inside l (acting top)) (inside l' (acting top')) like_acts first first' r le)
      (λ x y i. agree_ending x y i (omega arith))

  agree_acts : {h : ℕ} → Agree LikeTall tall n h (acts.acts l top) (acts.acts l' top')
  unfolding acts.acts
  agree_acts = agree_when sort.Step
      (agree_prefixed l l' like top top' tops (expr l (top - 1)) (expr l (top - 1 - 1)) (expr l' (top' - 1)) (expr l' (top' - 1 - 1)) one two Target LikeGoal.at_target)
      (agree_bind (agree_part l l' like top top' low (acting top) (acting top') like_acting (inside l (acting top)) (inside l' (acting top')) like_acts)
      (λ x y i. agree_ending x y i (omega arith)))

  pub agree_acting_on : {h : ℕ} (first first' : Tall) → LikeTall first first' → first.height ≤ h → Agree LikeTall tall n h (acting_on l top first) (acting_on l' top' first')
  unfolding acting_on
  agree_acting_on first first' r le = agree_eq 0 low (omega arith) agree_refuse (agree_acting first first' r le)

  pub agree_super_action : {h : ℕ} (at : ℕ) → Agree LikeTall tall n h (super_action l top at) (super_action l' top' at)
  unfolding super_action
  agree_super_action at = agree_eq 0 low (omega arith) agree_refuse (agree_bind
      (agree_super_call l l' like top top' low (acting top) (acting top') like_acting (inside l (acting top)) (inside l' (acting top')) like_acts at)
      (λ x y r. agree_acting x y r (omega arith)))

  agree_indexed_or_array : {h : ℕ} (names : List Token) → 0 < h → count_of names ≤ h → Agree LikeLead lead_height n h (indexed_or_array l top names) (indexed_or_array l' top' names)
  unfolding indexed_or_array
  agree_indexed_or_array names some le = agree_when sort.Right
      (agree_take (λ _. agree_then (agree_brackets (l.most - 1) (l'.most - 1) 1 (turns _ 1 (omega arith) like.most)) (λ k. agree_pure (LikeLead.types _ _) (omega arith))))
      (agree_eq 0 low (omega arith) agree_refuse (agree_bind
      (agree_named_item l l' like top top' low (acting top) (acting top') like_acting (inside l (acting top)) (inside l' (acting top')) like_acts names some le)
      (λ x y r. agree_pure (LikeLead.parts r) (omega arith))))

  agree_led : {h : ℕ} (names : List Token) → count_of names ≤ h → Agree LikeLead lead_height n h (lead_by l top names sort.End) (lead_by l' top' names sort.End)
  agree_led names le = agree_eq 0 low (omega arith) agree_refuse (agree_bind
      (agree_named l l' like top top' low (acting top) (acting top') like_acting (inside l (acting top)) (inside l' (acting top')) like_acts names le)
      (λ x y r. agree_pure (LikeLead.parts r) (omega arith)))

  agree_lead_by : {h : ℕ} (names : List Token) → count_of names ≤ h → (s : Sort) → Agree LikeLead lead_height n h (lead_by l top names s) (lead_by l' top' names s)
  agree_lead_by names le sort.Name = agree_pure (LikeLead.types _ _) (omega arith)
  agree_lead_by names le sort.Left = agree_take (λ _. agree_indexed_or_array names (omega arith) (omega arith))
  agree_lead_by names le s = agree_led names le

  pub agree_type_or_part : {h : ℕ} → Agree LikeLead lead_height n h (type_or_part l top) (type_or_part l' top')
  unfolding type_or_part
  agree_type_or_part = agree_then (agree_qualified l.turns l'.turns like.turns like.turns') (λ names.
      agree_peek (agree_lead_by names (let c = count_low names in omega arith)))

-- ---- where h tokens were used before

pub agree_action : {n h top top' : ℕ} (l l' : Limits) → LikeLimits n l l' → Enough 3 n top top' → Agree LikeTall (λ x. x.height + h) n h (action l top) (action l' top')
unfolding action
agree_action {h = h} {top = top} {top' = top'} l l' like tops = agree_frame h 0 (omega arith) (λ m le.
    let tops' = enough_for 3 m (omega arith) tops in
    agree_eq 0 (enough_for 2 m (omega arith) tops) (omega arith) agree_refuse (agree_acts l l' (like_less m (omega arith) like) top top' tops'))

module _ {n : ℕ} (l l' : Limits) (like : LikeLimits n l l') (top top' : ℕ) (tops : Enough 3 n top top') where
  agree_further_actions : (f g : ℕ) {h : ℕ} (all other : Listed) → n < f + h → n < g + h → Agree Any (λ _. 0) n h (further_actions l top f all) (further_actions l' top' g other)
  unfolding further_actions
  agree_further_actions zero g all other a b = agree_known (λ z. absurd (omega arith))
  agree_further_actions (suc f) zero all other a b = agree_known (λ z. absurd (omega arith))
  agree_further_actions (suc f) (suc g) all other a b = agree_when sort.Comma
      (agree_take (λ _. agree_bind (agree_action l l' like tops) (λ x y r. agree_further_actions f g (made.with all x) (made.with other y) (omega arith) (omega arith))))
      (agree_pure tt (omega arith))

  pub agree_actions_after : {h : ℕ} (first first' : Tall) → Agree Any (λ _. 0) n h (actions_after l top first) (actions_after l' top' first')
  unfolding actions_after
  agree_actions_after first first' = agree_further_actions l.turns l'.turns (made.with made.no_exprs first) (made.with made.no_exprs first')
      (let a = like.turns in omega arith) (let a = like.turns' in omega arith)

  pub agree_actions : {h : ℕ} → Agree Any (λ _. 0) n h (actions l top) (actions l' top')
  unfolding actions
  agree_actions = agree_bind (agree_action l l' like tops) (λ x y r. agree_actions_after x y)
