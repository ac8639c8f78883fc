-- Limits that are large enough for n tokens: variables, simple statements and blocks.
use Rattle.std.proofs.Common.{◌≡◌, ℕ, zero, suc, ◌+◌, ◌-◌, ◌<◌, ◌≤◌, Bool, true, false, List, [], refl, arith}
use Rattle.mol_base.specs.Token.{Token}
use Rattle.jav_tree.specs.declared.types.TypeName.{TypeName}
use Rattle.jav_tree.specs.declared.stmt.StmtNode.{StmtNode}
use Rattle.jav_parse_expr.specs.declared.action.Lead.{Lead}
use Rattle.jav_parse_stmt.specs.declared.flow.HeaderPart.{HeaderPart}
use Rattle.jav_parse_stmt.specs.declared.flow.HeaderPart.TheVariants.{Start, Each}
use Rattle.jav_tree.specs.declared.stmt.ForStart.{ForStart}
use Rattle.jav_parse_cursor.specs.declared.limits.Limits.{Limits}
use Rattle.jav_parse_stmt.specs.declared.local.VariableList.{VariableList}
use Rattle.jav_parse_expr.specs.declared.primary.Goal.TheVariants.{Level, Init}
use Rattle.jav_parse_cursor.specs.declared.sort.Sort.{Sort}
use Rattle.jav_parse_cursor.specs.declared.sort.Sort.TheVariants as sort
use Rattle.jav_parse_stmt.specs.declared.stmt.Several.{Several}
use Rattle.jav_parse_stmt.specs.declared.stmt_tall.TallBlock.{TallBlock}
use Rattle.jav_parse_stmt.specs.declared.stmt_tall.TallStmt.{TallStmt}
use Rattle.jav_parse_cursor.specs.declared.tall.Tall.{Tall}
use Rattle.jav_parse_expr.specs.ExprRules.{expr}
use Rattle.jav_parse_stmt.specs.LocalRules.{no_variables, with_variable, further_variables, variables}
use Rattle.jav_parse_cursor.specs.Reading.{Parser}
use Rattle.jav_parse_stmt.specs.StmtRules as rules
use Rattle.jav_parse_stmt.specs.StmtRules.{condition, super_start, done, super_first, local_of, local, led, expression, return_stmt, throw_stmt, word_stmt, empty_stmt, header_let, header_of, header_led, header_named, header_by, header, for_test, updates, nothing, added_to, next_item, statements, block, from_super, constructor_block}
use Rattle.jav_parse.proofs.Agree.{Agree, Any, Enough, agree_pure, agree_refuse, agree_known, agree_with, agree_frame, agree_bind, agree_peek, agree_place, agree_when, agree_take, agree_expect, agree_comments, enough, enough_for, agree_eq, agree_le}
use Rattle.jav_parse.proofs.EnoughAction.{agree_expr_at, LikeLead, lead_height, agree_acting_on, agree_super_action, agree_type_or_part, agree_action, agree_actions_after, agree_actions}
use Rattle.jav_parse.proofs.EnoughExpr.{LikeGoal, agree_expr}
use Rattle.jav_parse.proofs.EnoughPrimary.{Below, agree_arguments}
use Rattle.jav_parse.proofs.EnoughTypes.{LikeLimits, like_less, agree_whole_type}

-- both end in an `if` without `else`, or neither
abbrev pub LikeStmt : TallStmt → TallStmt → Type 0
LikeStmt x y = x.is_open ≡ y.is_open

abbrev pub LikeBlock : TallBlock → TallBlock → Type 0
LikeBlock x y = x.is_open ≡ y.is_open

-- both headers are of one kind
pub data LikeHeader : HeaderPart → HeaderPart → Type 0 where
  start : (x y : ForStart) (h k : ℕ) → LikeHeader (Start x h) (Start y k)
  each : (a b : Bool) (to other : TypeName) (x y : List ℕ) → LikeHeader (Each a to x) (Each b other y)

-- p and q do alike on fewer than n tokens
abbrev pub BelowStmt : ℕ → Parser TallStmt → Parser TallStmt → Type 0
BelowStmt n p q = (m : ℕ) → suc m ≤ n → Agree LikeStmt (λ _. 1) m 0 p q

pub stmt_at : {n h : ℕ} {p q : Parser TallStmt} → 0 < h → BelowStmt n p q → Agree LikeStmt (λ _. suc h) n h p q
stmt_at {h = h} some b = agree_with (λ x y r. r) (λ x. omega arith) (agree_frame h 0 (omega arith) (λ m l. b m (omega arith)))

-- ---- variables

module _ {n : ℕ} (l l' : Limits) (like : LikeLimits n l l') (top top' : ℕ) (tops : Enough 3 n top top') where
  agree_with_variable : {h : ℕ} (all other : VariableList) (name : Token) → Agree Any (λ _. h) n h (with_variable l top all name) (with_variable l' top' other name)
  unfolding with_variable
  agree_with_variable all other name = agree_when sort.Equals
      (agree_eq 0 (enough_for 2 n (omega arith) tops) (omega arith) agree_refuse (agree_take (λ _. agree_bind (agree_expr_at l l' like tops Init LikeGoal.at_init) (λ x y r. agree_pure tt (omega arith)))))
      (agree_pure tt (omega arith))

  agree_further_variables : (f g : ℕ) {h : ℕ} (k : ℕ) (all other : VariableList) → k ≤ h → n < f + h → n < g + h → Agree Any (λ _. k) n h (further_variables l top f all) (further_variables l' top' g other)
  unfolding further_variables
  agree_further_variables zero g k all other le a b = agree_known (λ z. absurd (omega arith))
  agree_further_variables (suc f) zero k all other le a b = agree_known (λ z. absurd (omega arith))
  agree_further_variables (suc f) (suc g) k all other le a b = agree_when sort.Comma
      (agree_take (λ _. agree_expect sort.Name (λ name. agree_bind (agree_with_variable all other name) (λ x y r.
      agree_further_variables f g k x y (omega arith) (omega arith) (omega arith)))))
      (agree_pure tt (omega arith))

  pub agree_variables : {h : ℕ} (first : Token) → Agree Any (λ _. h) n h (variables l top first) (variables l' top' first)
  unfolding variables
  agree_variables {h} first = agree_bind (agree_with_variable no_variables no_variables first) (λ x y r.
      agree_further_variables l.turns l'.turns h x y (omega arith) (let a = like.turns in omega arith) (let a = like.turns' in omega arith))

  pub agree_condition : {h : ℕ} → Agree Any (λ _. 1) n h (condition l top) (condition l' top')
  unfolding condition
  agree_condition = agree_expect sort.Open (λ _. agree_bind (agree_expr_at l l' like tops (Level 1) (LikeGoal.at_level 1)) (λ x y r.
      agree_expect sort.Close (λ _. agree_pure tt (omega arith))))

  -- ---- the header of a `for`

  agree_header_of : {h : ℕ} (is_final : Bool) (to to' : TypeName) → Agree LikeHeader (λ _. 0) n h (header_of l top is_final to) (header_of l' top' is_final to')
  unfolding header_of header_let
  agree_header_of is_final to to' = agree_expect sort.Name (λ first. agree_when sort.Colon
      (agree_pure (LikeHeader.each _ _ _ _ _ _) (omega arith))
      (agree_bind (agree_variables first) (λ x y r. agree_pure (LikeHeader.start _ _ _ _) (omega arith))))

  agree_header_led : {h : ℕ} (lead lead' : Lead) → LikeLead lead lead' → lead_height lead ≤ h → Agree LikeHeader (λ _. 0) n h (header_led l top lead) (header_led l' top' lead')
  agree_header_led lead lead' (LikeLead.types to other) le = agree_header_of false to other
  agree_header_led lead lead' (LikeLead.parts {x = x} {y = y} r) le = agree_bind (agree_acting_on l l' like top top' tops x y r le) (λ z w i.
      agree_bind (agree_actions_after l l' like top top' tops z w) (λ all other j. agree_pure (LikeHeader.start _ _ _ _) (omega arith)))

  agree_header_rest : {h : ℕ} → Agree LikeHeader (λ _. 0) n h (header_by l top sort.End) (header_by l' top' sort.End)
  agree_header_rest = agree_bind (agree_actions l l' like top top' tops) (λ all other j. agree_pure (LikeHeader.start _ _ _ _) (omega arith))

  agree_header_by : {h : ℕ} (s : Sort) → Agree LikeHeader (λ _. 0) n h (header_by l top s) (header_by l' top' s)
  unfolding header_named
  agree_header_by sort.Semi = agree_pure (LikeHeader.start _ _ _ _) (omega arith)
  agree_header_by sort.Final = agree_take (λ _. agree_bind (agree_whole_type l l' like) (λ x y r. agree_header_of true x y))
  agree_header_by sort.Prim = agree_bind (agree_whole_type l l' like) (λ x y r. agree_header_of false x y)
  agree_header_by sort.Name = agree_bind (agree_type_or_part l l' like top top' tops) (λ x y r. agree_header_led x y r (omega arith))
  agree_header_by s = agree_header_rest

  pub agree_header : {h : ℕ} → Agree LikeHeader (λ _. 0) n h (header l top) (header l' top')
  unfolding header
  agree_header = agree_peek (λ s. agree_header_by s)

  pub agree_for_test : {h : ℕ} → Agree Any (λ _. 0) n h (for_test l top) (for_test l' top')
  unfolding for_test
  agree_for_test = agree_when sort.Semi (agree_pure tt (omega arith))
      (agree_bind (agree_expr_at l l' like tops (Level 1) (LikeGoal.at_level 1)) (λ x y r. agree_pure tt (omega arith)))

  pub agree_updates : {h : ℕ} → Agree Any (λ _. 0) n h (updates l top) (updates l' top')
  unfolding updates
  agree_updates = agree_when sort.Close (agree_pure tt (omega arith)) (agree_actions l l' like top top' tops)

-- ---- simple statements

pub agree_done : {n h : ℕ} (at : ℕ) (x y : Tall) → Agree LikeStmt (λ _. 1) n h (done at x) (done at y)
unfolding done
agree_done at x y = agree_expect sort.Semi (λ _. agree_pure refl (omega arith))

module _ {n : ℕ} (l l' : Limits) (like : LikeLimits n l l') (top top' : ℕ) (tops : Enough 4 n top top') where
  low : Enough 2 n top top'
  low = enough_for 2 n (omega arith) tops

  below : Enough 3 n (top - 1) (top' - 1)
  below = enough 3 n 1 (omega arith) tops

  argument : Below n (expr l (top - 1) (Level 1)) (expr l' (top' - 1) (Level 1))
  argument m le = agree_expr (top - 1) (top' - 1) l l' (like_less m (omega arith) like) (enough 3 m 1 (omega arith) tops) (Level 1) (Level 1) (LikeGoal.at_level 1)

  agree_super_start : {h : ℕ} (at : ℕ) → Agree LikeStmt (λ _. 1) n h (super_start l top at) (super_start l' top' at)
  unfolding super_start
  agree_super_start at = agree_bind (agree_arguments (expr l (top - 1) (Level 1)) (expr l' (top' - 1) (Level 1)) argument l.most l'.most top top' like.most low)
      (λ x y r. agree_expect sort.Semi (λ _. agree_pure refl (omega arith)))

  pub agree_super_first : {h : ℕ} → Agree LikeStmt (λ _. 1) n h (super_first l top) (super_first l' top')
  unfolding super_first
  agree_super_first = agree_eq 0 low (omega arith) agree_refuse (agree_take (λ word. agree_when sort.Open (agree_super_start word.start)
      (agree_bind (agree_super_action l l' like (top - 1) (top' - 1) below word.start) (λ x y r. agree_done word.start x y))))

  agree_local_of : {h : ℕ} (at : ℕ) (is_final : Bool) (to to' : TypeName) → Agree LikeStmt (λ _. 1) n h (local_of l top at is_final to) (local_of l' top' at is_final to')
  unfolding local_of
  agree_local_of at is_final to to' = agree_expect sort.Name (λ first. agree_bind (agree_variables l l' like (top - 1) (top' - 1) below first) (λ x y r.
      agree_expect sort.Semi (λ _. agree_pure refl (omega arith))))

  pub agree_local : {h : ℕ} → Agree LikeStmt (λ _. 1) n h (local l top) (local l' top')
  unfolding local
  agree_local = agree_place (λ at. agree_when sort.Final
      (agree_take (λ _. agree_bind (agree_whole_type l l' like) (λ x y r. agree_local_of at true x y)))
      (agree_bind (agree_whole_type l l' like) (λ x y r. agree_local_of at false x y)))

  agree_led : {h : ℕ} (at : ℕ) (lead lead' : Lead) → LikeLead lead lead' → lead_height lead ≤ h → Agree LikeStmt (λ _. 1) n h (led l top at lead) (led l' top' at lead')
  agree_led at lead lead' (LikeLead.types to other) le = agree_local_of at false to other
  agree_led at lead lead' (LikeLead.parts {x = x} {y = y} r) le = agree_bind (agree_acting_on l l' like (top - 1) (top' - 1) below x y r le) (λ z w i. agree_done at z w)

  pub agree_named : {h : ℕ} → Agree LikeStmt (λ _. 1) n h (rules.named l top) (rules.named l' top')
  unfolding rules.named
  agree_named = agree_place (λ at. agree_bind (agree_type_or_part l l' like (top - 1) (top' - 1) below) (λ x y r. agree_led at x y r (omega arith)))

  pub agree_expression : {h : ℕ} → Agree LikeStmt (λ _. 1) n h (expression l top) (expression l' top')
  unfolding expression
  agree_expression = agree_place (λ at. agree_bind (agree_action l l' like below) (λ x y r. agree_done at x y))

  pub agree_return : {h : ℕ} → Agree LikeStmt (λ _. 1) n h (return_stmt l top) (return_stmt l' top')
  unfolding return_stmt
  agree_return = agree_take (λ word. agree_when sort.Semi (agree_take (λ _. agree_pure refl (omega arith)))
      (agree_le low refl (omega arith) agree_refuse (agree_bind (agree_expr_at l l' like below (Level 1) (LikeGoal.at_level 1)) (λ x y r.
      agree_expect sort.Semi (λ _. agree_pure refl (omega arith))))))

  pub agree_throw : {h : ℕ} → Agree LikeStmt (λ _. 1) n h (throw_stmt l top) (throw_stmt l' top')
  unfolding throw_stmt
  agree_throw = agree_le low refl (omega arith) agree_refuse (agree_take (λ word. agree_bind (agree_expr_at l l' like below (Level 1) (LikeGoal.at_level 1)) (λ x y r.
      agree_expect sort.Semi (λ _. agree_pure refl (omega arith)))))

pub agree_word : {n h : ℕ} (node : StmtNode) → Agree LikeStmt (λ _. 1) n h (word_stmt node) (word_stmt node)
unfolding word_stmt
agree_word node = agree_take (λ word. agree_expect sort.Semi (λ _. agree_pure refl (omega arith)))

pub agree_empty : {n h : ℕ} → Agree LikeStmt (λ _. 1) n h empty_stmt empty_stmt
unfolding empty_stmt
agree_empty = agree_take (λ semi. agree_pure refl (omega arith))

-- ---- blocks

module _ {n : ℕ} (l l' : Limits) (like : LikeLimits n l l') (p q : Parser TallStmt) (inner : BelowStmt n p q) where
  agree_statements : (f g : ℕ) {h : ℕ} (room room' : ℕ) (all other : Several) → Enough 2 n room room' → 0 < h → n < f + h → n < g + h
      → Agree LikeBlock (λ _. 1) n h (statements l p room f all) (statements l' q room' g other)
  unfolding statements next_item
  agree_statements zero g room room' all other r some a b = agree_known (λ z. absurd (omega arith))
  agree_statements (suc f) zero room room' all other r some a b = agree_known (λ z. absurd (omega arith))
  agree_statements (suc f) (suc g) {h} room room' all other r some a b =
      agree_bind (agree_comments l.turns l'.turns all.notes other.notes (let t = like.turns in omega arith) (let t = like.turns' in omega arith)) (λ notes notes' k.
      agree_when sort.Finish (agree_take (λ _. agree_pure refl (omega arith)))
      (agree_bind {R = Any} {r = λ _. suc h}
      (agree_eq 0 r (omega arith) agree_refuse (agree_bind (stmt_at some inner) (λ x y i. agree_pure tt (omega arith))))
      (λ x y i. agree_statements f g room room' x y r (omega arith) (omega arith) (omega arith))))

  pub agree_block : {h : ℕ} (room room' : ℕ) (notes notes' : List (List ℕ)) → Enough 3 n room room' → Agree LikeBlock (λ _. 1) n h (block l p room notes) (block l' q room' notes')
  unfolding block
  agree_block room room' notes notes' r = agree_eq 0 (enough_for 2 n (omega arith) r) (omega arith) agree_refuse (agree_expect sort.Begin (λ _.
      agree_statements l.turns l'.turns (room - 1) (room' - 1) (nothing notes) (nothing notes') (enough 2 n 1 (omega arith) r) (omega arith)
      (let t = like.turns in omega arith) (let t = like.turns' in omega arith)))

  agree_from_super : {h : ℕ} (room room' : ℕ) (notes notes' : List (List ℕ)) → Enough 4 n room room' → Agree LikeBlock (λ _. 1) n h (from_super l p room notes) (from_super l' q room' notes')
  unfolding from_super
  agree_from_super room room' notes notes' r = agree_bind (agree_super_first l l' like room room' r) (λ x y i.
      agree_statements l.turns l'.turns room room' (added_to [] 0 notes x) (added_to [] 0 notes' y) (enough_for 2 n (omega arith) r) (omega arith)
      (let t = like.turns in omega arith) (let t = like.turns' in omega arith))

  pub agree_constructor_block : {h : ℕ} (room room' : ℕ) (before before' : List (List ℕ)) → Enough 5 n room room'
      → Agree LikeBlock (λ _. 1) n h (constructor_block l p room before) (constructor_block l' q room' before')
  unfolding constructor_block
  agree_constructor_block room room' before before' r = agree_eq 0 (enough_for 2 n (omega arith) r) (omega arith) agree_refuse (agree_expect sort.Begin (λ _.
      agree_bind (agree_comments l.turns l'.turns before before' (let t = like.turns in omega arith) (let t = like.turns' in omega arith)) (λ notes notes' k.
      agree_when sort.Super (agree_from_super (room - 1) (room' - 1) notes notes' (enough 4 n 1 (omega arith) r))
      (agree_statements l.turns l'.turns (room - 1) (room' - 1) (nothing notes) (nothing notes') (enough 2 n 1 (omega arith) r) (omega arith)
      (let t = like.turns in omega arith) (let t = like.turns' in omega arith)))))
