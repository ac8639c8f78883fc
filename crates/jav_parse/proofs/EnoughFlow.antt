-- Limits that are large enough for n tokens: statements.
use Rattle.std.proofs.Common.{◌≡◌, ℕ, zero, suc, ◌+◌, ◌-◌, ◌<◌, ◌||◌, not, Bool, List, [], refl, ap, arith}
use Rattle.jav_tree.specs.declared.types.TypeName.{TypeName}
use Rattle.jav_tree.specs.declared.expr.Expr.{Expr}
use Rattle.jav_tree.specs.declared.stmt.ForStart.{ForStart}
use Rattle.jav_tree.specs.declared.stmt.StmtNode.TheVariants as node
use Rattle.jav_tree.specs.Blocks.{block_of}
use Rattle.jav_parse_stmt.specs.declared.flow.HeaderPart.{HeaderPart}
use Rattle.jav_parse_stmt.specs.declared.flow.Maybe.{Maybe}
use Rattle.jav_parse_stmt.specs.declared.flow.TallElse.{TallElse}
use Rattle.jav_parse_cursor.specs.declared.limits.Limits.{Limits}
use Rattle.jav_parse_expr.specs.declared.primary.Goal.TheVariants.{Level}
use Rattle.jav_parse_cursor.specs.declared.sort.Sort.{Sort}
use Rattle.jav_parse_cursor.specs.declared.sort.Sort.TheVariants as sort
use Rattle.jav_parse_stmt.specs.declared.stmt.Place.{Place}
use Rattle.jav_parse_stmt.specs.declared.stmt.Place.TheVariants.{Item, Branch, Plain, Chain}
use Rattle.jav_parse_stmt.specs.declared.stmt_tall.TallBlock.{TallBlock}
use Rattle.jav_parse_stmt.specs.declared.stmt_tall.TallStmt.{TallStmt}
use Rattle.jav_parse_cursor.specs.declared.tall.Listed.{Listed}
use Rattle.jav_parse_cursor.specs.Reading.{Parser, pure}
use Rattle.jav_parse_cursor.specs.Sorts.{same_sort}
use Rattle.jav_parse_stmt.specs.StmtRules.{closed, short_if, long_if, branch, block_stmt, else_branch, chosen, if_stmt, while_stmt, counted_body, counted, each, for_by, for_stmt, plain_by, plain, item_by, item, if_at, standing, statement_at, stmt}
use Rattle.jav_parse.proofs.Agree.{Agree, Enough, agree_pure, agree_refuse, agree_bind, agree_if, agree_peek, agree_place, agree_when, agree_take, agree_expect, agree_comments, enough, enough_for, lower, lower_two, agree_le}
use Rattle.jav_parse.proofs.EnoughAction.{agree_expr_at}
use Rattle.jav_parse.proofs.EnoughExpr.{LikeGoal}
use Rattle.jav_parse.proofs.EnoughStmt.{LikeStmt, LikeBlock, LikeHeader, BelowStmt, stmt_at, agree_condition, agree_header, agree_for_test, agree_updates, agree_local, agree_named, agree_expression, agree_return, agree_throw, agree_word, agree_empty, agree_block}
use Rattle.jav_parse.proofs.EnoughTypes.{LikeLimits, like_less}

abbrev blocked : ℕ → TallBlock → TallStmt
blocked at b = closed at (node.Block (block_of b.items b.tail)) (b.height + 1)

abbrev LikeElse : TallElse → TallElse → Type 0
LikeElse x y = x.is_open ≡ y.is_open

module _ {n : ℕ} (l l' : Limits) (like : LikeLimits n l l') (top top' : ℕ) (tops : Enough 4 n top top') (once twice once' twice' : Place → Parser TallStmt)
    (first : (kind : Place) → BelowStmt n (once kind) (once' kind)) (second : (kind : Place) → BelowStmt n (twice kind) (twice' kind)) where
  low : Enough 2 n top top'
  low = enough_for 2 n (omega arith) tops

  below : Enough 3 n (top - 1) (top' - 1)
  below = enough 3 n 1 (omega arith) tops

  agree_branch : {h : ℕ} (kind : Place) → 0 < h → Agree LikeBlock (λ _. 1) n h (branch l top once twice kind) (branch l' top' once' twice' kind)
  unfolding branch
  agree_branch kind some = agree_bind (agree_comments l.turns l'.turns [] [] (let t = like.turns in omega arith) (let t = like.turns' in omega arith)) (λ notes notes' k.
      agree_when sort.Begin (agree_block l l' like (twice Item) (twice' Item) (second Item) (top - 1) (top' - 1) notes notes' below)
      (agree_le low refl (omega arith) agree_refuse (agree_bind (stmt_at some (second kind)) (λ x y r. agree_pure r (omega arith)))))

  agree_block_stmt : {h : ℕ} → Agree LikeStmt (λ _. 1) n h (block_stmt l top once twice) (block_stmt l' top' once' twice')
  unfolding block_stmt
  agree_block_stmt = agree_le low refl (omega arith) agree_refuse (agree_place (λ at.
      agree_bind {f = λ b. pure (blocked at b)} {g = λ b. pure (blocked at b)} (agree_block l l' like (twice Item) (twice' Item) (second Item) (top - 1) (top' - 1) [] [] below)
      (λ x y r. agree_pure {a = blocked at x} {b = blocked at y} refl (omega arith))))

  agree_other : {h : ℕ} → 0 < h → Agree LikeElse (λ _. 1) n h (else_branch l top once twice) (else_branch l' top' once' twice')
  unfolding else_branch
  agree_other some = agree_when sort.If
      (agree_bind (stmt_at some (first Chain)) (λ x y r. agree_pure r (omega arith)))
      (agree_bind (agree_branch Plain some) (λ x y r. agree_pure r (omega arith)))

  agree_chosen : {h : ℕ} (at : ℕ) (test test' : Expr) (k k' : ℕ) (b b' : TallBlock) → 0 < h → LikeBlock b b'
      → Agree LikeStmt (λ _. 1) n h (chosen l top once twice at test k b) (chosen l' top' once' twice' at test' k' b')
  unfolding chosen
  agree_chosen at test test' k k' b b' some r = agree_bind
      (agree_comments l.turns l'.turns b.after b'.after (let t = like.turns in omega arith) (let t = like.turns' in omega arith)) (λ notes notes' i.
      agree_peek (λ s. agree_if _ _ (ap (λ z. z || not (same_sort s sort.Else)) r)
      (agree_pure {a = short_if at test k b notes} {b = short_if at test' k' b' notes'} refl (omega arith))
      (agree_take (λ _. agree_bind {f = λ z. pure (long_if at test k b notes z)} {g = λ z. pure (long_if at test' k' b' notes' z)} (agree_other (omega arith))
      (λ x y j. agree_pure {a = long_if at test k b notes x} {b = long_if at test' k' b' notes' y} j (omega arith))))))

  agree_if_stmt : {h : ℕ} → Agree LikeStmt (λ _. 1) n h (if_stmt l top once twice) (if_stmt l' top' once' twice')
  unfolding if_stmt
  agree_if_stmt = agree_le low refl (omega arith) agree_refuse (agree_take (λ word. agree_bind (agree_condition l l' like (top - 1) (top' - 1) below) (λ x y r.
      agree_bind (agree_branch Branch (omega arith)) (λ b b' i. agree_chosen word.start x.expr y.expr x.height y.height b b' (omega arith) i))))

  agree_while_stmt : {h : ℕ} → Agree LikeStmt (λ _. 1) n h (while_stmt l top once twice) (while_stmt l' top' once' twice')
  unfolding while_stmt
  agree_while_stmt = agree_le low refl (omega arith) agree_refuse (agree_take (λ word. agree_bind (agree_condition l l' like (top - 1) (top' - 1) below) (λ x y r.
      agree_bind (agree_branch Branch (omega arith)) (λ b b' i. agree_pure i (omega arith)))))

  agree_counted_body : {h : ℕ} (at : ℕ) (start start' : ForStart) (k k' : ℕ) (test test' : Maybe) (all other : Listed) → 0 < h
      → Agree LikeStmt (λ _. 1) n h (counted_body l top once twice at start k test all) (counted_body l' top' once' twice' at start' k' test' other)
  unfolding counted_body
  agree_counted_body at start start' k k' test test' all other some = agree_bind (agree_branch Branch some) (λ b b' i. agree_pure i (omega arith))

  agree_counted : {h : ℕ} (at : ℕ) (start start' : ForStart) (k k' : ℕ) → Agree LikeStmt (λ _. 1) n h (counted l top once twice at start k) (counted l' top' once' twice' at start' k')
  unfolding counted
  agree_counted at start start' k k' = agree_expect sort.Semi (λ _. agree_bind (agree_for_test l l' like (top - 1) (top' - 1) below) (λ test test' r.
      agree_expect sort.Semi (λ _. agree_bind (agree_updates l l' like (top - 1) (top' - 1) below) (λ all other s.
      agree_expect sort.Close (λ _. agree_counted_body at start start' k k' test test' all other (omega arith))))))

  agree_each : {h : ℕ} (at : ℕ) (a b : Bool) (to to' : TypeName) (x y : List ℕ) → Agree LikeStmt (λ _. 1) n h (each l top once twice at a to x) (each l' top' once' twice' at b to' y)
  unfolding each
  agree_each at a b to to' x y = agree_expect sort.Colon (λ _. agree_bind (agree_expr_at l l' like below (Level 1) (LikeGoal.at_level 1)) (λ e e' r.
      agree_expect sort.Close (λ _. agree_bind (agree_branch Branch (omega arith)) (λ c c' i. agree_pure i (omega arith)))))

  agree_for_by : {h : ℕ} (at : ℕ) (x y : HeaderPart) → LikeHeader x y → Agree LikeStmt (λ _. 1) n h (for_by l top once twice at x) (for_by l' top' once' twice' at y)
  agree_for_by at x y (LikeHeader.start s t k k') = agree_counted at s t k k'
  agree_for_by at x y (LikeHeader.each a b to other v w) = agree_each at a b to other v w

  agree_for_stmt : {h : ℕ} → Agree LikeStmt (λ _. 1) n h (for_stmt l top once twice) (for_stmt l' top' once' twice')
  unfolding for_stmt
  agree_for_stmt = agree_le low refl (omega arith) agree_refuse (agree_take (λ word. agree_expect sort.Open (λ _.
      agree_bind (agree_header l l' like (top - 1) (top' - 1) below) (λ x y r. agree_for_by word.start x y r))))

  agree_plain_by : {h : ℕ} (s : Sort) → Agree LikeStmt (λ _. 1) n h (plain_by l top once twice s) (plain_by l' top' once' twice' s)
  agree_plain_by sort.While = agree_while_stmt
  agree_plain_by sort.For = agree_for_stmt
  agree_plain_by sort.Return = agree_return l l' like top top' tops
  agree_plain_by sort.Throw = agree_throw l l' like top top' tops
  agree_plain_by sort.Break = agree_word node.Break
  agree_plain_by sort.Continue = agree_word node.Continue
  agree_plain_by sort.Semi = agree_empty
  agree_plain_by s = agree_expression l l' like top top' tops

  agree_plain : {h : ℕ} → Agree LikeStmt (λ _. 1) n h (plain l top once twice) (plain l' top' once' twice')
  unfolding plain
  agree_plain = agree_peek (λ s. agree_plain_by s)

  agree_item_by : {h : ℕ} (s : Sort) → Agree LikeStmt (λ _. 1) n h (item_by l top once twice s) (item_by l' top' once' twice' s)
  agree_item_by sort.Begin = agree_block_stmt
  agree_item_by sort.Final = agree_local l l' like top top' tops
  agree_item_by sort.Prim = agree_local l l' like top top' tops
  agree_item_by sort.Name = agree_named l l' like top top' tops
  agree_item_by s = agree_plain

  agree_item : {h : ℕ} → Agree LikeStmt (λ _. 1) n h (item l top once twice) (item l' top' once' twice')
  unfolding item
  agree_item = agree_peek (λ s. agree_item_by s)

  agree_if_at : {h : ℕ} (kind : Place) → Agree LikeStmt (λ _. 1) n h (if_at l top once twice kind) (if_at l' top' once' twice' kind)
  agree_if_at Item = agree_if_stmt
  agree_if_at Branch = agree_if_stmt
  agree_if_at Plain = agree_refuse
  agree_if_at Chain = agree_if_stmt

  agree_standing : {h : ℕ} (kind : Place) → Agree LikeStmt (λ _. 1) n h (standing l top once twice kind) (standing l' top' once' twice' kind)
  agree_standing Item = agree_item
  agree_standing Branch = agree_plain
  agree_standing Plain = agree_plain
  agree_standing Chain = agree_refuse

  agree_one : {h : ℕ} (kind : Place) → Agree LikeStmt (λ _. 1) n h (statement_at l top once twice kind) (statement_at l' top' once' twice' kind)
  unfolding statement_at
  agree_one kind = agree_when sort.If (agree_if_at kind) (agree_standing kind)

-- ---- by recursion on the height

pub agree_stmt : (d d' : ℕ) {n : ℕ} (l l' : Limits) → LikeLimits n l l' → Enough 4 n d d' → (kind : Place) → Agree LikeStmt (λ _. 1) n 0 (stmt l d kind) (stmt l' d' kind)
unfolding stmt
agree_stmt zero zero l l' like a kind = agree_refuse
agree_stmt zero (suc e) l l' like (Enough.same p) kind = absurd (omega arith)
agree_stmt zero (suc e) l l' like (Enough.large x y) kind = absurd (omega arith)
agree_stmt (suc d) zero l l' like (Enough.same p) kind = absurd (omega arith)
agree_stmt (suc d) zero l l' like (Enough.large x y) kind = absurd (omega arith)
agree_stmt (suc zero) (suc zero) l l' like a kind =
    agree_one l l' like 1 1 a (stmt l zero) (stmt l zero) (stmt l' zero) (stmt l' zero) (λ k m le. agree_refuse) (λ k m le. agree_refuse) kind
agree_stmt (suc zero) (suc (suc e)) l l' like (Enough.same p) kind = absurd (omega arith)
agree_stmt (suc zero) (suc (suc e)) l l' like (Enough.large x y) kind = absurd (omega arith)
agree_stmt (suc (suc d)) (suc zero) l l' like (Enough.same p) kind = absurd (omega arith)
agree_stmt (suc (suc d)) (suc zero) l l' like (Enough.large x y) kind = absurd (omega arith)
agree_stmt (suc (suc d)) (suc (suc e)) l l' like a kind =
    agree_one l l' like (suc (suc d)) (suc (suc e)) a (stmt l (suc d)) (stmt l d) (stmt l' (suc e)) (stmt l' e)
    (λ k m le. agree_stmt (suc d) (suc e) l l' (like_less m (omega arith) like) (lower m le a) k)
    (λ k m le. agree_stmt d e l l' (like_less m (omega arith) like) (lower_two m le a) k) kind
