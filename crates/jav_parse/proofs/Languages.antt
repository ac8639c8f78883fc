-- The laws of the rules of the five languages that no relation is needed for.
use Rattle.std.proofs.Common.{ℕ, ◌-◌, [], None, arith}
use Rattle.jav_parse_cursor.specs.declared.limits.Limits.{Limits}
use Rattle.jav_parse_expr.specs.declared.primary.Goal.TheVariants.{Level}
use Rattle.jav_parse_stmt.specs.declared.stmt.Place.TheVariants.{Item}
use Rattle.jav_parse_stmt.specs.StmtRules.{stmt}
use Rattle.jav_parse_cursor.specs.TypeRules.{whole_type}
use Rattle.jav_parse_unit.specs.UnitRules.{unit}
use Rattle.jav_parse_unit.specs.WholeRules.{declaration, body, expression}
use Rattle.jav_parse.proofs.Agree.{Agree, Any, Enough, agree_pure, agree_with, agree_bind, agree_comments, enough, enough_for}
use Rattle.jav_parse.proofs.EnoughExpr.{LikeGoal, agree_expr}
use Rattle.jav_parse.proofs.EnoughFlow.{agree_stmt}
use Rattle.jav_parse.proofs.EnoughStmt.{agree_constructor_block}
use Rattle.jav_parse.proofs.EnoughTypes.{LikeLimits, like_less, agree_whole_type}
use Rattle.jav_parse.proofs.EnoughUnit.{agree_declared, agree_unit}
use Rattle.jav_parse.proofs.Lookahead.{Local, local_bind, local_pure, local_comments}
use Rattle.jav_parse.proofs.LookaheadExpr.{local_expr}
use Rattle.jav_parse.proofs.LookaheadStmt.{local_stmt, local_constructor_block}
use Rattle.jav_parse.proofs.LookaheadUnit.{local_declared}

pub local_declaration : (l : Limits) (d : ℕ) → Local (declaration l d)
local_declaration l d = local_bind (local_comments l.turns []) (local_declared l d None)

pub local_body : (l : Limits) (d : ℕ) → Local (body l d)
local_body l d = local_bind (local_constructor_block l (stmt l (d - 1) Item) (local_stmt l (d - 1) Item) d []) (λ b. local_pure _)

pub local_expression : (l : Limits) (d : ℕ) → Local (expression l d)
local_expression l d = local_bind (local_expr l d (Level 1)) (λ x. local_pure x.expr)

module _ {n : ℕ} (l k : Limits) (d e : ℕ) (like : LikeLimits n l k) (tops : Enough 5 n d e) where
  pub agree_type : Agree Any (λ _. 0) n 0 (whole_type l) (whole_type k)
  agree_type = agree_with (λ x y r. tt) (λ x. omega arith) (agree_whole_type l k like)

  pub agree_expression : Agree Any (λ _. 0) n 0 (expression l d) (expression k e)
  agree_expression = agree_bind (agree_expr d e l k like (enough_for 3 n (omega arith) tops) (Level 1) (Level 1) (LikeGoal.at_level 1)) (λ x y r. agree_pure tt (omega arith))

  pub agree_body : Agree Any (λ _. 0) n 0 (body l d) (body k e)
  agree_body = agree_bind
      (agree_constructor_block l k like (stmt l (d - 1) Item) (stmt k (e - 1) Item)
      (λ m le. agree_stmt (d - 1) (e - 1) l k (like_less m (omega arith) like) (enough 4 m 1 (omega arith) tops) Item) d e [] [] tops)
      (λ x y r. agree_pure tt (omega arith))

  pub agree_declaration : Agree Any (λ _. 0) n 0 (declaration l d) (declaration k e)
  agree_declaration = agree_bind (agree_comments l.turns k.turns [] [] (let t = like.turns in omega arith) (let t = like.turns' in omega arith)) (λ notes other r.
      agree_with (λ x y s. tt) (λ x. omega arith) (agree_declared l k like d e tops None notes other))

  pub agree_source : Agree Any (λ _. 0) n 0 (unit l d) (unit k e)
  agree_source = agree_unit l k like d e tops
