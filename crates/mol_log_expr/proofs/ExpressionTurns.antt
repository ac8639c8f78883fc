-- The reader's steps for expressions, in the shape of the code.
use Rattle.std.proofs.Common.{◌≡◌, ℕ, zero, suc, ◌-◌, ◌<◌, List, Err, refl, arith}
use Rattle.mol_log_words.specs.Words.{Word}
use Rattle.mol_log_expr.specs.Scope.{any}
use Rattle.mol_log_words.specs.Reader.{and_then, take}
use Rattle.mol_log_expr.specs.ExpressionHeads.{head_of}
use Rattle.mol_log_expr.specs.ExpressionReader.{expr_by, expr}
use Rattle.mol_log_expr.specs.declared.expr_role.ExprRole.{ExprRole}

pub expr_none : (d : ℕ) (scope : List ℕ) (role : ExprRole) (ts : List Word) → d ≡ 0 → expr d scope role ts ≡ Err ts
unfolding expr
expr_none zero scope role ts e = refl
expr_none (suc d) scope role ts e = absurd (omega arith)

pub expr_steps : (d : ℕ) (scope : List ℕ) (role : ExprRole) (ts : List Word) → 0 < d
    → expr d scope role ts ≡ and_then (take (head_of role (d - 1) (any scope)) ts) (expr_by (d - 1) (expr (d - 1) scope) scope role)
unfolding expr
expr_steps zero scope role ts p = absurd (omega arith)
expr_steps (suc d) scope role ts p = let e : suc d - 1 ≡ d = omega arith in rw e refl
