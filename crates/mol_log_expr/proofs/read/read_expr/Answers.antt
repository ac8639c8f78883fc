use Rattle.std.proofs.Common.{◌≡◌, List, length, subst, [], arith}
use Rattle.mol_log_words.specs.Words.{Word}
use Rattle.mol_log_words.specs.Reads.{Reads, answered}
use Rattle.mol_log_words.proofs.Readings.{reading}
use Rattle.mol_log_expr.specs.ExpressionReader.{expr}
use Rattle.mol_log_expr.specs.Scope.{Scope}
use Rattle.mol_log_expr.specs.declared.expr_role.ExprRole.TheVariants.{First}
use Rattle.mol_log_expr.proofs.BackExpressions.{laws_expr}
use Rattle.mol_log_expr.proofs.read.read_expr.Goals as goal

pub returns : goal.returns
returns c =
    let out = c.expr-read.result in
    let new = c.expr-read.new.words in
    let without = subst (λ (s : Scope). Reads (expr 500 s.locals First c.new-cursor.result) out new) c.new-scope.ensures
    c.expr-read.ensures in
    let read = subst (λ (ws : List Word). Reads (expr 500 [] First ws) out new) c.new-cursor.ensures without in
    let h = reading _ _ (laws_expr First 500 [] (omega arith)) c.args.words.now new out read in
    let e : c.whole.result ≡ answered (length c.args.words.now) (length new) out = cc in
    rw e h
