use Rattle.std.proofs.Common.{◌∙◌, List, length, ◌==◌, ap, subst}
use Rattle.std.proofs.lemmas.Result.{IfOk-weaker}
use Rattle.mol_faults_rules.specs.declared.conflict.Conflict.{Conflict}
use Rattle.mol_log_rules.specs.Logs.{history}
use Rattle.mol_merge.proofs.Conflicting.{found-pairs, tested-none, tested-some}
use Rattle.mol_merge.proofs.found.from_left.Goals as goal
use Rattle.mol_merge_rules.specs.Conflicts.{ArePairConflicts}

pub returns-then-is_empty : goal.returns-then-is_empty
returns-then-is_empty c =
    let base = c.args.base.now in
    let pairs = c.in_ok-pairs.pairs in
    let none = tested-none pairs c.is_empty.result (c.is_empty.ensures ∙ ap (λ (xs : List Conflict). length xs == 0) c.items.ensures)
    c.if-is_empty.true in
    IfOk-weaker c.without_pairs.result _ _ (λ found each. each base c.requires.left
    (subst (ArePairConflicts base (history c.args.one.now) (history c.args.other.now)) none c.in_ok-pairs.ensures)) c.without_pairs.ensures

pub returns-else-is_empty : goal.returns-else-is_empty
returns-else-is_empty c =
    let pairs = c.in_ok-pairs.pairs in
    found-pairs c.args.base.now (history c.args.one.now) (history c.args.other.now) pairs c.in_ok-pairs.ensures
    (tested-some pairs c.is_empty.result (c.is_empty.ensures ∙ ap (λ (xs : List Conflict). length xs == 0) c.items.ensures)
    c.if-is_empty.false)
