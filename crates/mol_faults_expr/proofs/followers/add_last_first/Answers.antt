use Rattle.std.proofs.Common.{◌++◌, map, sym, ap, ◌∙◌, rules}
use Rattle.std.proofs.lemmas.Iterator.Adapters.{YieldsList-from_rev_slice}
use Rattle.std.proofs.lemmas.Iterator.Consumers.{YieldsList-end}
use Rattle.std.proofs.lemmas.List.{append-nil}
use Rattle.mol_faults_expr.proofs.FollowersKept.{one-told}
use Rattle.mol_faults_expr.proofs.followers.add_last_first.Goals as goal

pub loop-name-init : goal.loop-name-init
loop-name-init c =
    sym (append-nil c.args.names.now.items)

pub loop-name-preserved : goal.loop-name-preserved
loop-name-preserved c =
    one-told c.args.names.now.items _ _ c.loop-name.yielded c.in-Some.name c.loop-name.invariant c.in_ok-add_name.ensures

pub returns : goal.returns
returns c =
    let end = YieldsList-end (YieldsList-from_rev_slice c.args.kept.now (search rules)) c.loop-name.yielded _ c.loop-name.yielded_by _ _
    c.in-None.is c.next.ensures.steps in
    c.loop-name.invariant ∙ ap (λ kept. c.args.names.now.items ++ map (λ name. name.now) kept) end.0
