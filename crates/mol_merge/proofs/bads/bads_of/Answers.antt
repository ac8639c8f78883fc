use Rattle.std.proofs.Common.{◌++◌, ◌∷◌, [], List, sym, subst, rules}
use Rattle.std.proofs.lemmas.Iterator.Adapters.{YieldsList-from_vec}
use Rattle.std.proofs.lemmas.Iterator.Consumers.{YieldsList-end}
use Rattle.std.specs.List.{AllZip}
use Rattle.mol_faults_rules.specs.declared.conflict.Conflict.{Conflict}
use Rattle.mol_log_rules.specs.Logs.{history}
use Rattle.mol_merge.proofs.Zipped.{zip-more}
use Rattle.mol_merge.proofs.bads.bads_of.Goals as goal
use Rattle.mol_merge.specs.Finding.{IsBadIn}

pub loop-fault-init : goal.loop-fault-init
loop-fault-init c =
    subst (AllZip (IsBadIn c.args.supports.now (history c.args.one.now) (history c.args.other.now)) []) (sym c.new-list.ensures) (tt {0})

pub loop-fault-preserved : goal.loop-fault-preserved
loop-fault-preserved c =
    let bad = IsBadIn c.args.supports.now (history c.args.one.now) (history c.args.other.now) in
    subst (AllZip bad (c.loop-fault.yielded ++ c.in-Some.fault ∷ [])) (sym c.in_ok-add.ensures.ok)
    (zip-more bad c.loop-fault.yielded c.loop-fault.list c.in-Some.fault c.in_ok-bad.bad c.loop-fault.invariant c.in_ok-bad.ensures)
