use Rattle.std.proofs.lemmas.Result.{IfOk-weaker}
use Rattle.mol_faults_support.specs.Links.{IsConstructed}
use Rattle.mol_faults_support.proofs.Linked.{are-sorted}
use Rattle.mol_faults_support.proofs.links.by_class.Goals as goal

pub returns : goal.returns
returns c =
    IfOk-weaker c.by_key.result _ _ (λ sorted is. are-sorted (IsConstructed c.args.table.now) c.in_ok-links.links.items sorted.items
    c.in_ok-links.ensures is.0 is.1) c.by_key.ensures
