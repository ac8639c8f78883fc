use Rattle.std.proofs.Common.{sym}
use Rattle.std.proofs.lemmas.Result.{IfOk-weaker}
use Rattle.mol_faults_support.proofs.Owners.{owners-between, no-owners-between}
use Rattle.mol_faults_support.proofs.ways.classes_between.Goals as goal

pub returns-in-Some : goal.returns-in-Some
returns-in-Some c = IfOk-weaker c.between_owner.result _ _
    (λ classes. owners-between c.args.table.now c.args.first.now c.args.second.now c.in-Some.owner classes.items (sym c.in-Some.ensures))
    c.between_owner.ensures

pub returns-in-None : goal.returns-in-None
returns-in-None c =
    no-owners-between c.args.table.now c.args.first.now c.args.second.now c.new.result.items c.new.ensures.items (sym c.in-None.ensures)
